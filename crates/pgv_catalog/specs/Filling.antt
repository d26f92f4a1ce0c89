-- The OIDs that go into the holes of arguments.
use Rattle.std.specs.Prelude.{◌≡◌, ◌≢◌, ◌<◌, ℕ, ◌⊎◌, List, [], ◌∷◌, length, get_or, take, Option, Some, None, ⊤}
use Rattle.pgv_types.specs.Ty.{Ty}
use Rattle.pgv_types.specs.declared.oid.Oid.{Oid}
use Rattle.pgv_buf.specs.Tokens.{hole_types_of, shown}
use Rattle.pgv_wire.specs.Arguments.{Argument, all_cells, early, framed}
use Rattle.pgv_value.specs.declared.error.CodecError.TheVariants.{ParameterCount}
use Rattle.pgv_catalog.specs.declared.error.CatalogError.{CatalogError}
use Rattle.pgv_catalog.specs.declared.error.CatalogError.TheVariants.{Memory, Unknown, Codec}

-- each OID is the one that the catalogue has for the type of its hole, in order
abbrev pub AreNamed : (Ty → Option ℕ) → List Ty → List Oid → Type 0
AreNamed named [] [] = ⊤
AreNamed named [] (oid ∷ oids) = ⊥
AreNamed named (hole ∷ holes) [] = ⊥
AreNamed named (hole ∷ holes) (oid ∷ oids) = (named hole ≡ Some oid.0) × AreNamed named holes oids

-- The hole at this place is the first one with a type that the catalogue does not have: those before it have OIDs.
pub record IsUnknown (named : Ty → Option ℕ) (holes : List Ty) (place : ℕ) : Type 0 where
  pub hole : Ty
  pub within : place < length holes
  pub there : hole ≡ get_or holes place hole
  pub unknown : named hole ≡ None
  pub before : List Oid
  pub are_named : AreNamed named (take place holes) before

abbrev pub OidsRefused : (Ty → Option ℕ) → List Ty → CatalogError → Type 0
OidsRefused named holes e = (e ≡ Memory) ⊎ ((place : ℕ) × (e ≡ Unknown place) × IsUnknown named holes place)

-- the types of the holes of arguments, in order
abbrev pub argument_holes : List Argument → List Ty
argument_holes list = hole_types_of (all_cells list)

-- the bytes are the frames written early with these types, and with the OIDs that the catalogue has for the types of
-- the holes
abbrev pub IsFilled : (Ty → Option ℕ) → List Argument → List Ty → List Argument → Type 0
IsFilled named old types new =
    (oids : List Oid) × AreNamed named (argument_holes old) oids × (shown (all_cells new) ≡ early (framed old) types oids)

-- There are not as many types as arguments; or there are, and memory ran out or the type of a hole isn't known.
abbrev pub FillRefused : (Ty → Option ℕ) → List Argument → List Ty → CatalogError → Type 0
FillRefused named old types e =
    ((e ≡ Codec ParameterCount) × (length types ≢ length old)) ⊎ ((length types ≡ length old) × OidsRefused named (argument_holes old) e)
