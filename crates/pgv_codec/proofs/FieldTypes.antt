-- Types of a record's fields.
use Rattle.std.proofs.Common.{◌≡◌, ℕ, zero, suc, List, [], ◌∷◌, option_map, refl}
use Rattle.std.specs.Prelude.{slice_get}
use Rattle.std.specs.declared.rc.RcStr.{RcStr}
use Rattle.std.specs.declared.alloc.Global.{Global}
use Rattle.pgv_types.specs.Ty.{Ty, Kind, composite, builtin, custom, named, by_oid, array_of, simple, pseudo, domain, array, enumeration, range}
use Rattle.pgv_types.specs.Shown.{fields_of}
use Rattle.pgv_codec.specs.RecordGrammar.{field_at, field_type_in, composite_field, field_type}
use Rattle.pgv_types.specs.Facts.{under_domains, under_domains_in}

-- ---- the fields of a composite type, as a list

pub field_at-list : (fields : List (RcStr Global × Ty)) (place : ℕ) → field_at (fields_of fields) place ≡ option_map (λ (x : RcStr Global × Ty). x.1) (slice_get fields place)
field_at-list [] zero = refl
field_at-list [] (suc place) = refl
field_at-list (f ∷ fields) zero = refl
field_at-list (f ∷ fields) (suc place) = field_at-list fields place

-- the type of a composite type's field
pub composite_type : (own : ℕ) (kind : Kind) (fields : List (RcStr Global × Ty)) (place oid : ℕ) → kind ≡ composite (fields_of fields) →
    field_type_in own kind place oid ≡ composite_field place (option_map (λ (x : RcStr Global × Ty). x.1) (slice_get fields place)) oid
composite_type own kind fields place oid e = rw (e, field_at-list fields place) refl

-- ---- domains over one another: a field's type is what it is under the type that lies under all of them

module _ (place oid : ℕ) where
  mutual
    pub type_under : (t : Ty) → field_type (under_domains t) place oid ≡ field_type t place oid
    type_under (builtin own) = refl
    type_under (custom own name kind) = type_under_in own name kind
    type_under (named name) = refl
    type_under (by_oid own) = refl
    type_under (array_of name) = refl

    type_under_in : (own : ℕ) (name : List ℕ) (kind : Kind) → field_type (under_domains_in (custom own name kind) kind) place oid ≡ field_type_in own kind place oid
    type_under_in own name simple = refl
    type_under_in own name pseudo = refl
    type_under_in own name (domain base) = type_under base
    type_under_in own name (composite _) = refl
    type_under_in own name (array element) = refl
    type_under_in own name (enumeration labels) = refl
    type_under_in own name (range element) = refl
