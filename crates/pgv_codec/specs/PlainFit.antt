-- A plain condition under which values fit a type: the type is resolved and of the value's shape at each place, and
-- each OID that is written is that of the type at its place. An array fits a type that has elements of some type whose
-- own OID was written, if each element fits that; `own` says that no other type has this OID as a built-in. A field
-- fits a composite type, or a domain of one, that has a field at its place whose OID was written and whose type the
-- reader accepts, if the value fits that. Under `record` a built-in stands for the field. Law: `nests_fit`.
use Rattle.std.specs.Prelude.{◌≡◌, ℕ, Bool, true, List, map, take, Some}
use Rattle.pgv_types.specs.Ty.{Ty, builtin, custom, domain, composite, Fields}
use Rattle.pgv_types.specs.Facts.{built_in, oid_of, element_of}
use Rattle.pgv_types.specs.declared.oid.Oid.{Oid}
use Rattle.pgv_codec.specs.Back.{FitEach, holes_of, written_oid, oids_after}
use Rattle.pgv_codec.specs.Encoding.{Encoding, value_type, written_element}
use Rattle.pgv_codec.specs.RecordGrammar.{field_at}

-- a type's own OID, which no other type has as a built-in
abbrev pub IsOwnOid : Ty → ℕ → Type 0
IsOwnOid u oid = (oid_of u ≡ Some oid) × ((other : Ty) → built_in oid ≡ Some other → other ≡ u)

-- the type has elements of some type, whose own OID is written, and each element fits it
abbrev pub ArrayIsPlain : {A : Type 0} → Ty → (A → Encoding) → (A → Ty → List Oid → Type 0) → List A → Ty → List Oid → Type 0
ArrayIsPlain info encoding fits xs t os =
    let own = oid_of (written_element info (map encoding xs)) in
    (u : Ty) × (element_of t ≡ Some u) × IsOwnOid u (written_oid own os) × FitEach encoding fits u xs (oids_after own os)

-- The type of the field at a place: of a composite type, under a domain of its base, and under `record` a built-in
-- type.
pub data HasField (place : ℕ) (found : Ty) : Ty → Type 0 where
  in_composite : (own : ℕ) (name : List ℕ) (fields : Fields) → field_at fields place ≡ Some found → HasField place found (custom own name (composite fields))
  in_domain : (own : ℕ) (name : List ℕ) (base : Ty) → HasField place found base → HasField place found (custom own name (domain base))
  in_record : (oid : ℕ) → oid_of found ≡ Some oid → built_in oid ≡ Some found → HasField place found (builtin 2249)

-- the type has a field there of some type, whose OID is written, which the reader accepts, and the value fits it
abbrev pub FieldIsPlain : {A : Type 0} → Ty → (A → Encoding) → (Ty → Bool) → (A → Ty → List Oid → Type 0) → A → Ty → ℕ → List Oid → Type 0
FieldIsPlain info encoding accepts fits x t place os =
    let own = oid_of (value_type info (encoding x)) in
    (u : Ty) × HasField place u t × (oid_of u ≡ Some (written_oid own os)) × (accepts u ≡ true) × fits x u (take (holes_of (encoding x)) (oids_after own os))
