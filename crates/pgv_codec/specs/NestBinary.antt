-- Arrays and records in binary, as what the bytes are and not as how they are read (PostgreSQL: "Arrays", 8.15, and
-- "Composite Types", 8.16; the forms are those of its source, array_send and record_send). An array (`IsArray`) is 0
-- and anything; or 1, flags, OID, count and 1, each of four bytes, and after them frames of the elements
-- (`BeginWithFrames`). Law: `array_is_its_elements`. A record (`IsRecord`) is four bytes, and fields joined by `and`.
-- Each field (`IsRecordField`) is an OID and a frame of a value under the type that `HasFieldType` names. Laws: the
-- decoders of tuples compute it (`tuple_is_its_fields`), and so do their parts (`field_is_its_value`, `record_begins`,
-- `field_type_is_found`).
use Rattle.std.specs.Prelude.{◌≡◌, ◌↔◌, ◌⊎◌, ℕ, suc, ◌<◌, ◌^◌, Bool, true, List, [], ◌∷◌, ◌++◌, length, Some, Ok, ⊤, ◌*◌, ◌≤◌}
use Rattle.std.specs.Int.{w32, to_be_bytes}
use Rattle.pgv_types.specs.Ty.{Ty, builtin, custom, simple, domain, composite, Fields}
use Rattle.pgv_types.specs.Facts.{built_in, oid_of}
use Rattle.pgv_value.specs.FrameBinary.{Part, IsFrame}
use Rattle.pgv_value.specs.FrameLaws.{AreBytes}
use Rattle.pgv_value.specs.Outcome.{Outcome, Reads}
use Rattle.pgv_value.specs.ValueView.{Given, given}
use Rattle.pgv_value.specs.declared.value.PgValueFormat.TheVariants.{Binary}
use Rattle.pgv_codec.specs.ArrayGrammar.{element_type, array_in_binary}
use Rattle.pgv_codec.specs.RecordGrammar.{Left, field_at, field_type, field_in_binary, binary_fields, begin_fields}

-- ---- arrays

-- The bytes begin with a frame of each of these values of a type, one after another. Anything may come after them.
abbrev pub BeginWithFrames : {M : Type 0} → (Given → Outcome M) → Ty → List ℕ → List M → Type 0
BeginWithFrames parse t bytes [] = ⊤
BeginWithFrames parse t bytes (m ∷ ms) = (part : Part) × (rest : List ℕ) × IsFrame bytes part rest × Reads parse (given t Binary part) m × BeginWithFrames parse t rest ms

-- An array of no dimensions has no elements. After the 0 nothing is looked at.
abbrev pub IsWithoutDimensions : {M : Type 0} → List ℕ → List M → Type 0
IsWithoutDimensions bytes ms = (rest_after : List ℕ) × (bytes ≡ to_be_bytes w32 0 ++ rest_after) × (ms ≡ [])

-- An array of one dimension: flags, the OID of the elements' type, how many there are, the lower bound 1, and a frame
-- for each.
pub record IsOneDimension {M : Type 0} (parse : Given → Outcome M) (t : Ty) (bytes : List ℕ) (ms : List M) : Type 0 where
  pub flags : List ℕ
  pub oid : ℕ
  pub element : Ty
  pub frames : List ℕ
  pub whole : bytes ≡ to_be_bytes w32 1 ++ (flags ++ (to_be_bytes w32 oid ++ (to_be_bytes w32 (length ms) ++ (to_be_bytes w32 1 ++ frames))))
  pub four_flags : length flags ≡ 4
  pub oid_fits : oid < 2 ^ 32
  pub count_fits : length ms < 2 ^ 31
  pub typed : element_type t oid ≡ Some element
  pub framed : BeginWithFrames parse element frames ms

-- the bytes are an array of these elements, under a type
abbrev pub IsArray : {M : Type 0} → (Given → Outcome M) → Ty → List ℕ → List M → Type 0
IsArray parse t bytes ms = IsWithoutDimensions bytes ms ⊎ IsOneDimension parse t bytes ms

-- ---- the fields of records

-- The type of the field at a place that has an OID, under a type: the built-in type of the OID, where the type is
-- `record` or a custom one of its OID and of no other kind; the composite type's field there, where it has the OID;
-- and under a domain what it is under its base.
pub data HasFieldType (place oid : ℕ) (found : Ty) : Ty → Type 0 where
  of_record : built_in oid ≡ Some found → HasFieldType place oid found (builtin 2249)
  of_custom_record : (name : List ℕ) → built_in oid ≡ Some found → HasFieldType place oid found (custom 2249 name simple)
  of_composite :
      (own : ℕ) (name : List ℕ) (fields : Fields) → field_at fields place ≡ Some found → oid_of found ≡ Some oid →
      HasFieldType place oid found (custom own name (composite fields))
  of_domain : (own : ℕ) (name : List ℕ) (base : Ty) → HasFieldType place oid found base → HasFieldType place oid found (custom own name (domain base))

-- Fields one after another: under a type, from a place on, these bytes have this meaning, and this comes after.
abbrev pub Stretch : Type 0 → Type 1
Stretch M = Ty → ℕ → List ℕ → M → List ℕ → Type 0

-- One field: the OID of its type, which the reader accepts, and a frame that has the meaning under this type.
pub record IsRecordField {M : Type 0} (accepts : Ty → Bool) (parse : Given → Outcome M) (t : Ty) (place : ℕ) (bytes : List ℕ) (m : M) (rest : List ℕ) : Type 0 where
  pub oid : ℕ
  pub own : Ty
  pub part : Part
  pub rest_after : List ℕ
  pub whole : bytes ≡ to_be_bytes w32 oid ++ rest_after
  pub framed : IsFrame rest_after part rest
  pub oid_fits : oid < 2 ^ 32
  pub typed : HasFieldType place oid own t
  pub accepted : accepts own ≡ true
  pub read : Reads parse (given own Binary part) m

-- one field, and further ones from the next place on
infixr 12 ◌and◌
abbrev pub ◌and◌ : {A B : Type 0} → Stretch A → Stretch B → Stretch (A × B)
(one and further) t place bytes m rest = (between : List ℕ) × one t place bytes m.0 between × further t (suc place) between m.1 rest

-- A record: four bytes for the number of fields, which say nothing here, and the fields. Anything may come after them.
abbrev pub IsRecord : {M : Type 0} → Stretch M → Ty → List ℕ → M → Type 0
IsRecord fields t bytes m = (count : List ℕ) × (rest_after : List ℕ) × (rest : List ℕ) × (bytes ≡ count ++ rest_after) × (length count ≡ 4) × fields t 0 rest_after m rest

-- ---- what is computed is what the bytes are

unfoldable pub ArrayIsItsElements : {M : Type 0} → (Given → Outcome M) → Type 0
ArrayIsItsElements {M} parse = (t : Ty) (bytes : List ℕ) (ms : List M) → AreBytes bytes → ((array_in_binary parse t bytes).answer ≡ Ok ms) ↔ IsArray parse t bytes ms

-- an array has at most a quarter as many elements as bytes
unfoldable pub FewElements : {M : Type 0} → (Given → Outcome M) → Type 0
FewElements {M} parse = (t : Ty) (bytes : List ℕ) (ms : List M) → IsArray parse t bytes ms → 4 * length ms ≤ length bytes

unfoldable pub OneArray : {M : Type 0} → (Given → Outcome M) → Type 0
OneArray {M} parse = (t : Ty) (bytes : List ℕ) (ms others : List M) → IsArray parse t bytes ms → IsArray parse t bytes others → ms ≡ others

abbrev pub FieldTypeIsFound : Type 0
FieldTypeIsFound = (t : Ty) (place oid : ℕ) (found : Ty) → ((field_type t place oid).answer ≡ Ok found) ↔ HasFieldType place oid found t

unfoldable pub FieldIsItsValue : {M : Type 0} → (Ty → Bool) → (Given → Outcome M) → Type 0
FieldIsItsValue {M} accepts parse =
    (t : Ty) (place : ℕ) (bytes : List ℕ) (m : M) (rest : List ℕ) → AreBytes bytes →
    ((field_in_binary accepts parse t place bytes).answer ≡ Ok (m, rest)) ↔ IsRecordField accepts parse t place bytes m rest

unfoldable pub OneField : {M : Type 0} → (Ty → Bool) → (Given → Outcome M) → Type 0
OneField {M} accepts parse =
    (t : Ty) (place : ℕ) (bytes : List ℕ) (m n : M) (rest others : List ℕ) →
    IsRecordField accepts parse t place bytes m rest → IsRecordField accepts parse t place bytes n others → (m ≡ n) × (rest ≡ others)

unfoldable pub RecordBegins : Type 0
RecordBegins =
    (t : Ty) (bytes rest : List ℕ) →
    ((begin_fields (given t Binary (Some bytes))).answer ≡ Ok (binary_fields t 0 rest)) ↔ ((count : List ℕ) × (bytes ≡ count ++ rest) × (length count ≡ 4))

-- something is read from bytes in binary under a type iff the bytes are a record of it
unfoldable pub RecordIsItsFields : {M : Type 0} → (Given → Outcome M) → Stretch M → Type 0
RecordIsItsFields {M} parse fields = (t : Ty) (bytes : List ℕ) (m : M) → AreBytes bytes → Reads parse (given t Binary (Some bytes)) m ↔ IsRecord fields t bytes m

-- Steps that read fields from the bytes that are left find exactly such fields.
abbrev pub FindExactly : {M : Type 0} → (Left → Outcome (M × Left)) → Stretch M → Type 0
FindExactly {M} steps fields =
    (t : Ty) (place : ℕ) (bytes : List ℕ) (m : M) → AreBytes bytes →
    ((left : Left) × ((steps (binary_fields t place bytes)).answer ≡ Ok (m, left))) ↔ ((rest : List ℕ) × fields t place bytes m rest)

-- two relations hold of the same fields
abbrev pub SameFields : {M : Type 0} → Stretch M → Stretch M → Type 0
SameFields {M} one other = (t : Ty) (place : ℕ) (bytes : List ℕ) (m : M) (rest : List ℕ) → one t place bytes m rest ↔ other t place bytes m rest
