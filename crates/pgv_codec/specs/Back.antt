-- What was written is read back: the law that a type states of its values, and where optional values, arrays and the
-- fields of records fit a type. A type states what a value keeps (`kept`), and under which types and with which OIDs it
-- comes back (`fits`). For every value with an image, every parameter's type or none, every type and all OIDs that fit,
-- what is written is read in binary under that type as what the value keeps (`ReadsBack`). OIDs are numbers of 32 bits
-- (`AreOids`), and each case of a slot is as long as its default (`SlotsFit`), as `push_slot` asks. What fits. A plain
-- value fits every type. None does, and Some where its value does; Some of a value that is written as null is kept as
-- None. An array fits where the type of its elements exists, by the OID that was written and by the array's type, and
-- each element fits it (`ArrayFits`). A field of a record fits where the type at its place exists, by the OID that was
-- written, the reader accepts it and the value fits it (`FieldFits`). Each part takes the OIDs of its own holes, in
-- order (`FitEach`, `FieldsFit`).
use Rattle.std.specs.Prelude.{◌≡◌, ℕ, suc, ◌<◌, ◌^◌, Bool, true, false, if◌then◌else◌, List, [], ◌∷◌, ◌++◌, length, map, take, drop, Option, Some, None, Ok, ⊤}
use Rattle.pgv_types.specs.Ty.{Ty}
use Rattle.pgv_types.specs.Facts.{oid_of}
use Rattle.pgv_types.specs.declared.oid.Oid.{Oid}
use Rattle.pgv_buf.specs.Fill.{first_number}
use Rattle.pgv_buf.specs.Proper.{rest_of}
use Rattle.pgv_buf.specs.Tokens.{Token, byte, hole, slot, bytes, be4, tokens_holes, CasesFit}
use Rattle.pgv_value.specs.Outcome.{Outcome, ok_of}
use Rattle.pgv_value.specs.Reading.{Reading}
use Rattle.pgv_value.specs.ValueView.{Given, given}
use Rattle.pgv_value.specs.declared.value.PgValueFormat.TheVariants.{Binary}
use Rattle.pgv_codec.specs.Writing.{write}
use Rattle.pgv_codec.specs.ArrayGrammar.{element_type}
use Rattle.pgv_codec.specs.NestBinary.{HasFieldType}
use Rattle.pgv_codec.specs.Encoding.{Encoding, Image, null_image, image_of, value_type, writes, field, fields_from, record_image, written_element}
use Rattle.pgv_codec.specs.Writing.{image_holes, written_part}
use Rattle.pgv_codec.specs.RecordGrammar.{Left, binary_fields, next_field, begin_fields}

-- OIDs are numbers of 32 bits
abbrev pub AreOids : List Oid → Type 0
AreOids [] = ⊤
AreOids (o ∷ os) = (o.0 < 2 ^ 32) × AreOids os

-- each case of a slot has as many bytes as its default, as a buffer wants it of the slots that are pushed
abbrev pub SlotsFit : List Token → Type 0
SlotsFit [] = ⊤
SlotsFit (byte x ∷ ts) = SlotsFit ts
SlotsFit (hole t ∷ ts) = SlotsFit ts
SlotsFit (slot d cs ∷ ts) = CasesFit (length d) cs × SlotsFit ts

abbrev pub ImageFits : Image → Type 0
ImageFits null_image = ⊤
ImageFits (image_of ts) = SlotsFit ts

-- The law: for a value with an image, for every parameter type, or none with each slot at its default, under every type
-- and with all OIDs in the holes that fit, the part that is written so is read in binary as what the value keeps.
abbrev pub ReadsBack : {A M : Type 0} → (A → Encoding) → Reading M → (A → M) → (A → Ty → List Oid → Type 0) → Type 0
ReadsBack {A} encoding reading kept fits =
    (v : A) (i : Image) (t : Ty) (p : Option Ty) (os : List Oid) → ok_of (encoding v).image.answer ≡ Some i → ImageFits i → AreOids os → fits v t os → reading t Binary (written_part i p os) ≡ Some (kept v)

-- the image that is written, where there is one
pub image_is : (o : Option Image) (i : Image) → ok_of (writes o).answer ≡ Some i → o ≡ Some i
image_is None i e = absurd cc
image_is (Some j) i e = e

-- ---- plain types fit every type

abbrev pub always : {A : Type 0} → A → Ty → List Oid → Type 0
always v t os = ⊤

-- ---- optional values

abbrev pub is_null : Option Image → Bool
is_null None = false
is_null (Some null_image) = true
is_null (Some (image_of ts)) = false

-- a value that is written as null comes back as None
abbrev pub option_kept : {A : Type 0} → (A → Encoding) → (A → A) → Option A → Option A
option_kept encoding kept None = None
option_kept encoding kept (Some x) = if is_null (ok_of (encoding x).image.answer) then None else Some (kept x)

abbrev pub option_fits : {A : Type 0} → (A → Ty → List Oid → Type 0) → Option A → Ty → List Oid → Type 0
option_fits fits None t os = ⊤
option_fits fits (Some x) t os = fits x t os

-- ---- types that are written

-- the OID that a type is written by: its own, or the one in its hole
abbrev pub written_oid : Option ℕ → List Oid → ℕ
written_oid (Some o) os = o
written_oid None os = first_number os

-- the OIDs that are left after it
abbrev pub oids_after : Option ℕ → List Oid → List Oid
oids_after (Some o) os = os
oids_after None os = rest_of os

-- how many OIDs an image takes, where there is one
abbrev pub holes_in : Option Image → ℕ
holes_in None = 0
holes_in (Some i) = image_holes i

-- how many OIDs a value takes
abbrev pub holes_of : Encoding → ℕ
holes_of e = holes_in (ok_of e.image.answer)

-- ---- arrays

-- each element fits the type, with the OIDs of its own holes
abbrev pub FitEach : {A : Type 0} → (A → Encoding) → (A → Ty → List Oid → Type 0) → Ty → List A → List Oid → Type 0
FitEach encoding fits u [] os = ⊤
FitEach encoding fits u (x ∷ xs) os = fits x u (take (holes_of (encoding x)) os) × FitEach encoding fits u xs (drop (holes_of (encoding x)) os)

-- elements fit the type of their array where the type of the elements exists, by the OID that is written and by the
-- array's type, and each fits that
abbrev pub ArrayFits : {A : Type 0} → Ty → (A → Encoding) → (A → Ty → List Oid → Type 0) → List A → Ty → List Oid → Type 0
ArrayFits info encoding fits xs t os =
    let own = oid_of (written_element info (map encoding xs)) in
    (u : Ty) × (element_type t (written_oid own os) ≡ Some u) × FitEach encoding fits u xs (oids_after own os)

-- ---- the fields of records

-- how many OIDs a field takes, its type's among them
abbrev pub holes_among : Option (List Token) → ℕ
holes_among None = 0
holes_among (Some ts) = tokens_holes ts

abbrev pub field_holes : Outcome (List Token) → ℕ
field_holes f = holes_among (ok_of f.answer)

-- A field fits a record's type at a place where the type of the field there exists, by the OID that is written, the
-- reader accepts it, and the value fits it.
abbrev pub FieldFits : {A : Type 0} → Ty → (A → Encoding) → (Ty → Bool) → (A → Ty → List Oid → Type 0) → A → Ty → ℕ → List Oid → Type 0
FieldFits info encoding accepts fits x t place os =
    let own = oid_of (value_type info (encoding x)) in
    (u : Ty) × HasFieldType place (written_oid own os) u t × (accepts u ≡ true) × fits x u (take (holes_of (encoding x)) (oids_after own os))

-- fields fit from a place on: the first, which is written so, and the further ones with the OIDs that it leaves
abbrev pub Followed : (Ty → ℕ → List Oid → Type 0) → Outcome (List Token) → (Ty → ℕ → List Oid → Type 0) → Ty → ℕ → List Oid → Type 0
Followed one written further t place os = one t place os × further t (suc place) (drop (field_holes written) os)

-- a field that is read fits, and so do the further ones
abbrev pub FieldsFit : {A : Type 0} → Ty → (A → Encoding) → (Ty → Bool) → (A → Ty → List Oid → Type 0) → A → (Ty → ℕ → List Oid → Type 0) → Ty → ℕ → List Oid → Type 0
FieldsFit info encoding accepts fits x further = Followed (FieldFits info encoding accepts fits x) (field info (encoding x)) further

-- A field that was written is the next that is read, whatever comes after it, under each type that fits; and what
-- comes after it is left, with the OIDs that are left.
unfoldable pub FieldReadsBack : {A M : Type 0} → Ty → (A → Encoding) → (Ty → Bool) → (Given → Outcome M) → (A → M) → (A → Ty → List Oid → Type 0) → Type 0
FieldReadsBack {A} info encoding accepts parse kept fits =
    (x : A) (g after : List Token) (t : Ty) (place : ℕ) (p : Option Ty) (os : List Oid) →
    (field info (encoding x)).answer ≡ Ok g → SlotsFit g → AreOids os → FieldFits info encoding accepts fits x t place os →
    (next_field accepts parse (binary_fields t place (write p os (g ++ after)))).answer ≡ Ok (kept x, binary_fields t (suc place) (write p (drop (tokens_holes g) os) after))

-- before the first field of a written record is read, all its fields are left
abbrev pub RecordFieldsFollow : Type 0
RecordFieldsFollow =
    (fs : List (Outcome (List Token))) (i : Image) (t : Ty) (p : Option Ty) (os : List Oid) → (record_image fs).answer ≡ Ok i →
    (gs : List Token) × ((fields_from 0 fs).answer ≡ Ok gs) × (image_of (bytes (be4 (length fs)) ++ gs) ≡ i) × ((begin_fields (given t Binary (written_part i p os))).answer ≡ Ok (binary_fields t 0 (write p os gs)))

-- Steps that read back fields that are written one after another. Further fields may come after those that are read,
-- and others before.
pub record FieldsBack {M : Type 0} (steps : Left → Outcome (M × Left)) (fs : List (Outcome (List Token))) (kept : M) (fit : Ty → ℕ → List Oid → Type 0) : Type 0 where
  pub back :
      (n : ℕ) (t : Ty) (place : ℕ) (p : Option Ty) (os : List Oid) (gs : List Token) → (fields_from n fs).answer ≡ Ok gs → SlotsFit gs → AreOids os → fit t place os →
      (left : Left) × ((steps (binary_fields t place (write p os gs))).answer ≡ Ok (kept, left))

-- what is written as a record of these fields is read in binary as what is kept of those that are read
abbrev pub RecordReadsBack : {M : Type 0} → Reading M → List (Outcome (List Token)) → M → (Ty → ℕ → List Oid → Type 0) → Type 0
RecordReadsBack reading fs kept fit =
    (i : Image) (t : Ty) (p : Option Ty) (os : List Oid) → (record_image fs).answer ≡ Ok i → ImageFits i → AreOids os → fit t 0 os → reading t Binary (written_part i p os) ≡ Some kept
