-- Records (PostgreSQL: "Composite Types", 8.16; the binary form is that of its source, record_send): what is read, why
-- it is refused and where memory is asked for. In binary: any four bytes for the number of fields, then for each field
-- that is read an OID and a frame. Under `record` the field's type is the built-in of its OID. Under a composite it is
-- the field at that place, whose `oid` must be that one. A domain is followed to its base. The Rust type must be
-- compatible with the field's type. In text the values of a record text. Memory is asked for by the copy of a field's
-- custom type, by the copy of a field's text that isn't in the text as it is, and by what a field's own type asks for.
use Rattle.std.specs.Prelude.{◌≡◌, ℕ, zero, suc, not, ◌==◌, Bool, List, [], ◌∷◌, drop, length, Option, Some, None, if◌then◌else◌, refl}
use Rattle.std.specs.Coded.{Coded, code_by, coded×, coded_ℕ, coded_bool, coded_list, coded_option}
use Rattle.pgv_types.specs.Ty.{Ty, ty_code, builtin, custom, named, by_oid, array_of, Kind, simple, pseudo, domain, composite, array, enumeration, range, Fields, no_fields, field}
use Rattle.pgv_types.specs.Facts.{built_in, has_oid, is_custom}
use Rattle.pgv_text.specs.Copies.{copies_of, first_copied}
use Rattle.pgv_text.specs.Values.{record_values}
use Rattle.pgv_text.specs.declared.scanner.TextForm.TheVariants.{Record}
use Rattle.pgv_value.specs.FrameBinary.{Part}
use Rattle.pgv_value.specs.Fronts.{u32_at, value_at}
use Rattle.pgv_value.specs.Outcome.{Outcome, done, fails, fails_if, or_fail, allocates, ◌>>=◌, ◌>>◌}
use Rattle.pgv_value.specs.Text.{is_utf8}
use Rattle.pgv_value.specs.ValueView.{Given, given}
use Rattle.pgv_value.specs.declared.error.CodecError.TheVariants.{UnexpectedNull, Utf8, Syntax, NoField, NotARecord, FieldOid, FieldTypeUnknown, MismatchedTypes}
use Rattle.pgv_value.specs.declared.value.PgValueFormat.{PgValueFormat}
use Rattle.pgv_value.specs.declared.value.PgValueFormat.TheVariants.{Text, Binary}

-- ---- the types of fields

-- the type of the field at a place of a composite type
abbrev pub field_at : Fields → ℕ → Option Ty
field_at no_fields place = None
field_at (field name t rest) zero = Some t
field_at (field name t rest) (suc place) = field_at rest place

-- under a type that says nothing of its fields: the built-in of the OID
abbrev pub by_own_oid : ℕ → ℕ → Outcome Ty
by_own_oid own oid =
    if own == 2249 then or_fail (built_in oid) (FieldTypeUnknown (record { 0 = oid })) else fails NotARecord

-- under a composite type: the field's own, if it has this OID
abbrev pub composite_field : ℕ → Option Ty → ℕ → Outcome Ty
composite_field place None oid = fails (NoField place)
composite_field place (Some t) oid = do
  fails_if (not (has_oid oid t)) FieldOid
  allocates (is_custom t)
  done t

-- The type of the field at a place that has this OID: under the type `record`, or a custom one of its OID and of no
-- other kind, the built-in type of the OID; under a composite type that of the field there, if it has that OID; under
-- a domain as under its base.
abbrev mutual
  pub field_type : Ty → ℕ → ℕ → Outcome Ty
  field_type (builtin own) place oid = by_own_oid own oid
  field_type (custom own name kind) place oid = field_type_in own kind place oid
  field_type (named name) place oid = fails NotARecord
  field_type (by_oid own) place oid = fails NotARecord
  field_type (array_of name) place oid = fails NotARecord

  pub field_type_in : ℕ → Kind → ℕ → ℕ → Outcome Ty
  field_type_in own simple place oid = by_own_oid own oid
  field_type_in own pseudo place oid = fails NotARecord
  field_type_in own (domain base) place oid = field_type base place oid
  field_type_in own (composite fields) place oid = composite_field place (field_at fields place) oid
  field_type_in own (array element) place oid = fails NotARecord
  field_type_in own (enumeration labels) place oid = fails NotARecord
  field_type_in own (range element) place oid = fails NotARecord

-- ---- one field

-- the type of the next field, and what comes after its OID
unfoldable pub field_head : Ty → ℕ → List ℕ → Outcome (Ty × List ℕ)
field_head t place bytes = do
  fails_if (length bytes == 0) (NoField place)
  oid ← u32_at bytes
  own ← field_type t place oid.0
  done (own, oid.1)

-- the next field in binary, and the bytes after it
unfoldable pub field_in_binary : {M : Type 0} → (Ty → Bool) → (Given → Outcome M) → Ty → ℕ → List ℕ → Outcome (M × List ℕ)
field_in_binary accepts parse t place bytes = do
  h ← field_head t place bytes
  fails_if (not (accepts h.0)) MismatchedTypes
  value ← value_at h.0 h.1
  m ← parse value.0
  done (m, value.1)

-- ---- what is left of a record

-- in binary the record's type, the place of the next field and the bytes of the fields that are left; in text how many
-- fields the text has, whether each field that is left is copied when it is read, and the texts of these fields
pub data Left : Type 0 where
  binary_fields : Ty → ℕ → List ℕ → Left
  text_fields : ℕ → List Bool → List Part → Left

-- The next field, and what is left after it. Without one in text it is C25, with the number of fields that the text
-- has.
abbrev pub next_field : {M : Type 0} → (Ty → Bool) → (Given → Outcome M) → Left → Outcome (M × Left)
next_field accepts parse (binary_fields t place bytes) = do
  x ← field_in_binary accepts parse t place bytes
  done (x.0, binary_fields t (suc place) x.1)
next_field accepts parse (text_fields n copied []) = fails (NoField n)
next_field accepts parse (text_fields n copied (part ∷ parts)) = do
  allocates (first_copied copied)
  m ← parse (given (by_oid 0) Text part)
  done (m, text_fields n (drop 1 copied) parts)

-- ---- whole records

abbrev pub fields_in_text : List ℕ → Outcome Left
fields_in_text text = do
  parts ← or_fail (record_values text) Syntax
  done (text_fields (length parts) (copies_of Record text) parts)

abbrev pub fields_by : Ty → PgValueFormat → Option (List ℕ) → Outcome Left
fields_by t format None = fails UnexpectedNull
fields_by t Text (Some bytes) = do
  fails_if (not (is_utf8 bytes)) Utf8
  fields_in_text bytes
fields_by t Binary (Some bytes) = do
  count ← u32_at bytes
  done (binary_fields t 0 count.1)

-- what is left of a record of which no field was read: in binary all after the number of fields, in text all values of
-- a record text
abbrev pub begin_fields : Given → Outcome Left
begin_fields v = fields_by v.type_info v.format v.bytes

-- one step after the other, and what both read
infixr 12 ◌then◌
abbrev pub ◌then◌ : {A B : Type 0} → (Left → Outcome (A × Left)) → (Left → Outcome (B × Left)) → Left → Outcome ((A × B) × Left)
(first then second) left = do
  x ← first left
  y ← second x.1
  done ((x.0, y.0), y.1)

-- what the steps read from the first field on; further fields are ignored
abbrev pub parse_record : {A : Type 0} → (Left → Outcome (A × Left)) → Given → Outcome A
parse_record steps v = do
  left ← begin_fields v
  x ← steps left
  done x.0

-- ---- how the logic stores what is left

abbrev pub StoredLeft : Type 0
StoredLeft = Option (List Bool × List Part) × (Ty × (ℕ × List ℕ))

abbrev pub stored_left : Left → StoredLeft
stored_left (binary_fields t place bytes) = (None, (t, (place, bytes)))
stored_left (text_fields n copied parts) = (Some (copied, parts), (builtin 0, (n, [])))

abbrev pub restored_by : Option (List Bool × List Part) → Ty × (ℕ × List ℕ) → Left
restored_by None b = binary_fields b.0 b.1.0 b.1.1
restored_by (Some a) b = text_fields b.1.0 a.0 a.1

abbrev pub restored : StoredLeft → Left
restored s = restored_by s.0 s.1

pub restored-again : (l : Left) → restored (stored_left l) ≡ l
restored-again (binary_fields t place bytes) = refl
restored-again (text_fields n copied parts) = refl

abbrev pub left_code : Coded Left
left_code = code_by StoredLeft
    (coded× (coded_option (coded× (coded_list coded_bool) (coded_list (coded_option (coded_list coded_ℕ))))) (coded× ty_code (coded× coded_ℕ (coded_list coded_ℕ))))
    stored_left restored restored-again
