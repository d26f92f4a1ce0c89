-- Arrays and records in text, as what their characters are and not as how they are read (PostgreSQL: "Array Input and
-- Output Syntax", 8.15.6; "Composite Type Input and Output Syntax", 8.16.6). An array: the values of an array text,
-- each read in text under the elements' own type (`IsArrayInText`; of as many elements, `IsSizedInText`). A record: the
-- first fields of a record text joined by `before`, each an `IsTextField`, read in text under the type declared by the
-- OID 0 (`IsRecordInText`). The decoders' contracts name functions that compute these. Laws: they do
-- (`array_text_is_its_elements`, `tuple_text_is_its_fields`), and so do the record decoder's calls
-- (`record_text_begins`, `text_field_is_its_value`).
use Rattle.std.specs.Prelude.{◌≡◌, ◌↔◌, ℕ, Bool, true, List, ◌∷◌, drop, length, Some, Ok}
use Rattle.std.specs.Str.{chars}
use Rattle.pgv_types.specs.Ty.{Ty, by_oid}
use Rattle.pgv_text.specs.ArrayText.{IsArrayText}
use Rattle.pgv_text.specs.Copies.{copies_of}
use Rattle.pgv_text.specs.NestPieces.{Pairwise}
use Rattle.pgv_text.specs.RecordText.{IsRecordText}
use Rattle.pgv_text.specs.declared.scanner.TextForm.TheVariants.{Record}
use Rattle.pgv_value.specs.FrameBinary.{Part}
use Rattle.pgv_value.specs.Outcome.{Outcome, Reads}
use Rattle.pgv_value.specs.ValueView.{Given, given}
use Rattle.pgv_value.specs.Text.{is_utf8}
use Rattle.pgv_value.specs.declared.value.PgValueFormat.TheVariants.{Text}
use Rattle.pgv_codec.specs.RecordGrammar.{Left, text_fields, next_field, begin_fields}

-- ---- arrays

-- The bytes are UTF-8, their characters an array text, and its elements are read under a type as these values.
pub record IsArrayInText {M : Type 0} (parse : Given → Outcome M) (t : Ty) (bytes : List ℕ) (ms : List M) : Type 0 where
  pub elements : List Part
  pub utf8 : is_utf8 bytes ≡ true
  pub whole : IsArrayText (chars bytes) elements
  pub each : Pairwise (λ part m. Reads parse (given t Text part) m) elements ms

-- an array of n elements
abbrev pub IsSizedInText : {M : Type 0} → ℕ → (Given → Outcome M) → Ty → List ℕ → List M → Type 0
IsSizedInText n parse t bytes ms = IsArrayInText parse t bytes ms × (length ms ≡ n)

-- ---- records

-- Fields one after the other: these parts have this meaning, and these are the rest.
abbrev pub TextStretch : Type 0 → Type 1
TextStretch M = List Part → M → List Part → Type 0

-- One field: the first part has the meaning, under no type.
abbrev pub IsTextField : {M : Type 0} → (Given → Outcome M) → TextStretch M
IsTextField parse parts m rest = (part : Part) × (parts ≡ part ∷ rest) × Reads parse (given (by_oid 0) Text part) m

-- one field, and further ones after it
infixr 12 ◌before◌
abbrev pub ◌before◌ : {A B : Type 0} → TextStretch A → TextStretch B → TextStretch (A × B)
(one before further) parts m rest = (between : List Part) × one parts m.0 between × further between m.1 rest

-- The bytes are UTF-8, their characters a record text, and its first fields have this meaning.
pub record IsRecordInText {M : Type 0} (fields : TextStretch M) (bytes : List ℕ) (m : M) : Type 0 where
  pub parts : List Part
  pub rest : List Part
  pub utf8 : is_utf8 bytes ≡ true
  pub whole : IsRecordText (chars bytes) parts
  pub read : fields parts m rest

-- ---- what is computed is what the text is

-- something is read from bytes in text, under any type, iff the bytes are it
unfoldable pub TextIs : {M : Type 0} → (Given → Outcome M) → (List ℕ → M → Type 0) → Type 0
TextIs {M} parse Is = (t : Ty) (bytes : List ℕ) (m : M) → Reads parse (given t Text (Some bytes)) m ↔ Is bytes m

-- The fields that are left of a record text at its beginning are all of them.
unfoldable pub RecordTextBegins : Type 0
RecordTextBegins =
    (t : Ty) (bytes : List ℕ) (left : Left) →
    ((begin_fields (given t Text (Some bytes))).answer ≡ Ok left) ↔ ((parts : List Part) × (left ≡ text_fields (length parts) (copies_of Record bytes) parts) × (is_utf8 bytes ≡ true) × IsRecordText (chars bytes) parts)

-- The next field is the first part, and the others are left.
abbrev pub TextFieldIsItsValue : {M : Type 0} → (Ty → Bool) → (Given → Outcome M) → Type 0
TextFieldIsItsValue {M} accepts parse =
    (n : ℕ) (copied : List Bool) (parts : List Part) (m : M) (left : Left) →
    ((next_field accepts parse (text_fields n copied parts)).answer ≡ Ok (m, left)) ↔ ((rest : List Part) × (left ≡ text_fields n (drop 1 copied) rest) × IsTextField parse parts m rest)

-- Steps that read fields from the parts that are left find exactly such fields.
abbrev pub FindInText : {M : Type 0} → (Left → Outcome (M × Left)) → TextStretch M → Type 0
FindInText {M} steps fields =
    (n : ℕ) (copied : List Bool) (parts : List Part) (m : M) →
    ((left : Left) → (steps (text_fields n copied parts)).answer ≡ Ok (m, left) → (later : List Bool) × (rest : List Part) × (left ≡ text_fields n later rest) × fields parts m rest)
    × ((rest : List Part) → fields parts m rest → (later : List Bool) × ((steps (text_fields n copied parts)).answer ≡ Ok (m, text_fields n later rest)))

-- two relations hold of the same parts
abbrev pub SameParts : {M : Type 0} → TextStretch M → TextStretch M → Type 0
SameParts {M} one other = (parts : List Part) (m : M) (rest : List Part) → one parts m rest ↔ other parts m rest
