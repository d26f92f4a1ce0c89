-- The body of an ErrorResponse or a NoticeResponse (PostgreSQL: "Message Formats", ErrorResponse; "Error and Notice
-- Message Fields"): fields one after another, each a byte that names it, which is not 0, and a text that a zero byte
-- ends; then a zero byte, and nothing after it. How it is read (`notice`): bytes that end too early are C15, a text
-- that isn't UTF-8 is C14, and bytes after the last zero byte are C17. It is read exactly where it is these fields
-- (`NoticeIsRead`).
use Rattle.std.specs.Prelude.{◌≡◌, ◌↔◌, ℕ, zero, suc, ◌==◌, true, false, List, [], ◌∷◌, ◌++◌, map, flat_map, length, Option, Some, None, Ok, Err, if◌then◌else◌}
use Rattle.std.specs.List.{AllByRecursion}
use Rattle.pgv_value.specs.Text.{is_utf8}
use Rattle.pgv_value.specs.declared.error.CodecError.TheVariants.{Short}
use Rattle.pgv_value.specs.Fronts.{name_front}
use Rattle.pgv_value.specs.Outcome.{Outcome, after, in_place, allocates, ◌>>◌}
use Rattle.pgv_value.specs.Parsed.{Parsed, ◌>>=◌}
use Rattle.pgv_message.specs.declared.response.PgField.{PgField}
use Rattle.pgv_message.specs.declared.response.PgNotice.{PgNotice}
use Rattle.pgv_message.specs.Bodies.{whole_body}

pub record Field : Type 0 where
  pub code : ℕ
  pub text : List ℕ

abbrev pub field_view : PgField → Field
field_view f = record { code = f.code; text = f.text.now }

abbrev pub fields_of_notice : PgNotice → List Field
fields_of_notice n = map field_view n.fields.items

-- ---- what a body is

abbrev pub notice_field_bytes : Field → List ℕ
notice_field_bytes f = f.code ∷ (f.text ++ 0 ∷ [])

-- a field's byte is not 0, and its text has no zero byte and is UTF-8
pub record IsNoticeField (f : Field) : Type 0 where
  pub code : (f.code == 0) ≡ false
  pub none : AllByRecursion (λ b. (b == 0) ≡ false) f.text
  pub text : is_utf8 f.text ≡ true

-- the fields, and a zero byte
pub record IsNotice (bytes : List ℕ) (fields : List Field) : Type 0 where
  pub whole : bytes ≡ flat_map notice_field_bytes fields ++ 0 ∷ []
  pub each : AllByRecursion IsNoticeField fields

-- ---- how it is read

-- at most n fields, up to a zero byte, and the rest
unfoldable pub fields_in : ℕ → List ℕ → Parsed (List Field × List ℕ)
fields_in n [] = Err Short
fields_in zero (code ∷ rest) = if code == 0 then Ok ([], rest) else Err Short
fields_in (suc n) (code ∷ rest) =
    if code == 0 then Ok ([], rest) else
    name_front rest >>= λ text. fields_in n text.1 >>= λ more. Ok (record { code = code; text = text.0 } ∷ more.0, more.1)

-- the fields up to a zero byte, where memory may have been asked for
abbrev pub fields_front : List ℕ → Outcome (List Field × List ℕ)
fields_front bytes = after true (in_place (fields_in (length bytes) bytes))

-- each field takes bytes, so there are no more of them than bytes
unfoldable pub notice_fields : List ℕ → Parsed (List Field)
notice_fields bytes = fields_in (length bytes) bytes >>= λ list. whole_body bytes list.0 list.1

abbrev pub notice : List ℕ → Outcome (List Field)
notice bytes = allocates true >> in_place (notice_fields bytes)

-- ---- fields

-- the text of the first field that a byte names
abbrev pub text_by : ℕ → List Field → Option (List ℕ)
text_by code [] = None
text_by code (f ∷ fs) = if f.code == code then Some f.text else text_by code fs

-- ---- laws

-- A body is read as fields exactly where it is these fields.
unfoldable pub NoticeIsRead : Type 0
NoticeIsRead = (bytes : List ℕ) (fields : List Field) → (notice_fields bytes ≡ Ok fields) ↔ IsNotice bytes fields
