-- Texts in UTF-8 (PostgreSQL: "Character Set Support", 24.3).
use Rattle.std.specs.Prelude.{◌≡◌, ℕ, List, length, Option, Some, None, Result, Ok, Err, Bool, true, false, ◌==◌, if◌then◌else◌}
use Rattle.std.specs.Str.Lossy.{utf8_valid_len}
use Rattle.pgv_value.specs.Outcome.{Outcome, copied}
use Rattle.pgv_value.specs.Parsed.{Parsed}
use Rattle.pgv_value.specs.ValueView.{Given}
use Rattle.pgv_value.specs.declared.error.CodecError.{CodecError}
use Rattle.pgv_value.specs.declared.error.CodecError.TheVariants.{UnexpectedNull, Utf8}

-- whether the bytes are UTF-8 to their end
abbrev pub is_utf8 : List ℕ → Bool
is_utf8 bytes = utf8_valid_len bytes == length bytes

-- what was returned, seen by view, is the text of these bytes, or exactly why they have none: null is C13, and other
-- bytes than UTF-8 are C14
abbrev pub GivesText : {V : Type 0} → (V → List ℕ) → Option (List ℕ) → Result V CodecError → Type 0
GivesText view bytes (Ok v) = (bytes ≡ Some (view v)) × (is_utf8 (view v) ≡ true)
GivesText view None (Err e) = e ≡ UnexpectedNull
GivesText view (Some bytes) (Err e) = (e ≡ Utf8) × (is_utf8 bytes ≡ false)

-- the bytes, if they are UTF-8
abbrev pub utf8_part : Option (List ℕ) → Parsed (List ℕ)
utf8_part None = Err UnexpectedNull
utf8_part (Some bytes) = if is_utf8 bytes then Ok bytes else Err Utf8

-- a text, in either format
abbrev pub parse_text : Given → Outcome (List ℕ)
parse_text v = copied (utf8_part v.bytes)
