-- Strings of bytes (PostgreSQL: "Binary Data Types", 8.4) and text without case (appendix F, citext). Written, they are
-- their bytes. A `PgByteaArray<N>` has no image for a list of another length. Read: in binary any bytes. A text is `\x`
-- and two hex digits of either case for each byte, the high one first (`IsByteaText`). Of N bytes another number is
-- refused with C17, and a text that denotes no bytes with C29. Text without case is read as `text` is. Law:
-- `bytea_text_is_read`.
use Rattle.std.specs.Prelude.{◌≡◌, ◌↔◌, ℕ, ◌==◌, ◌&&◌, Bool, codes, List, [], ◌∷◌, ◌++◌, length, Option, Some, None, Result, Ok, Err, ok_or, if◌then◌else◌}
use Rattle.std.specs.Option.{option_and_then}
use Rattle.std.specs.List.{list_all}
use Rattle.hex.specs.Hex.{decode_of, is_hex_digit}
use Rattle.pgv_characters.specs.Characters.{backslash, lower_x}
use Rattle.pgv_buf.specs.Tokens.{bytes}
use Rattle.pgv_codec.specs.Encoding.{Image, image_of}
use Rattle.pgv_value.specs.Outcome.{Outcome, copied}
use Rattle.pgv_value.specs.Parsed.{Parsed, ◌>>=◌}
use Rattle.pgv_value.specs.ValueView.{Given}
use Rattle.pgv_value.specs.declared.error.CodecError.TheVariants.{UnexpectedNull, Syntax, WrongLength}
use Rattle.pgv_value.specs.declared.value.PgValueFormat.{PgValueFormat}
use Rattle.pgv_value.specs.declared.value.PgValueFormat.TheVariants.{Text, Binary}
use Rattle.pgv_more.specs.MacAddressText.{IsPair}

-- ---- which texts these are

-- two digits for each byte
abbrev pub ArePairs : List ℕ → List ℕ → Type 0
ArePairs [] text = text ≡ []
ArePairs (byte ∷ more) text = (high : ℕ) × (low : ℕ) × (rest : List ℕ) × (text ≡ high ∷ low ∷ rest) × IsPair high low byte × ArePairs more rest

-- `\x` and the digits
abbrev pub IsByteaText : List ℕ → List ℕ → Type 0
IsByteaText text value = (digits : List ℕ) × (text ≡ codes "\\x" ++ digits) × ArePairs value digits

-- ---- what is read

-- the digits after `\x`
abbrev pub after_prefix : List ℕ → Option (List ℕ)
after_prefix [] = None
after_prefix (a ∷ []) = None
after_prefix (a ∷ b ∷ digits) = if a == backslash && b == lower_x then Some digits else None

abbrev pub where_ok : {E A : Type 0} → Result A E → Option A
where_ok (Ok a) = Some a
where_ok (Err e) = None

abbrev pub bytea_in_text : List ℕ → Option (List ℕ)
bytea_in_text text = option_and_then (λ digits. where_ok (decode_of digits)) (after_prefix text)

-- in binary the bytes as they are; a text isn't tested for UTF-8, and one that denotes no bytes is C29
abbrev pub bytea_part : PgValueFormat → Option (List ℕ) → Parsed (List ℕ)
bytea_part f None = Err UnexpectedNull
bytea_part Text (Some text) = ok_or (bytea_in_text text) Syntax
bytea_part Binary (Some value) = Ok value

abbrev pub parse_bytea : Given → Outcome (List ℕ)
parse_bytea v = copied (bytea_part v.format v.bytes)

-- ---- strings of n bytes

-- another number of them is C17
abbrev pub of_length : ℕ → List ℕ → Parsed (List ℕ)
of_length n value = if length value == n then Ok value else Err (WrongLength (length value))

abbrev pub sized_in_text : ℕ → List ℕ → Parsed (List ℕ)
sized_in_text n text = ok_or (bytea_in_text text) Syntax >>= of_length n

abbrev pub parse_bytea_sized : ℕ → Given → Parsed (List ℕ)
parse_bytea_sized n v = bytea_part v.format v.bytes >>= of_length n

-- a list of another length is not one of their values
abbrev pub bytea_sized_image : ℕ → List ℕ → Option Image
bytea_sized_image n value = if length value == n then Some (image_of (bytes value)) else None

-- each is a hex digit, of either case
abbrev pub all_digits : List ℕ → Bool
all_digits digits = list_all is_hex_digit digits

unfoldable pub ByteaTextIsRead : Type 0
ByteaTextIsRead = (text value : List ℕ) → (bytea_in_text text ≡ Some value) ↔ IsByteaText text value

unfoldable pub OneByteaText : Type 0
OneByteaText = (text first second : List ℕ) → IsByteaText text first → IsByteaText text second → first ≡ second
