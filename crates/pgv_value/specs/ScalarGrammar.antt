-- What the plain types read and why they refuse, in binary and in text (PostgreSQL: "Boolean Type", 8.6; "Numeric
-- Types", 8.1.1; "Character Types", 8.3; "Object Identifier Types", 8.19; "UUID Type", 8.12). In binary: integers are
-- one to eight bytes, sign extended, within the type. A bool: the first byte isn't 0. An OID: the first four bytes. A
-- uuid: sixteen bytes.
use Rattle.std.specs.Prelude.{ℕ, Bool, not, ◌==◌, if◌then◌else◌, ℤ, List, [], ◌∷◌, length, Option, Some, None, Ok, Err, ok_or}
use Rattle.std.specs.Int.{Width, w8}
use Rattle.uuid.specs.Text.{parsed}
use Rattle.pgv_scalar_text.specs.IntText.{number_value, unsigned_value}
use Rattle.pgv_scalar_text.specs.ScalarText.{bool_value, char_value}
use Rattle.pgv_value.specs.Fronts.{u32_front}
use Rattle.pgv_value.specs.IntBinary.{whole_number, within, within_32}
use Rattle.pgv_value.specs.Parsed.{Parsed, ◌>>=◌}
use Rattle.pgv_value.specs.Text.{is_utf8}
use Rattle.pgv_value.specs.ValueView.{Given}
use Rattle.pgv_value.specs.declared.error.CodecError.TheVariants.{UnexpectedNull, Utf8, Short, WrongLength, TextUnsupported, Syntax}
use Rattle.pgv_value.specs.declared.value.PgValueFormat.{PgValueFormat}
use Rattle.pgv_value.specs.declared.value.PgValueFormat.TheVariants.{Text, Binary}

-- ---- formats

abbrev pub by_format : {M : Type 0} → (List ℕ → Parsed M) → (List ℕ → Parsed M) → PgValueFormat → Option (List ℕ) → Parsed M
by_format binary text format None = Err UnexpectedNull
by_format binary text Binary (Some bytes) = binary bytes
by_format binary text Text (Some bytes) = if is_utf8 bytes then text bytes else Err Utf8

-- a value by its format; null is C13, and a text that isn't UTF-8 C14
abbrev pub scalar : {M : Type 0} → (List ℕ → Parsed M) → (List ℕ → Parsed M) → Given → Parsed M
scalar binary text v = by_format binary text v.format v.bytes

abbrev pub by_binary : {M : Type 0} → (List ℕ → Parsed M) → PgValueFormat → Option (List ℕ) → Parsed M
by_binary binary format None = Err UnexpectedNull
by_binary binary Binary (Some bytes) = binary bytes
by_binary binary Text (Some bytes) = Err TextUnsupported

-- a value in binary alone; null is C13, and any text C18
abbrev pub binary_alone : {M : Type 0} → (List ℕ → Parsed M) → Given → Parsed M
binary_alone binary v = by_binary binary v.format v.bytes

-- ---- types

-- the first byte, which is zero or not; anything after it
abbrev pub first_is_set : List ℕ → Parsed Bool
first_is_set [] = Err Short
first_is_set (byte ∷ rest_after) = Ok (not (byte == 0))

abbrev pub parse_bool : Given → Parsed Bool
parse_bool = scalar first_is_set (λ text. ok_or (bool_value text) Syntax)

abbrev pub int_in_binary : Width → List ℕ → Parsed ℤ
int_in_binary w bytes = whole_number bytes >>= within w

-- int2, int4, int8, by their width
abbrev pub parse_int : Width → Given → Parsed ℤ
parse_int w = scalar (int_in_binary w) (λ text. ok_or (number_value text) Syntax >>= within w)

-- "char"
abbrev pub parse_char : Given → Parsed ℤ
parse_char = scalar (int_in_binary w8) (λ text. ok_or (char_value text) Syntax)

abbrev pub parse_oid : Given → Parsed ℕ
parse_oid = scalar (λ bytes. u32_front bytes >>= λ n. Ok n.0) (λ text. ok_or (unsigned_value text) Syntax >>= within_32)

abbrev pub parse_uuid : Given → Parsed (List ℕ)
parse_uuid =
    scalar (λ bytes. if length bytes == 16 then Ok bytes else Err (WrongLength (length bytes)))
    (λ text. ok_or (parsed text) Syntax)
