-- Numbers as PostgreSQL keeps them ("Numeric Types", 8.1.2; the binary form is that of its source, numeric_send):
-- digits of four decimal places each, where the weight of the first is a power of 10000, and the scale is how many
-- decimal places are shown. Written: words of two bytes: the number of digits, the weight, the sign (0000, or 4000
-- below zero), the scale, and the digits. More than 32767 digits are refused with C7, before memory is asked for, and
-- else the first digit that isn't from 0 to 9999 with C8. The value that is no number is `0000 0000 c000 0000`.
use Rattle.std.specs.Prelude.{ℕ, zero, suc, nat_lt, ◌*◌, not, Bool, true, ◌&&◌, ◌==◌, if◌then◌else◌, ℤ, pos, int_le, List, [], ◌∷◌, ◌++◌, length, take, drop, Option, Some, None, Ok, Err, ⊤}
use Rattle.std.specs.Int.{w16, cast_signed, cast_unsigned, from_be_bytes, to_be_bytes}
use Rattle.std.specs.List.{flat_map}
use Rattle.pgv_buf.specs.Tokens.{Token, bytes}
use Rattle.pgv_codec.specs.Encoding.{Image, image_of, writes}
use Rattle.pgv_value.specs.IntBinary.{fits_signed}
use Rattle.pgv_value.specs.Formats.{in_binary_alone}
use Rattle.pgv_value.specs.Outcome.{Outcome, done, in_place, fails_if, or_fail, allocates, ◌>>=◌, ◌>>◌}
use Rattle.pgv_value.specs.Parsed.{Parsed}
use Rattle.pgv_value.specs.ValueView.{Given}
use Rattle.pgv_value.specs.declared.error.CodecError.TheVariants.{NumericDigits, NumericDigit, Short, NumericSign}
use Rattle.pgv_more.specs.declared.numeric.PgNumericSign.{PgNumericSign}
use Rattle.pgv_more.specs.declared.numeric.PgNumericSign.TheVariants.{Positive, Negative}
use Rattle.pgv_more.specs.declared.numeric.PgNumeric.{PgNumeric}
use Rattle.pgv_more.specs.declared.numeric.PgNumeric.TheVariants.{NotANumber, Number}

-- what a value says: no number, or a sign, digits, the weight of the first and a scale
pub data Numeric : Type 0 where
  not_a_number : Numeric
  number : PgNumericSign → List ℤ → ℤ → ℤ → Numeric

abbrev pub numeric_of : PgNumeric → Numeric
numeric_of NotANumber = not_a_number
numeric_of (Number sign digits weight scale) = number sign digits.items weight scale

-- ---- words of two bytes, the highest first

-- a signed number
abbrev pub word : ℤ → List ℕ
word n = to_be_bytes w16 (cast_unsigned w16 n)

-- the numbers in front, without a sign and with one
abbrev pub unsigned_word : List ℕ → ℕ
unsigned_word form = from_be_bytes w16 (take 2 form)

abbrev pub signed_word : List ℕ → ℤ
signed_word form = cast_signed w16 (unsigned_word form)

-- how a sign is written; 0xc000 is for no number
abbrev pub sign_word : PgNumericSign → ℕ
sign_word Positive = 0
sign_word Negative = 16384

abbrev pub no_number : ℕ
no_number = 49152

-- ---- written

-- the number of digits, the weight, the sign, the scale, and the digits
abbrev pub head_form : ℕ → ℤ → ℕ → ℤ → List ℕ
head_form count weight sign scale = to_be_bytes w16 count ++ (word weight ++ (to_be_bytes w16 sign ++ word scale))

abbrev pub number_form : PgNumericSign → List ℤ → ℤ → ℤ → List ℕ
number_form sign digits weight scale = head_form (length digits) weight (sign_word sign) scale ++ flat_map word digits

-- a digit of four decimal places
abbrev pub is_digit : ℤ → Bool
is_digit d = int_le (pos 0) d && int_le d (pos 9999)

-- a digit; one that isn't from 0 to 9999 is C8, without memory
abbrev pub digit_written : ℤ → Outcome (List Token)
digit_written d = do
  fails_if (not (is_digit d)) (NumericDigit d)
  allocates true
  done (bytes (word d))

-- the first digit that isn't from 0 to 9999 is C8
abbrev pub digits_tested : List ℤ → Parsed ⊤
digits_tested [] = Ok tt
digits_tested (d ∷ ds) = if is_digit d then digits_tested ds else Err (NumericDigit d)

-- digits one after another
abbrev pub digits_written : List ℤ → Outcome (List Token)
digits_written ds = do
  allocates true
  in_place (digits_tested ds)
  done (bytes (flat_map word ds))

-- where the weight and the scale have room
abbrev pub number_image : PgNumericSign → List ℤ → ℤ → ℤ → Option Image
number_image sign digits weight scale = if fits_signed w16 weight && fits_signed w16 scale then Some (image_of (bytes (number_form sign digits weight scale))) else None

-- more than 32767 digits are C7, before memory is asked for
abbrev pub numeric_image : Numeric → Outcome Image
numeric_image not_a_number = writes (Some (image_of (bytes (0 ∷ 0 ∷ 0 ∷ 0 ∷ 192 ∷ 0 ∷ 0 ∷ 0 ∷ []))))
numeric_image (number sign digits weight scale) = do
  fails_if (nat_lt 32767 (length digits)) (NumericDigits (length digits))
  allocates true
  in_place (digits_tested digits)
  writes (number_image sign digits weight scale)

-- ---- read

-- n digits, of any value
abbrev pub digits : ℕ → List ℕ → List ℤ
digits zero form = []
digits (suc n) form = signed_word form ∷ digits n (drop 2 form)

-- the same where there are bytes enough for them; fewer are C15, and memory is asked for where there is a digit
abbrev pub digits_after : ℕ → List ℕ → Outcome (List ℤ)
digits_after n form = do
  fails_if (nat_lt (length form) (2 * n)) Short
  allocates (nat_lt 0 n)
  done (digits n form)

abbrev pub sign_of : ℕ → Option PgNumericSign
sign_of said = if said == 0 then Some Positive else if said == 16384 then Some Negative else None

-- the sign that is after the number of digits and the weight
abbrev pub said_sign : List ℕ → ℕ
said_sign form = unsigned_word (drop 4 form)

-- the number that has this sign
abbrev pub signed_number : List ℕ → PgNumericSign → Outcome Numeric
signed_number form sign = do
  ds ← digits_after (unsigned_word form) (drop 8 form)
  done (number sign ds (signed_word (drop 2 form)) (signed_word (drop 6 form)))

-- a sign that is neither of them is C34
abbrev pub number_in_binary : List ℕ → Outcome Numeric
number_in_binary form = do
  sign ← or_fail (sign_of (said_sign form)) (NumericSign (said_sign form))
  signed_number form sign

-- Fewer than eight bytes are C15. Anything may come after it. Where there is no number, the other words say nothing.
abbrev pub numeric_in_binary : List ℕ → Outcome Numeric
numeric_in_binary form = do
  fails_if (nat_lt (length form) 8) Short
  if said_sign form == no_number then done not_a_number else number_in_binary form

-- a number, in binary alone
abbrev pub parse_numeric : Given → Outcome Numeric
parse_numeric = in_binary_alone numeric_in_binary
