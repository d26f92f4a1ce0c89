-- The texts of whole numbers (PostgreSQL: "Numeric Types", 8.1.1; "Object Identifier Types", 8.19): an optional sign
-- and one or more digits (`IsNumber`). For an OID the sign may only be `+` (`IsUnsignedNumber`).
use mir.Syntax.{w64}
use Rattle.pgv_scalar_text.specs.declared.int.NumberFault.{NumberFault}
use Rattle.pgv_scalar_text.specs.declared.int.NumberFault.TheVariants.{Syntax, OutOfRange}
use Rattle.std.specs.Prelude.{◌≡◌, ◌↔◌, FitsSigned, Result, Ok, Err, Option, Some, None, ℕ, ◌+◌, ◌<◌, ◌^◌, ℤ, pos, neg_ℤ, Bool, true, false, if◌then◌else◌, not, ◌&&◌, nat_lt, ◌==◌, List, [], ◌∷◌, ◌++◌, map, length}
use Rattle.std.specs.List.{AllByRecursion, list_all}
use Rattle.std.specs.Char.{digit_value}
use Rattle.std.specs.Int.Digits.{number_from_digits}
use Rattle.std.specs.Str.Parse.{digits_value, signed_digits_value, without_leading_plus, without_leading_sign}
use Rattle.pgv_characters.specs.Characters.{plus_sign, hyphen, digit_zero}

pub data Sign : Type 0 where
  none : Sign
  plus : Sign
  minus : Sign

abbrev pub sign_text : Sign → List ℕ
sign_text none = []
sign_text plus = plus_sign ∷ []
sign_text minus = hyphen ∷ []

abbrev pub signed : Sign → ℕ → ℤ
signed none n = pos n
signed plus n = pos n
signed minus n = neg_ℤ (pos n)

-- The text is this number: perhaps a sign, and one or more digits.
pub record IsNumber (text : List ℕ) (n : ℤ) : Type 0 where
  pub sign : Sign
  pub digits : List ℕ
  pub some : 0 < length digits
  pub each : AllByRecursion (λ d. d < 10) digits
  pub whole : text ≡ sign_text sign ++ map (λ d. digit_zero + d) digits
  pub value : n ≡ signed sign (number_from_digits 10 digits)

abbrev pub plus_text : Bool → List ℕ
plus_text false = []
plus_text true = plus_sign ∷ []

-- The text is this number: perhaps a plus, and one or more digits.
pub record IsUnsignedNumber (text : List ℕ) (n : ℕ) : Type 0 where
  pub plus : Bool
  pub digits : List ℕ
  pub some : 0 < length digits
  pub each : AllByRecursion (λ d. d < 10) digits
  pub whole : text ≡ plus_text plus ++ map (λ d. digit_zero + d) digits
  pub value : n ≡ number_from_digits 10 digits

-- Whether there is one digit or more, and nothing else.
abbrev pub is_numeral : List ℕ → Bool
is_numeral text = not (length text == 0) && list_all (λ c. nat_lt (digit_value c) 10) text

-- The number of a text, computed.
abbrev pub number_value : List ℕ → Option ℤ
number_value text = if is_numeral (without_leading_sign text) then Some (signed_digits_value 10 text) else None

abbrev pub unsigned_value : List ℕ → Option ℕ
unsigned_value text = if is_numeral (without_leading_plus text) then Some (digits_value 10 (without_leading_plus text)) else None

-- What is read, by the computed number.
abbrev pub IsComputed : List ℕ → Result ℤ NumberFault → Type 0
IsComputed text (Ok n) = (number_value text ≡ Some n) × FitsSigned w64 n
IsComputed text (Err OutOfRange) = (n : ℤ) × (number_value text ≡ Some n) × ¬ (FitsSigned w64 n)
IsComputed text (Err Syntax) = number_value text ≡ None

abbrev pub IsUnsignedComputed : List ℕ → Result ℕ NumberFault → Type 0
IsUnsignedComputed text (Ok n) = (unsigned_value text ≡ Some n) × (n < 2 ^ 64)
IsUnsignedComputed text (Err OutOfRange) = (n : ℕ) × (unsigned_value text ≡ Some n) × ¬ (n < 2 ^ 64)
IsUnsignedComputed text (Err Syntax) = unsigned_value text ≡ None

-- The laws: what is computed is what the text is, and a text is one number.
unfoldable pub NumberIsItsValue : Type 0
NumberIsItsValue = (text : List ℕ) (n : ℤ) → (number_value text ≡ Some n) ↔ IsNumber text n

unfoldable pub UnsignedIsItsValue : Type 0
UnsignedIsItsValue = (text : List ℕ) (n : ℕ) → (unsigned_value text ≡ Some n) ↔ IsUnsignedNumber text n

unfoldable pub OneNumber : Type 0
OneNumber = (text : List ℕ) (m n : ℤ) → IsNumber text m → IsNumber text n → m ≡ n

unfoldable pub OneUnsignedNumber : Type 0
OneUnsignedNumber = (text : List ℕ) (m n : ℕ) → IsUnsignedNumber text m → IsUnsignedNumber text n → m ≡ n
