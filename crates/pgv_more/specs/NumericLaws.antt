-- What bytes are amounts and numbers, as what the bytes are and not as how they are read (PostgreSQL: "Monetary Types",
-- 8.2; "Numeric Types", 8.1.2). They are read in binary alone. A number (`IsNumericImage`) is the words of its form,
-- digits of any value, and anything after them. No number (`IsNoNumber`) is any two words, the sign c000 and one word
-- more. Laws: what is computed is exactly this (`money_is_read`, `numeric_is_read` and their like).
use Rattle.std.specs.Prelude.{◌≡◌, ◌↔◌, ℕ, ◌<◌, ◌≤◌, ◌^◌, Bool, true, ℤ, List, ◌++◌, length, Ok}
use Rattle.std.specs.Int.{w16, to_be_bytes}
use Rattle.std.specs.List.{list_all}
use Rattle.pgv_value.specs.FrameLaws.{AreBytes}
use Rattle.pgv_value.specs.IntBinary.{fits_signed}
use Rattle.pgv_more.specs.MoneyCodec.{IsMoney}
use Rattle.pgv_more.specs.Numeric.{Numeric, not_a_number, number, number_form, no_number, numeric_in_binary, numeric_of}
use Rattle.pgv_more.specs.declared.numeric.PgNumeric.{PgNumeric}
use Rattle.pgv_more.specs.declared.numeric.PgNumericSign.{PgNumericSign}

-- No number: any two words, the sign c000, and at least one word more.
pub record IsNoNumber (form : List ℕ) : Type 0 where
  pub front : List ℕ
  pub rest : List ℕ
  pub whole : form ≡ front ++ (to_be_bytes w16 no_number ++ rest)
  pub two_words : length front ≡ 4
  pub one_more : 2 ≤ length rest

-- A number: the words of its form, each of which has room in two bytes, and anything after them.
pub record IsNumericImage (form : List ℕ) (sign : PgNumericSign) (digits : List ℤ) (weight scale : ℤ) : Type 0 where
  pub rest : List ℕ
  pub whole : form ≡ number_form sign digits weight scale ++ rest
  pub few : length digits < 2 ^ 16
  pub digits_fit : list_all (fits_signed w16) digits ≡ true
  pub weight_fits : fits_signed w16 weight ≡ true
  pub scale_fits : fits_signed w16 scale ≡ true

abbrev pub IsNumeric : List ℕ → Numeric → Type 0
IsNumeric form not_a_number = IsNoNumber form
IsNumeric form (number sign digits weight scale) = IsNumericImage form sign digits weight scale

unfoldable pub NumericIsRead : Type 0
NumericIsRead = (form : List ℕ) (n : Numeric) → AreBytes form → ((numeric_in_binary form).answer ≡ Ok n) ↔ IsNumeric form n

unfoldable pub OneNumeric : Type 0
OneNumeric = (form : List ℕ) (first second : Numeric) → AreBytes form → IsNumeric form first → IsNumeric form second → first ≡ second

abbrev pub OneMoney : Type 0
OneMoney = (form : List ℕ) (first second : ℤ) → AreBytes form → IsMoney form first → IsMoney form second → first ≡ second

abbrev pub NumericsAreEqual : (PgNumeric → PgNumeric → Bool) → Type 0
NumericsAreEqual eq = (a b : PgNumeric) → (eq a b ≡ true) ↔ (numeric_of a ≡ numeric_of b)
