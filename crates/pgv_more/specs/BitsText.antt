-- The text of lists of bits (PostgreSQL: "Bit String Types", 8.10): a digit `0` or `1` for each (`IsBitsText`).
use Rattle.std.specs.Prelude.{◌≡◌, ◌↔◌, ℕ, ◌==◌, ◌||◌, Bool, List, map, Option, Some, None, if◌then◌else◌}
use Rattle.std.specs.List.{list_all}
use Rattle.pgv_characters.specs.Characters.{digit_zero, digit_one}

abbrev pub digit_of : Bool → ℕ
digit_of bit = if bit then digit_one else digit_zero

-- the text has the digits of these bits
abbrev pub IsBitsText : List ℕ → List Bool → Type 0
IsBitsText text bits = text ≡ map digit_of bits

abbrev pub is_bit_digit : ℕ → Bool
is_bit_digit c = c == digit_zero || c == digit_one

abbrev pub is_one : ℕ → Bool
is_one c = c == digit_one

-- the bits that are read
abbrev pub bits_in_text : List ℕ → Option (List Bool)
bits_in_text text = if list_all is_bit_digit text then Some (map is_one text) else None

-- bits are read from a text iff the text is their digits
unfoldable pub BitsAreReadOfText : Type 0
BitsAreReadOfText = (text : List ℕ) (bits : List Bool) → (bits_in_text text ≡ Some bits) ↔ IsBitsText text bits
