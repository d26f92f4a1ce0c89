-- The text of MAC addresses (PostgreSQL: "Network Address Types", 8.9, macaddr), as `08:00:2b:01:02:03` or
-- `08-00-2B-01-02-03`: six pairs of hex digits of either case, with `:` between each two pairs or with `-`
-- (`IsMacAddress`). Laws: what is computed is exactly this.
use Rattle.std.specs.Prelude.{◌≡◌, ◌↔◌, ◌⊎◌, ℕ, suc, zero, ◌+◌, ◌-◌, ◌*◌, ◌<◌, ◌≤◌, ◌==◌, ◌||◌, nat_lt, Bool, List, [], ◌∷◌, length, Option, Some, None, if◌then◌else◌}
use Rattle.std.specs.Option.{option_map}
use Rattle.std.specs.Char.{digit_value}
use Rattle.pgv_characters.specs.Characters.{hyphen, digit_zero, colon, upper_a, lower_a}

-- ---- which texts these are

-- a hex digit of either case
abbrev pub IsHexDigit : ℕ → ℕ → Type 0
IsHexDigit c v = ((v < 10) × (c ≡ digit_zero + v)) ⊎ ((10 ≤ v) × (v < 16) × ((c ≡ upper_a + (v - 10)) ⊎ (c ≡ lower_a + (v - 10))))

-- two digits of a byte, the high one first
abbrev pub IsPair : ℕ → ℕ → ℕ → Type 0
IsPair high low byte = (h : ℕ) × (l : ℕ) × IsHexDigit high h × IsHexDigit low l × (byte ≡ 16 * h + l)

-- pairs, each after a separator
abbrev pub ArePairsAfter : ℕ → List ℕ → List ℕ → Type 0
ArePairsAfter separator [] text = text ≡ []
ArePairsAfter separator (byte ∷ more) text =
    (high : ℕ) × (low : ℕ) × (rest : List ℕ) × (text ≡ separator ∷ high ∷ low ∷ rest) × IsPair high low byte × ArePairsAfter separator more rest

-- a separator: `:` or `-`
abbrev pub IsSeparator : ℕ → Type 0
IsSeparator c = (c ≡ colon) ⊎ (c ≡ hyphen)

-- the text is six pairs, a separator between each two of them, always the same one
abbrev pub IsMacAddress : List ℕ → List ℕ → Type 0
IsMacAddress text bytes = (separator : ℕ) × IsSeparator separator × (length bytes ≡ 6) × ArePairsAfter separator bytes (separator ∷ text)

-- ---- what is read from a text

abbrev pub hex_value : ℕ → Option ℕ
hex_value c = if nat_lt (digit_value c) 16 then Some (digit_value c) else None

abbrev pub byte_of_pair : Option ℕ → Option ℕ → Option ℕ
byte_of_pair None l = None
byte_of_pair (Some h) None = None
byte_of_pair (Some h) (Some l) = Some (16 * h + l)

abbrev pub pair_value : ℕ → ℕ → Option ℕ
pair_value high low = byte_of_pair (hex_value high) (hex_value low)

abbrev pub with_rest : Option ℕ → List ℕ → Option (ℕ × List ℕ)
with_rest None rest = None
with_rest (Some byte) rest = Some (byte, rest)

-- the byte of a pair after the separator in front, and the rest
abbrev pub next_pair : ℕ → List ℕ → Option (ℕ × List ℕ)
next_pair separator [] = None
next_pair separator (c ∷ []) = None
next_pair separator (c ∷ high ∷ []) = None
next_pair separator (c ∷ high ∷ low ∷ rest) = if c == separator then with_rest (pair_value high low) rest else None

-- a pair's byte before those of the rest
abbrev pub pair_before : Option (ℕ × List ℕ) → (List ℕ → Option (List ℕ)) → Option (List ℕ)
pair_before None more = None
pair_before (Some p) more = option_map (λ bytes. p.0 ∷ bytes) (more p.1)

-- nothing more
abbrev pub no_text_left : List ℕ → Option (List ℕ)
no_text_left [] = Some []
no_text_left (c ∷ text) = None

-- the bytes of n pairs, each after the separator, and nothing after them
abbrev pub pairs_after : ℕ → ℕ → List ℕ → Option (List ℕ)
pairs_after separator zero text = no_text_left text
pairs_after separator (suc n) text = pair_before (next_pair separator text) (pairs_after separator n)

abbrev pub is_separator : ℕ → Bool
is_separator c = c == colon || c == hyphen

-- the bytes of a text: the separator is what is after the first pair
abbrev pub mac_value : List ℕ → Option (List ℕ)
mac_value [] = None
mac_value (high ∷ []) = None
mac_value (high ∷ low ∷ []) = None
mac_value (high ∷ low ∷ separator ∷ rest) =
    if is_separator separator then pair_before (with_rest (pair_value high low) (separator ∷ rest)) (pairs_after separator 5) else None

-- the bytes of an address are read from a text iff the text is this address
unfoldable pub MacAddressIsRead : Type 0
MacAddressIsRead = (text bytes : List ℕ) → (mac_value text ≡ Some bytes) ↔ IsMacAddress text bytes

-- a text is at most one address
unfoldable pub OneMacAddress : Type 0
OneMacAddress = (text first second : List ℕ) → IsMacAddress text first → IsMacAddress text second → first ≡ second
