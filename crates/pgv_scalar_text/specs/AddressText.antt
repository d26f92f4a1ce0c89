-- The texts of an address and of the number of bits that name its network (PostgreSQL: "Network Address Types", 8.9;
-- RFC 4291, section 2.2).
use Rattle.std.specs.Prelude.{◌≡◌, ◌↔◌, ℕ, ◌+◌, ◌-◌, ◌*◌, ◌≤◌, ◌⊎◌, nat_le, ◌==◌, ◌&&◌, if◌then◌else◌, List, [], ◌∷◌, Option, Some, None, option_map, decimal}
use Rattle.std.specs.Char.{is_ascii_digit}
use Rattle.std.specs.Net.Grammar.{IsIpText}
use Rattle.std.specs.Net.Reader.{read_ipv4, read_ipv6}
use Rattle.std.specs.declared.net.ip_addr.IpAddr.{IpAddr}
use Rattle.std.specs.declared.net.ip_addr.IpAddr.TheVariants as Ip
use Rattle.pgv_characters.specs.Characters.{slash, digit_zero, digit_one, digit_nine}
use Rattle.pgv_scalar_text.specs.FieldText.{whole}

-- The number of all bits of an address.
abbrev pub full_prefix : IpAddr → ℕ
full_prefix (Ip.V4 address) = 32
full_prefix (Ip.V6 address) = 128

-- ---- what the texts are

-- The number of bits after an address: `/` and a decimal number without leading zeros, or nothing for all of them.
abbrev pub IsPrefixText : List ℕ → IpAddr → ℕ → Type 0
IsPrefixText text address prefix =
    ((text ≡ []) × (prefix ≡ full_prefix address)) ⊎ ((text ≡ slash ∷ decimal prefix) × (prefix ≤ full_prefix address))

-- ---- the same, computed

abbrev pub v6_or : Option (List ℕ) → Option (List ℕ) → Option IpAddr
v6_or segments (Some octets) = Some (Ip.V4 (record { octets = octets }))
v6_or segments None = option_map (λ found. Ip.V6 (record { segments = found })) segments

abbrev pub address_value : List ℕ → Option IpAddr
address_value text = v6_or (whole (read_ipv6 text)) (whole (read_ipv4 text))

-- A decimal number below 200 without leading zeros.
abbrev pub prefix_value : List ℕ → Option ℕ
prefix_value (a ∷ []) = if is_ascii_digit a then Some (a - digit_zero) else None
prefix_value (a ∷ b ∷ []) = if nat_le digit_one a && nat_le a digit_nine && is_ascii_digit b then Some ((a - digit_zero) * 10 + (b - digit_zero)) else None
prefix_value (a ∷ b ∷ c ∷ []) = if a == digit_one && is_ascii_digit b && is_ascii_digit c then Some (100 + (b - digit_zero) * 10 + (c - digit_zero)) else None
prefix_value _ = None

-- ---- the law

-- An address is computed from a text iff the grammar of `parse` assigns it to the text.
abbrev pub AddressIsItsValue : Type 0
AddressIsItsValue = (text : List ℕ) (address : IpAddr) → (address_value text ≡ Some address) ↔ IsIpText text address
