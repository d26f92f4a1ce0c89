-- What contracts see of a network, and its texts (PostgreSQL: "Network Address Types", 8.9; RFC 4291, section 2.2). The
-- text of an address is what std's `parse` reads as one. The text of a network (`IsNetworkText`) is an address, and
-- perhaps `/` and a decimal number without leading zeros that is at most the number of the address's bits; without it,
-- it is that number of bits. A network is seen as its address and that number (`network_of`). Laws: what is computed is
-- exactly this (`network_is_its_value`), and no text is two networks (`one_network`).
use Rattle.std.specs.Prelude.{◌≡◌, ℕ, Bool, true, false, nat_le, ◌==◌, if◌then◌else◌, List, ◌++◌, length, Option, Some, None, option_map}
use Rattle.std.specs.List.{position_or_len, before_first, after_first}
use Rattle.std.specs.Net.Grammar.{IsIpText}
use Rattle.std.specs.declared.net.ip_addr.IpAddr.{IpAddr}
use Rattle.std.specs.declared.net.ip_addr.IpAddr.TheVariants as Ip
use Rattle.pgv_characters.specs.Characters.{slash}
use Rattle.pgv_scalar_text.specs.declared.network.IpNetwork.{IpNetwork}
use Rattle.pgv_scalar_text.specs.declared.network.IpNetwork.TheVariants as Versions
use Rattle.pgv_scalar_text.specs.AddressText.{full_prefix, IsPrefixText, address_value, prefix_value}
use Rattle.pgv_scalar_text.specs.DateTimeText.{IsComputedAs, IsOne}
use Rattle.pgv_scalar_text.specs.FieldText.{◌>>=◌}

-- A network as contracts see it: an address, and how many of its bits name the network.
pub record Network : Type 0 where
  pub address : IpAddr
  pub prefix : ℕ

abbrev pub network_of : IpNetwork → Network
network_of (Versions.V4 network) = record { address = Ip.V4 network.ip; prefix = network.prefix }
network_of (Versions.V6 network) = record { address = Ip.V6 network.ip; prefix = network.prefix }

abbrev pub is_ipv4 : IpNetwork → Bool
is_ipv4 (Versions.V4 network) = true
is_ipv4 (Versions.V6 network) = false

abbrev pub is_ipv6 : IpNetwork → Bool
is_ipv6 (Versions.V4 network) = false
is_ipv6 (Versions.V6 network) = true

-- ---- what the texts are

-- An address, in the grammar of `parse`, and the number of bits.
abbrev pub IsNetworkText : List ℕ → IpNetwork → Type 0
IsNetworkText text network =
    (address prefix : List ℕ) × (text ≡ address ++ prefix) × IsIpText address (network_of network).address
    × IsPrefixText prefix (network_of network).address (network_of network).prefix

-- ---- the same, computed

-- The address and the prefix, if the address has as many bits.
abbrev pub network_with : IpAddr → ℕ → Option Network
network_with address prefix = if nat_le prefix (full_prefix address) then Some (record { address = address; prefix = prefix }) else None

abbrev pub network_value : List ℕ → Option Network
network_value text =
    if position_or_len (λ c. c == slash) text == length text
    then option_map (λ address. record { address = address; prefix = full_prefix address }) (address_value text)
    else (do
      address ← address_value (before_first (λ c. c == slash) text)
      prefix ← prefix_value (after_first (λ c. c == slash) text)
      network_with address prefix)

-- ---- the laws

abbrev pub NetworkIsItsValue : Type 0
NetworkIsItsValue = IsComputedAs IsNetworkText network_of network_value

unfoldable pub OneNetwork : Type 0
OneNetwork = IsOne IsNetworkText
