-- What networks and addresses are written as (PostgreSQL: "Network Address Types", 8.9): the family, 2 for version 4
-- and 3 for version 6, the number of bits that name the network (the prefix), a byte that says nothing (a zero), the
-- number of octets (4 or 16), and the octets. And under which types they are read. An address is written as the network
-- of all its bits. The size hint is 8 for version 4 and 20 for version 6.
use Rattle.std.specs.Prelude.{ℕ, ◌==◌, Bool, List, [], ◌∷◌, ◌++◌, length, Option, Some, None, if◌then◌else◌}
use Rattle.std.specs.Net.Addr.{ipv4_octets, ipv6_octets}
use Rattle.std.specs.declared.net.ip_addr.IpAddr.{IpAddr}
use Rattle.std.specs.declared.net.ip_addr.IpAddr.TheVariants.{V4, V6}
use Rattle.pgv_types.specs.Ty.{Ty, builtin}
use Rattle.pgv_buf.specs.Tokens.{bytes}
use Rattle.pgv_scalar_text.specs.AddressText.{full_prefix}
use Rattle.pgv_scalar_text.specs.NetworkText.{Network}
use Rattle.pgv_codec.specs.Encoding.{Image, image_of}
use Rattle.pgv_codec.specs.ScalarImage.{softly_one_of}

-- four bytes, and octets of this number after them
abbrev pub octets_image : ℕ → List ℕ → List ℕ → Option Image
octets_image count front octets = if length octets == count then Some (image_of (bytes (front ++ octets))) else None

-- an address and a number of bits
abbrev pub image_with : IpAddr → ℕ → Option Image
image_with (V4 ip) prefix = octets_image 4 (2 ∷ prefix ∷ 0 ∷ 4 ∷ []) (ipv4_octets ip)
image_with (V6 ip) prefix = octets_image 16 (3 ∷ prefix ∷ 0 ∷ 16 ∷ []) (ipv6_octets ip)

abbrev pub network_image : Network → Option Image
network_image network = image_with network.address network.prefix

-- an address alone, with all its bits
abbrev pub address_image : IpAddr → Option Image
address_image address = image_with address (full_prefix address)

-- how many bytes it is written as
abbrev pub address_hint : IpAddr → ℕ
address_hint (V4 ip) = 8
address_hint (V6 ip) = 20

abbrev pub network_hint : Network → ℕ
network_hint network = address_hint network.address

-- ---- under which types they are read

-- cidr and inet
abbrev pub is_network : Ty → Bool
is_network t = softly_one_of (builtin 650 ∷ builtin 869 ∷ []) t

-- an array of one of these
abbrev pub is_network_array : Ty → Bool
is_network_array t = softly_one_of (builtin 651 ∷ builtin 1041 ∷ []) t
