-- What networks and addresses read (PostgreSQL: "Network Address Types", 8.9). A network is the family (2 or 3), the
-- prefix, a byte that says nothing, 4 or 16, and as many octets; the prefix is at most 32 or 128. An address is a
-- network whose prefix is full, in text too.
use Rattle.std.specs.Prelude.{ℕ, ◌+◌, ◌==◌, ◌&&◌, ◌||◌, nat_lt, if◌then◌else◌, List, ◌∷◌, length, Option, Some, None, Err, ok_or}
use Rattle.std.specs.Net.Addr.{segments_of}
use Rattle.std.specs.declared.net.ip_addr.IpAddr.{IpAddr}
use Rattle.std.specs.declared.net.ip_addr.IpAddr.TheVariants.{V4, V6}
use Rattle.pgv_scalar_text.specs.AddressText.{full_prefix}
use Rattle.pgv_scalar_text.specs.NetworkText.{Network, network_with, network_value}
use Rattle.pgv_value.specs.Parsed.{Parsed, ◌>>=◌}
use Rattle.pgv_value.specs.ScalarGrammar.{scalar}
use Rattle.pgv_value.specs.ValueView.{Given}
use Rattle.pgv_value.specs.declared.error.CodecError.{CodecError}
use Rattle.pgv_value.specs.declared.error.CodecError.TheVariants.{WrongLength, Syntax, InetFamily, InetPrefix, LossyAddress}

-- The address of a family, the number of its octets as it is written, and the octets: 2 is version 4, and 3 version 6.
abbrev pub address_binary : ℕ → ℕ → List ℕ → Option IpAddr
address_binary family count octets =
    if family == 2 && count == 4 && length octets == 4 then Some (V4 (record { octets = octets }))
    else (if family == 3 && count == 16 && length octets == 16 then Some (V6 (record { segments = segments_of octets })) else None)

-- There is no address: fewer than eight bytes are C17, another family C31, and another number of octets C17.
abbrev pub address_refused : ℕ → ℕ → CodecError
address_refused family length =
    if nat_lt length 8 || family == 2 || family == 3 then WrongLength length else InetFamily family

-- The address of a network whose prefix is full.
abbrev pub full_address : Network → Option IpAddr
full_address network = if network.prefix == full_prefix network.address then Some network.address else None

-- an address with a prefix; too long a prefix is C32
abbrev pub with_prefix : IpAddr → ℕ → Parsed Network
with_prefix address prefix = ok_or (network_with address prefix) (InetPrefix prefix)

-- the family, the prefix, a byte that says nothing, the number of octets, and the octets
abbrev pub network_in_binary : List ℕ → Parsed Network
network_in_binary (family ∷ prefix ∷ ignored ∷ count ∷ octets) =
    ok_or (address_binary family count octets) (address_refused family (4 + length octets)) >>= λ address. with_prefix address prefix
network_in_binary bytes = Err (WrongLength (length bytes))

abbrev pub network_in_text : List ℕ → Parsed Network
network_in_text text = ok_or (network_value text) Syntax

-- the address of a network whose prefix is full; of another it is C33
abbrev pub address_alone : Network → Parsed IpAddr
address_alone network = ok_or (full_address network) LossyAddress

-- inet, cidr
abbrev pub parse_network : Given → Parsed Network
parse_network = scalar network_in_binary network_in_text

-- an address alone
abbrev pub parse_address : Given → Parsed IpAddr
parse_address = scalar (λ bytes. network_in_binary bytes >>= address_alone) (λ text. network_in_text text >>= address_alone)
