-- What is written of networks and addresses is read back as it is.
use Rattle.std.specs.Prelude.{◌≡◌, ℕ, ◌+◌, ◌*◌, ◌/◌, ◌%◌, ◌==◌, nat_le, true, List, [], ◌∷◌, length, Option, Some, Ok, refl}
use Rattle.std.specs.Net.Addr.{ipv4_octets, ipv6_octets, octets_of, segments_of}
use Rattle.std.specs.declared.net.ip_addr.IpAddr.{IpAddr}
use Rattle.std.specs.declared.net.ip_addr.IpAddr.TheVariants.{V4, V6}
use Rattle.std.proofs.Common.{arith}
use Rattle.std.proofs.lemmas.Bool.{le-leb}
use Rattle.pgv_types.specs.Ty.{Ty}
use Rattle.pgv_types.specs.declared.oid.Oid.{Oid}
use Rattle.pgv_buf.specs.Tokens.{bytes}
use Rattle.pgv_scalar_text.specs.AddressText.{full_prefix}
use Rattle.pgv_scalar_text.specs.NetworkText.{Network, network_of}
use Rattle.pgv_scalar_text.specs.declared.network.IpNetwork.{IpNetwork}
use Rattle.pgv_scalar_text.specs.declared.network.IpNetwork.TheVariants as Versions
use Rattle.pgv_value.specs.NetworkBinary.{network_in_binary, parse_address, parse_network}
use Rattle.pgv_value.specs.Outcome.{reading_of, without_memory}
use Rattle.pgv_codec.specs.Back.{ReadsBack, always, image_is}
use Rattle.pgv_codec.specs.PartBackLemmas.{guarded}
use Rattle.pgv_codec.specs.ScalarBackLemmas.{part_is}
use Rattle.pgv_codec.specs.Encoding.{Image, image_of, with_hint, writes}
use Rattle.pgv_codec.specs.NetworkImage.{image_with, network_image, network_hint, address_image, address_hint}
use Rattle.pgv_codec.specs.Writing.{written_part}

-- segments come back from their octets
segments_again : (segments : List ℕ) → segments_of (octets_of segments) ≡ segments
segments_again [] = refl
segments_again (x ∷ segments) =
    let whole : x / 256 * 256 + x % 256 ≡ x = omega arith in
    λ i. whole i ∷ segments_again segments i

-- the part that is written, and the network that it is read as
record IsNetworkPart (network : Network) (i : Image) (p : Option Ty) (os : List Oid) : Type 0 where
  its_bytes : List ℕ
  part : written_part i p os ≡ Some its_bytes
  said : network_in_binary its_bytes ≡ Ok network

network_part : (a : IpAddr) (n : ℕ) (i : Image) (p : Option Ty) (os : List Oid) → nat_le n (full_prefix a) ≡ true → image_with a n ≡ Some i → IsNetworkPart (record { address = a; prefix = n }) i p os
network_part (V4 ip) n i p os room e =
    let all : List ℕ = 2 ∷ n ∷ 0 ∷ 4 ∷ ipv4_octets ip in
    let g = guarded (length (ipv4_octets ip) == 4) (Some (image_of (bytes all))) i e in
    record { its_bytes = all; part = part_is all i p os g.1; said = rw (g.0, room) refl }
network_part (V6 ip) n i p os room e =
    let all : List ℕ = 3 ∷ n ∷ 0 ∷ 16 ∷ ipv6_octets ip in
    let g = guarded (length (ipv6_octets ip) == 16) (Some (image_of (bytes all))) i e in
    record { its_bytes = all; part = part_is all i p os g.1; said = rw (g.0, room, segments_again ip.segments) refl }

room_of : (v : IpNetwork) → nat_le (network_of v).prefix (full_prefix (network_of v).address) ≡ true
room_of (Versions.V4 network) = le-leb network.prefix 32 network.prefix_in
room_of (Versions.V6 network) = le-leb network.prefix 128 network.prefix_in

pub network_back : ReadsBack {A = IpNetwork} (λ v. with_hint (network_hint (network_of v)) (writes (network_image (network_of v)))) (reading_of (without_memory parse_network)) network_of always
network_back v i t p os e whole small fit =
    let n = network_part (network_of v).address (network_of v).prefix i p os (room_of v) (image_is (network_image (network_of v)) i e) in
    rw (n.part, n.said) refl

full_room : (a : IpAddr) → nat_le (full_prefix a) (full_prefix a) ≡ true
full_room (V4 ip) = refl
full_room (V6 ip) = refl

full_test : (a : IpAddr) → (full_prefix a == full_prefix a) ≡ true
full_test (V4 ip) = refl
full_test (V6 ip) = refl

pub address_back : ReadsBack (λ a. with_hint (address_hint a) (writes (address_image a))) (reading_of (without_memory parse_address)) (λ a. a) always
address_back a i t p os e whole small fit =
    let n = network_part a (full_prefix a) i p os (full_room a) (image_is (address_image a) i e) in
    rw (n.part, n.said, full_test a) refl
