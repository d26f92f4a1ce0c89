-- What is written of bits is read back as them.
use Rattle.std.specs.Prelude.{◌≡◌, ℕ, ◌*◌, ◌<◌, ◌≤◌, ◌^◌, ◌==◌, nat_lt, Bool, true, false, List, ◌++◌, length, drop, Ok, refl}
use Rattle.std.specs.Int.{w32, to_be_bytes}
use Rattle.std.proofs.Common.{sym, ap, ◌∙◌, arith}
use Rattle.std.proofs.lemmas.Bool.{le-ltb, ltb-false, eq-eqb}
use Rattle.std.proofs.lemmas.List.{length-append, length-drop, take-append-drop, take_at}
use Rattle.std.proofs.lemmas.Nat.{from_be_bytes-to_be_bytes_4}
use Rattle.pgv_buf.specs.Tokens.{bytes, be4}
use Rattle.pgv_codec.specs.Back.{ReadsBack, always}
use Rattle.pgv_codec.specs.ScalarBackLemmas.{part_is}
use Rattle.pgv_codec.specs.Encoding.{image_of, with_hint}
use Rattle.pgv_value.specs.Outcome.{allocates, copied, done, ok_of, reading_of, ◌>>◌}
use Rattle.pgv_value.specs.Parsed.{Parsed}
use Rattle.pgv_value.specs.declared.error.CodecError.TheVariants.{ValueSize}
use Rattle.pgv_value.proofs.Outcomes.{answer_of, tested}
use Rattle.pgv_value.specs.FrameBinary.{Part, max_length}
use Rattle.pgv_value.specs.declared.value.PgValueFormat.TheVariants.{Binary}
use Rattle.pgv_more.specs.Bits.{bits_of, byte_count, packed}
use Rattle.pgv_more.specs.BitsBinary.{bits_image, bits_hint, bits_in_binary, bit_count}
use Rattle.pgv_more.specs.BitsCodec.{parse_bits}
use Rattle.pgv_more.specs.PackingLemmas.{length-bits_of, length-bytes_of, packed_again}

-- the bits of a number and of bytes that begin with them
pub binary_there : (bits padding : List Bool) (body : List ℕ) → length bits < 2 ^ 31 → length padding < 8 → bits_of body ≡ bits ++ padding → bits_in_binary (to_be_bytes w32 (length bits) ++ body) ≡ Ok bits
binary_there bits padding body few rest e =
    let form = to_be_bytes w32 (length bits) ++ body in
    let long : nat_lt (length form) 4 ≡ false = le-ltb (length form) 4 (omega (arith, length-append (to_be_bytes w32 (length bits)) body)) in
    let count : bit_count form ≡ length bits = from_be_bytes-to_be_bytes_4 (length bits) (omega arith) in
    let positive : nat_lt max_length (length bits) ≡ false = le-ltb max_length (length bits) (omega arith) in
    let size : (length body == byte_count (length bits)) ≡ true = eq-eqb (length body) (byte_count (length bits)) (omega (arith, length-bits_of body, ap length e, length-append bits padding)) in
    rw (long, count, positive, size, e) (ap (λ (bs : List Bool). let p : Parsed (List Bool) = Ok bs in p) (take_at bits padding (length bits) refl))

bits_binary_again : (bits : List Bool) → length bits ≤ max_length → bits_in_binary (be4 (length bits) ++ packed bits) ≡ Ok bits
bits_binary_again bits few =
    let n = length bits in
    let all = bits_of (packed bits) in
    let room : length all ≡ 8 * byte_count n = length-bits_of (packed bits) ∙ ap (λ (m : ℕ). 8 * m) (length-bytes_of (byte_count n) bits) in
    let parts : all ≡ bits ++ drop n all = sym (take-append-drop n all) ∙ ap (λ (bs : List Bool). bs ++ drop n all) (packed_again bits) in
    binary_there bits (drop n all) (packed bits) (omega arith) (omega (arith, room, length-drop n all)) parts

pub bits_back : ReadsBack (λ bits. with_hint (bits_hint bits) (bits_image bits)) (reading_of parse_bits) (λ bits. bits) always
bits_back bits i t p os e whole small fit =
    let whole = image_of (bytes (be4 (length bits) ++ packed bits)) in
    let g = tested (nat_lt max_length (length bits)) (ValueSize (length bits)) (allocates true >> done whole) i (answer_of (bits_image bits).answer i e) in
    ap (λ (part : Part). reading_of parse_bits t Binary part) (part_is (be4 (length bits) ++ packed bits) i p os (ap ok_of g.1))
    ∙ ap (λ (p : Parsed (List Bool)). ok_of (copied p).answer) (bits_binary_again bits (ltb-false max_length (length bits) g.0))
