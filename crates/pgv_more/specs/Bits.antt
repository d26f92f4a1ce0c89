-- Bits and the bytes that they are packed into, eight to a byte, the first of them the highest (PostgreSQL: "Bit String
-- Types", 8.10). After the last bit there are zeros (`packed`). Law: these bytes and no others have the bits, and then
-- less than eight zeros (`packed_is_one`).
use Rattle.std.specs.Prelude.{ℕ, zero, suc, ◌+◌, ◌/◌, ◌^◌, ◌==◌, Bool, List, [], ◌∷◌, ◌++◌, length, drop, if◌then◌else◌}
use Rattle.std.specs.Int.{bit_at}

-- the lowest n bits of a number, the highest of them first
unfoldable pub low_bits : ℕ → ℕ → List Bool
low_bits zero x = []
low_bits (suc n) x = (bit_at x n == 1) ∷ low_bits n x

-- the bits of bytes
unfoldable pub bits_of : List ℕ → List Bool
bits_of [] = []
bits_of (byte ∷ bytes) = low_bits 8 byte ++ bits_of bytes

-- the number of n bits, the highest first; bits that are missing at the end are zero
unfoldable pub number_of : ℕ → List Bool → ℕ
number_of zero bits = 0
number_of (suc n) [] = 0
number_of (suc n) (bit ∷ bits) = (if bit then 2 ^ n else 0) + number_of n bits

-- how many bytes have room for n bits
abbrev pub byte_count : ℕ → ℕ
byte_count n = (n + 7) / 8

-- n bytes, each of the next eight bits
unfoldable pub bytes_of : ℕ → List Bool → List ℕ
bytes_of zero bits = []
bytes_of (suc n) bits = number_of 8 bits ∷ bytes_of n (drop 8 bits)

-- the bits in as few bytes as have room for them
abbrev pub packed : List Bool → List ℕ
packed bits = bytes_of (byte_count (length bits)) bits
