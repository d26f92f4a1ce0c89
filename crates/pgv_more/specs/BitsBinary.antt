-- The binary form of lists of bits (PostgreSQL: "Bit String Types", 8.10): the number of bits, signed, in four bytes,
-- the highest first, and then the bits in bytes. A list of more than 2147483647 bits isn't written (C2). The size hint
-- is 4 and the number of bits. Read (`IsBits`): a number that is not negative, and as many bytes as it needs, whatever
-- fills the last. Laws: what is computed is exactly this.
use Rattle.std.specs.Prelude.{◌≡◌, ◌↔◌, ℕ, ◌+◌, ◌<◌, ◌^◌, ◌==◌, min, nat_lt, Bool, true, List, ◌++◌, length, take, drop, Ok, Err, if◌then◌else◌}
use Rattle.std.specs.Int.{w32, from_be_bytes, to_be_bytes, cast_signed}
use Rattle.pgv_buf.specs.Tokens.{bytes, be4}
use Rattle.pgv_value.specs.FrameBinary.{max_length}
use Rattle.pgv_codec.specs.Encoding.{Image, image_of}
use Rattle.pgv_value.specs.FrameLaws.{AreBytes}
use Rattle.pgv_value.specs.Outcome.{Outcome, allocates, done, fails_if, ◌>>◌}
use Rattle.pgv_value.specs.Parsed.{Parsed}
use Rattle.pgv_value.specs.declared.error.CodecError.TheVariants.{ValueSize, Short, NegativeLength, WrongLength}
use Rattle.pgv_more.specs.Bits.{bits_of, byte_count, packed}

-- the bytes are the form of these bits, whatever fills the last byte after them
abbrev pub IsBits : List ℕ → List Bool → Type 0
IsBits form bits =
    (body : List ℕ) × (padding : List Bool) × (length bits < 2 ^ 31) × (form ≡ to_be_bytes w32 (length bits) ++ body) × (length padding < 8) × (bits_of body ≡ bits ++ padding)

-- what is written: zeros fill the last byte; more than 2147483647 bits are C2, with their number, and without memory
abbrev pub bits_image : List Bool → Outcome Image
bits_image bits = do
  fails_if (nat_lt max_length (length bits)) (ValueSize (length bits))
  allocates true
  done (image_of (bytes (be4 (length bits) ++ packed bits)))

-- four bytes and one for each bit, as many as a number of 64 bits can say
abbrev pub bits_hint : List Bool → ℕ
bits_hint bits = min (length bits + 4) 18446744073709551615

-- the number in front
abbrev pub bit_count : List ℕ → ℕ
bit_count form = from_be_bytes w32 (take 4 form)

-- The bits that are read. Too few bytes for the number are C15, a negative number is C16, and another number of bytes
-- after it than the bits need is C17.
abbrev pub bits_in_binary : List ℕ → Parsed (List Bool)
bits_in_binary form =
    if nat_lt (length form) 4 then Err Short else
    if nat_lt max_length (bit_count form) then Err (NegativeLength (cast_signed w32 (bit_count form))) else
    if length (drop 4 form) == byte_count (bit_count form) then Ok (take (bit_count form) (bits_of (drop 4 form))) else Err (WrongLength (length form))

-- bits are read from bytes iff the bytes are a form of these bits
unfoldable pub BitsAreRead : Type 0
BitsAreRead = (form : List ℕ) (bits : List Bool) → AreBytes form → (bits_in_binary form ≡ Ok bits) ↔ IsBits form bits

-- bytes are the form of at most one list of bits
unfoldable pub OneListOfBits : Type 0
OneListOfBits = (form : List ℕ) (first second : List Bool) → AreBytes form → IsBits form first → IsBits form second → first ≡ second
