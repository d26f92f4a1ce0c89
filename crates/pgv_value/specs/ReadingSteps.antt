-- Reading one part after the other.
use Rattle.std.specs.Prelude.{ℕ, nat_lt, ℤ, List, length, take, drop, Option, Some, None, if◌then◌else◌}
use Rattle.std.specs.Int.{w16, w32, from_be_bytes, cast_signed}
-- one step after the other, where each has a value
pub use Rattle.pgv_scalar_text.specs.FieldText.{◌>>=◌}

-- the number of 32 bits in front, the highest byte first, and what comes after it
unfoldable pub number : List ℕ → Option (ℕ × List ℕ)
number bytes = if nat_lt (length bytes) 4 then None else Some (from_be_bytes w32 (take 4 bytes), drop 4 bytes)

-- the signed number of 16 bits in front, the highest byte first, and what comes after it
unfoldable pub signed_two : List ℕ → Option (ℤ × List ℕ)
signed_two bytes = if nat_lt (length bytes) 2 then None else Some (cast_signed w16 (from_be_bytes w16 (take 2 bytes)), drop 2 bytes)
