-- Frames (PostgreSQL: "Message Formats", DataRow): a signed length of four bytes, the highest first, and that many
-- bytes; the length -1 (`ffffffff`) is null. A frame at the front (`IsFrame`, `front`) is null and the rest; or a
-- length that is not negative, that many bytes, and the rest.
use Rattle.std.specs.Prelude.{◌≡◌, ℕ, ◌+◌, ◌<◌, ◌^◌, nat_lt, ◌==◌, List, ◌∷◌, ◌++◌, flat_map, length, take, drop, Option, Some, None, ⊤, if◌then◌else◌}
use Rattle.std.specs.Int.{w16, w32, from_be_bytes, to_be_bytes, cast_signed}
use Rattle.pgv_value.specs.declared.error.CodecError.{CodecError}
use Rattle.pgv_value.specs.declared.error.CodecError.TheVariants.{Short, NegativeLength}

-- a part that is null or bytes
abbrev pub Part : Type 0
Part = Option (List ℕ)

-- the length that means null: -1
abbrev pub null_length : ℕ
null_length = 4294967295

-- the largest length of a part, and the largest number of elements, of pairs and of bits
abbrev pub max_length : ℕ
max_length = 2147483647

-- the bytes are a frame of a part, followed by a rest
abbrev pub IsFrame : List ℕ → Part → List ℕ → Type 0
IsFrame bytes None rest = bytes ≡ 255 ∷ 255 ∷ 255 ∷ 255 ∷ rest
IsFrame bytes (Some part) rest = (length part < 2 ^ 31) × (bytes ≡ to_be_bytes w32 (length part) ++ (part ++ rest))

-- the frame of a part: a length and that many bytes, or for null the length -1
abbrev pub field_bytes : Part → List ℕ
field_bytes None = to_be_bytes w32 null_length
field_bytes (Some part) = to_be_bytes w32 (length part) ++ part

-- a row: the number of its parts, and their frames
abbrev pub row_bytes : List Part → List ℕ
row_bytes row = to_be_bytes w16 (length row) ++ flat_map field_bytes row

-- a part's length fits its four bytes
abbrev pub FitsLength : Part → Type 0
FitsLength None = ⊤
FitsLength (Some part) = length part < 2 ^ 31

-- the length that is in front
abbrev pub front_length : List ℕ → ℕ
front_length bytes = from_be_bytes w32 (take 4 bytes)

-- what is in front: a part and the rest, or nothing
unfoldable pub front : List ℕ → Option (Part × List ℕ)
front bytes =
    if nat_lt (length bytes) 4 then None else
    if front_length bytes == null_length then Some (None, drop 4 bytes) else
    if nat_lt max_length (front_length bytes) then None else
    if nat_lt (length (drop 4 bytes)) (front_length bytes) then None else
    Some (Some (take (front_length bytes) (drop 4 bytes)), drop (front_length bytes) (drop 4 bytes))

-- a part of this length is in front, and the rest after it
pub record IsPartOfLength (bytes : List ℕ) (size : ℕ) (part rest : List ℕ) : Type 0 where
  pub long : front_length bytes ≡ size
  pub is_front : front bytes ≡ Some (Some part, rest)
  pub after : rest ≡ drop (4 + size) bytes

-- why nothing is in front: the bytes end too early, or the length is negative
abbrev pub frame_fault : List ℕ → CodecError
frame_fault bytes =
    if nat_lt (length bytes) 4 then Short else
    if nat_lt max_length (front_length bytes) then NegativeLength (cast_signed w32 (front_length bytes)) else
    Short
