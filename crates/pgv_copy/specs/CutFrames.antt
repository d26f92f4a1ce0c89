-- Frames one after another, as `get` reads them (PostgreSQL: "Message Formats", DataRow), and where they are cut off.
-- `got` is what a call of `get` answers of a slice, and the slice after it. `all_got` is the answers of calls one after
-- another. Of frames that are cut off anywhere, the parts of those that are whole are answered, and from then on each
-- call is C15 (`StopsAtTheFrame`).
use Rattle.std.specs.Prelude.{◌≡◌, ℕ, zero, suc, ◌+◌, ◌<◌, List, [], ◌∷◌, ◌++◌, map, flat_map, length, take, replicate, Option, Some, None, Ok, Err}
use Rattle.std.specs.List.{AllByRecursion}
use Rattle.pgv_value.specs.FrameBinary.{Part, front, frame_fault, field_bytes, FitsLength}
use Rattle.pgv_value.specs.declared.error.CodecError.TheVariants.{Short}
use Rattle.pgv_value.specs.Parsed.{Parsed}

-- what a call of `get` answers of a slice, and the slice after it, which a refusal leaves as it was
abbrev pub Got : Type 0
Got = Parsed Part × List ℕ

abbrev pub got_of : List ℕ → Option (Part × List ℕ) → Got
got_of bytes (Some x) = (Ok x.0, x.1)
got_of bytes None = (Err (frame_fault bytes), bytes)

abbrev pub got : List ℕ → Got
got bytes = got_of bytes (front bytes)

-- the answers of calls one after another
abbrev pub all_got : ℕ → List ℕ → List (Parsed Part)
all_got zero bytes = []
all_got (suc n) bytes = (got bytes).0 ∷ all_got n (got bytes).1

-- The parts of the frames that are whole are answered, and from then on each call is refused because the bytes end too
-- early. At least one frame isn't whole.
pub record StopsAtTheFrame (bytes : List ℕ) (row : List Part) : Type 0 where
  pub count : ℕ
  pub begun : List ℕ
  pub within : count < length row
  pub whole : bytes ≡ flat_map field_bytes (take count row) ++ begun
  pub stops : (n : ℕ) → all_got (count + n) bytes ≡ map (λ part. Ok part) (take count row) ++ replicate n (Err Short)

-- Frames that are cut off anywhere, within one or between two, are read up to the cut.
unfoldable pub CutFramesAreShort : Type 0
CutFramesAreShort =
    (bytes more : List ℕ) (row : List Part) → AllByRecursion FitsLength row → flat_map field_bytes row ≡ bytes ++ more → 0 < length more → StopsAtTheFrame bytes row
