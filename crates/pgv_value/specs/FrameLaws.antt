-- The laws of frames (PostgreSQL: "Message Formats", DataRow).
use Rattle.std.specs.Prelude.{◌≡◌, ◌↔◌, ℕ, ◌<◌, List, [], ◌++◌, length, Some, None}
use Rattle.std.specs.List.{AllByRecursion}
use Rattle.pgv_value.specs.FrameBinary.{Part, IsFrame, front, frame_fault}
use Rattle.pgv_value.specs.declared.error.CodecError.TheVariants.{Short}

-- each is a number of eight bits
abbrev pub AreBytes : List ℕ → Type 0
AreBytes bytes = AllByRecursion (λ byte. byte < 256) bytes

-- `front` gives a part and a rest iff the bytes are a frame of this part, followed by this rest
unfoldable pub FrontIsFrame : Type 0
FrontIsFrame = (bytes : List ℕ) (part : Part) (rest : List ℕ) → AreBytes bytes → (front bytes ≡ Some (part, rest)) ↔ IsFrame bytes part rest

-- nothing is found in front of a frame that is cut off, and its fault is `Short` (C15)
unfoldable pub CutFrameIsShort : Type 0
CutFrameIsShort = (bytes rest_after : List ℕ) (part : Part) → 0 < length rest_after → IsFrame (bytes ++ rest_after) part [] → (front bytes ≡ None) × (frame_fault bytes ≡ Short)
