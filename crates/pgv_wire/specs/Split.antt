-- Frames one after another, separated by the lengths that they begin with.
use Rattle.std.specs.Prelude.{ℕ, ◌+◌, ◌-◌, nat_le, ◌==◌, if◌then◌else◌, List, [], ◌∷◌, take}
use Rattle.std.specs.Int.{w32, from_be_bytes}
use Rattle.pgv_types.specs.Ty.{Ty}
use Rattle.pgv_buf.specs.Tokens.{Token, token_width, Cell, blank, plain, shown}
use Rattle.pgv_value.specs.FrameBinary.{null_length}
use Rattle.pgv_wire.specs.Arguments.{Argument}

-- the cells in front that are n bytes, and then those without bytes
abbrev pub as_wide : ℕ → List Cell → List Cell
as_wide w [] = []
as_wide w (t ∷ ts) = if nat_le (token_width t.0) w then t ∷ as_wide (w - token_width t.0) ts else []

-- what comes after these
abbrev pub after_wide : ℕ → List Cell → List Cell
after_wide w [] = []
after_wide w (t ∷ ts) = if nat_le (token_width t.0) w then after_wide (w - token_width t.0) ts else t ∷ ts

-- a frame's bytes: four for its length, and as many as this says; the length -1 is null's
abbrev pub bytes_by_length : ℕ → ℕ
bytes_by_length n = if n == null_length then 4 else 4 + n

-- the bytes of the frame in front
abbrev pub frame_width : List Token → ℕ
frame_width ts = bytes_by_length (from_be_bytes w32 (shown (blank (take 4 ts))))

-- n frames, each with its type
abbrev pub split : List Ty → List Cell → List Argument
split [] ts = []
split (t ∷ hs) ts = (t, as_wide (frame_width (plain ts)) ts) ∷ split hs (after_wide (frame_width (plain ts)) ts)
