-- Values that are read, or written, in a loop of their own, as those of an array of numbers, whose frames all have one
-- width. It is faster, and nothing else: what is read so, and what is still read from the frames after it, is what the
-- frames hold, whatever the type of the elements is (`AreFirst`); what is written so are the frames of the first values
-- (`WritesFirst`).
use Rattle.std.specs.Prelude.{◌≡◌, ℕ, ◌+◌, ◌-◌, ◌≤◌, List, ◌++◌, length, map, take, drop, Some, Result, Ok, Err, Option}
use Rattle.pgv_types.specs.Ty.{Ty}
use Rattle.pgv_buf.specs.Tokens.{Cell, bytes}
use Rattle.pgv_codec.specs.ArrayGrammar.{parse_frames}
use Rattle.pgv_value.specs.Fronts.{value_front}
use Rattle.pgv_value.specs.Outcome.{Outcome}
use Rattle.pgv_value.specs.ValueView.{Given, given}
use Rattle.pgv_value.specs.declared.error.CodecError.{CodecError}
use Rattle.pgv_value.specs.declared.value.PgValueFormat.TheVariants.{Binary}
use Rattle.pgv_codec.specs.Appending.{Appended}
use Rattle.pgv_codec.specs.Encoding.{Encoding, frames}

-- ---- reading

-- under every type these bytes are read as this in binary
abbrev pub IsBinaryOf : {M : Type 0} → (Given → Outcome M) → List ℕ → M → Type 0
IsBinaryOf parse bytes m = (t : Ty) → (parse (given t Binary (Some bytes))).answer ≡ Ok m

-- under every type this is read from the frame in front, which has this many bytes after its length
abbrev pub IsInFront : {M : Type 0} → (Given → Outcome M) → ℕ → List ℕ → M → Type 0
IsInFront parse width bytes m =
    (part : List ℕ) × ((t : Ty) → value_front t Binary bytes ≡ Ok (given t Binary (Some part), drop (4 + width) bytes)) × IsBinaryOf parse part m

-- the same, and the frames after it
abbrev pub IsNext : {M : Type 0} → (Given → Outcome M) → ℕ → List ℕ → M → List ℕ → Type 0
IsNext parse width bytes m rest = IsInFront parse width bytes m × (rest ≡ drop (4 + width) bytes)

-- what was read before, and what is still read
abbrev pub with_front : {M : Type 0} → List M → Result (List M) (Option CodecError) → Result (List M) (Option CodecError)
with_front ms (Ok ns) = Ok (ms ++ ns)
with_front ms (Err why) = Err why

-- under every type these are read from the first frames, and the others from the rest
abbrev pub AreFirst : {M : Type 0} → (Given → Outcome M) → ℕ → List ℕ → List M → List ℕ → Type 0
AreFirst parse count bytes ms rest = (t : Ty) → with_front ms (parse_frames parse t (count - length ms) rest).answer ≡ (parse_frames parse t count bytes).answer

-- ---- writing

-- the frames of these values are these bytes
abbrev pub AreFrames : {X : Type 0} → (X → Encoding) → List X → List ℕ → Type 0
AreFrames encoding values xs = (frames (map encoding values)).answer ≡ Ok (bytes xs)

-- the frames of the first n values were appended
abbrev pub WritesFirst : {X : Type 0} → (X → Encoding) → List X → ℕ → List Cell → List Cell → Type 0
WritesFirst encoding values n was now = (n ≤ length values) × Appended (frames (map encoding (take n values))) was now
