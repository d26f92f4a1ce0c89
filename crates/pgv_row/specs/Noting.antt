-- What noting the places of a row's parts gives.
use Rattle.std.specs.Prelude.{◌≢◌, ℕ, ◌≤◌, List, Option, drop, length, Result, IfErr, IfOk}
use Rattle.pgv_value.specs.FrameBinary.{Part}
use Rattle.pgv_value.specs.Fronts.{one_part, part_front}
use Rattle.pgv_value.specs.Outcome.{Gives, GivesWhole}
use Rattle.pgv_value.specs.Parsed.{GivesExactly}
use Rattle.pgv_value.specs.Several.{several}
use Rattle.pgv_value.specs.declared.error.CodecError.{CodecError}
use Rattle.pgv_value.specs.declared.error.CodecError.TheVariants.{Memory}
use Rattle.pgv_row.specs.DataRow.{data_row, IsDataRow, frames_front}
use Rattle.pgv_row.specs.Places.{part_at, parts_at, IsWithin}
use Rattle.pgv_row.specs.declared.place.Place.{Place}

-- the number in front is this one, and the frames come after its two bytes
pub record HasCount {V : Type 0} (width : ℕ) (bytes : List ℕ) (result : Result V CodecError) : Type 0 where
  pub frames : GivesExactly (λ _. drop 2 bytes) (frames_front width bytes) result
  pub long : IfOk result (λ _. 2 ≤ length bytes)

-- the place of the part of the frame at `at`, and where the next frame begins, both within the bytes
pub record GivesPlace (bytes : List ℕ) (at : ℕ) (result : Result (Option Place × ℕ) CodecError) : Type 0 where
  pub part : GivesExactly (λ p. (part_at bytes p.0, drop p.1 bytes)) (part_front (drop at bytes)) result
  pub within : IfOk result (λ p. IsWithin bytes p.0)
  pub next : IfOk result (λ p. p.1 ≤ length bytes)

-- these are the places of the parts of so many frames, the first of which is at `at`, and where the last one ends
pub record GivesPlaces (bytes : List ℕ) (at width : ℕ) (places : List (Option Place)) (result : Result ℕ CodecError) : Type 0 where
  pub parts : Gives (λ end. (parts_at bytes places, drop end bytes)) (several one_part width (drop at bytes)) result
  pub next : IfOk result (λ end. end ≤ length bytes)

-- the parts of the row that the body is; where there is room for their places, memory isn't asked for
pub record FindsParts {V : Type 0} (found : V → List Part) (room width : ℕ) (body : List ℕ) (result : Result V CodecError) : Type 0 where
  pub whole : GivesWhole found (data_row room width body) (IsDataRow width body) result
  pub in_room : width ≤ room → IfErr result (λ e. e ≢ Memory)
