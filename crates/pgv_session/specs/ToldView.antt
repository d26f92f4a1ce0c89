-- What is reported of a value: a text, or why it is refused.
use Rattle.std.specs.Prelude.{◌≡◌, ℕ, Bool, true, false, List, Option, Some, None, IsSome, string_bytes, ⊤}
use Rattle.pgv_value.specs.declared.value.PgValueFormat.TheVariants.{Binary}
use Rattle.pgv_session.specs.Session.{ReadsLinePart}
use Rattle.pgv_session.specs.Types.{LineType}
use Rattle.pgv_session.specs.declared.value.Told.{Told}
use Rattle.pgv_session.specs.declared.value.Told.TheVariants.{Said, Refused}

abbrev pub told_text : Told → List ℕ
told_text (Said text) = string_bytes text
told_text (Refused text) = string_bytes text

abbrev pub is_said : Told → Bool
is_said (Said text) = true
is_said (Refused text) = false

-- bytes are refused exactly where they are not read
abbrev pub Tells : LineType → Option (List ℕ) → Told → Type 0
Tells row None told = ⊤
Tells row (Some bytes) (Said text) = IsSome (row.value Binary (Some bytes))
Tells row (Some bytes) (Refused text) = row.value Binary (Some bytes) ≡ None

-- what bytes are shown as, under a TYPE
abbrev pub ShowsBytes : LineType → List ℕ → Told → Type 0
ShowsBytes row bytes told = ReadsLinePart row (Some bytes) (told_text told) × Tells row (Some bytes) told
