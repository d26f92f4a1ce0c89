-- What a type reads.
use Rattle.std.specs.Prelude.{ℕ, Bool, true, false, List, [], ◌∷◌, Option, Some, None}
use Rattle.pgv_types.specs.Ty.{Ty}
use Rattle.pgv_value.specs.declared.value.PgValueFormat.{PgValueFormat}

-- the meaning of null or bytes under a type in a format, where they have one
abbrev pub Reading : Type 0 → Type 0
Reading M = Ty → PgValueFormat → Option (List ℕ) → Option M

-- whether a list is read that isn't empty: an empty one, as an empty text, asks for no memory
abbrev pub has_items : {X : Type 0} → Option (List X) → Bool
has_items None = false
has_items (Some []) = false
has_items (Some (x ∷ xs)) = true
