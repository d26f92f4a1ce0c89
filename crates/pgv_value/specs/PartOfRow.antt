-- What a value has, and a part of a row.
use Rattle.std.specs.Prelude.{◌≡◌, ◌≤◌, ℕ, List, length, Option, Some, None, slice_range, ⊤}
use Rattle.pgv_value.specs.declared.value.Held.{Held}
use Rattle.pgv_value.specs.declared.value.Held.TheVariants.{Null, Bytes, Text}
use Rattle.pgv_value.specs.declared.value.RowPart.{RowPart}

abbrev pub held_bytes : Held → Option (List ℕ)
held_bytes Null = None
held_bytes (Bytes bytes) = Some bytes.now
held_bytes (Text text) = Some text.now

-- the value's bytes are that part of its row
abbrev pub IsOfRow : Option RowPart → Option (List ℕ) → Type 0
IsOfRow None bytes = ⊤
IsOfRow (Some r) None = ⊥
IsOfRow (Some r) (Some bytes) = (r.start ≤ r.end) × (r.end ≤ length r.bytes.now) × (bytes ≡ slice_range r.bytes.now r.start r.end)
