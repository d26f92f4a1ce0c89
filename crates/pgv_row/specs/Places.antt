-- Where the parts of a row are in its bytes.
use Rattle.std.specs.Prelude.{ℕ, nat_lt, not, ◌&&◌, Bool, true, ◌≤◌, List, length, map, slice_range, Option, Some, None, option_map, ⊤}
use Rattle.std.specs.List.{AllByRecursion, list_all}
use Rattle.pgv_value.specs.FrameBinary.{Part}
use Rattle.pgv_row.specs.declared.place.Place.{Place}

-- the part at a place: null, or the bytes there
abbrev pub part_at : List ℕ → Option Place → Part
part_at bytes place = option_map (λ p. slice_range bytes p.start p.end) place

abbrev pub parts_at : List ℕ → List (Option Place) → List Part
parts_at bytes places = map (part_at bytes) places

-- a place is within the bytes
abbrev pub IsWithin : List ℕ → Option Place → Type 0
IsWithin bytes None = ⊤
IsWithin bytes (Some p) = (p.start ≤ p.end) × (p.end ≤ length bytes)

abbrev pub AreWithin : List ℕ → List (Option Place) → Type 0
AreWithin bytes places = AllByRecursion (IsWithin bytes) places

-- the same as a test
abbrev pub is_within : ℕ → Option Place → Bool
is_within size None = true
is_within size (Some p) = not (nat_lt p.end p.start) && not (nat_lt size p.end)

abbrev pub are_within : List ℕ → List (Option Place) → Bool
are_within bytes places = list_all (is_within (length bytes)) places
