-- What contracts see of a range.
use Rattle.std.specs.Prelude.{◌≡◌, Bool, true, false, List, [], ◌∷◌, Option, Some, None}
use Rattle.std.specs.declared.ops.Bound.{Bound}
use Rattle.pgv_range.specs.declared.range.PgRange.{PgRange}
use Rattle.pgv_range.specs.declared.range.PgRange.TheVariants.{Empty, Bounds}

abbrev pub is_empty : {T : Type 0} → PgRange T → Bool
is_empty Empty = true
is_empty (Bounds lower upper) = false

-- the bounds, where there are some
abbrev pub bounds_of : {T : Type 0} → PgRange T → Option (Bound T × Bound T)
bounds_of Empty = None
bounds_of (Bounds lower upper) = Some (lower, upper)

abbrev pub lower_of : {T : Type 0} → PgRange T → Option (Bound T)
lower_of Empty = None
lower_of (Bounds lower upper) = Some lower

abbrev pub upper_of : {T : Type 0} → PgRange T → Option (Bound T)
upper_of Empty = None
upper_of (Bounds lower upper) = Some upper

-- the range has these bounds, the lower one first
abbrev pub HasBothBounds : {T : Type 0} → List (Bound T) → PgRange T → Type 0
HasBothBounds both Empty = ⊥
HasBothBounds both (Bounds lower upper) = both ≡ lower ∷ upper ∷ []
