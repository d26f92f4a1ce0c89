-- What a range says (PostgreSQL: "Range Types", 8.17): that it has no value at all, or two bounds, each of which is
-- included, excluded or missing.
use Rattle.std.specs.Range.Bound.{bound_map}
use Rattle.std.specs.declared.ops.Bound.{Bound}
use Rattle.pgv_range.specs.declared.range.PgRange.{PgRange}
use Rattle.pgv_range.specs.declared.range.PgRange.TheVariants.{Empty, Bounds}

pub data RangeOf (M : Type 0) : Type 0 where
  empty : RangeOf M
  bounds : Bound M → Bound M → RangeOf M

-- what a range says, by what its bounds' values say
abbrev pub range_view : {T M : Type 0} → (T → M) → PgRange T → RangeOf M
range_view view Empty = empty
range_view view (Bounds lower upper) = bounds (bound_map view lower) (bound_map view upper)
