-- What is written of what a range says, and that it is what is written of the range.
use Rattle.std.specs.Prelude.{◌≡◌, refl}
use Rattle.std.proofs.Common.{ap}
use Rattle.std.specs.Range.Bound.{bound_map}
use Rattle.std.specs.declared.ops.Bound.{Bound}
use Rattle.std.specs.declared.ops.Bound.TheVariants.{Included, Excluded, Unbounded}
use Rattle.pgv_codec.specs.Encoding.{Encoding, plainly}
use Rattle.pgv_range.specs.RangeOf.{RangeOf, empty, bounds, range_view}
use Rattle.pgv_range.specs.RangeImage.{range_image}
use Rattle.pgv_range.specs.declared.range.PgRange.{PgRange}
use Rattle.pgv_range.specs.declared.range.PgRange.TheVariants.{Empty, Bounds}

abbrev pub bounds_said : {M N : Type 0} → (M → N) → RangeOf M → RangeOf N
bounds_said said empty = empty
bounds_said said (bounds lower upper) = bounds (bound_map said lower) (bound_map said upper)

-- a range over values that are written so
abbrev pub range_written : {M : Type 0} → (M → Encoding) → RangeOf M → Encoding
range_written written m = plainly (range_image (bounds_said written m))

-- A range is written as what its bounds' values say, where these are.
module _ {X M : Type 0} (encoding : X → Encoding) (view : X → M) (written : M → Encoding) (agrees : (x : X) → encoding x ≡ written (view x)) where
  bound_agrees : (b : Bound X) → bound_map encoding b ≡ bound_map written (bound_map view b)
  bound_agrees (Included x) = ap Included (agrees x)
  bound_agrees (Excluded x) = ap Excluded (agrees x)
  bound_agrees Unbounded = refl

  pub range_agrees : (r : PgRange X) → plainly (range_image (range_view encoding r)) ≡ range_written written (range_view view r)
  range_agrees Empty = refl
  range_agrees (Bounds lower upper) = rw (bound_agrees lower, bound_agrees upper) refl
