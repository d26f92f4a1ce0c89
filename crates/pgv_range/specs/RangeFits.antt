-- Where a range comes back: under a type of kind range, where each bound's value fits what it is a range over
-- (`RangeFits`). The empty range comes back under every type of kind range. A range is kept bound by bound, and the
-- empty one as it is. Law: `ranges_fit`.
use Rattle.std.specs.Prelude.{ℕ, List, take, drop, ⊤}
use Rattle.std.specs.Range.Bound.{bound_map}
use Rattle.std.specs.declared.ops.Bound.{Bound}
use Rattle.std.specs.declared.ops.Bound.TheVariants.{Included, Excluded, Unbounded}
use Rattle.pgv_types.specs.Ty.{Ty}
use Rattle.pgv_types.specs.declared.oid.Oid.{Oid}
use Rattle.pgv_codec.specs.Back.{holes_of}
use Rattle.pgv_codec.specs.Encoding.{Encoding}
use Rattle.pgv_range.specs.RangeBinary.{IsRangeOver}
use Rattle.pgv_range.specs.declared.range.PgRange.{PgRange}
use Rattle.pgv_range.specs.declared.range.PgRange.TheVariants.{Empty, Bounds}

-- bound by bound
abbrev pub range_kept : {T : Type 0} → (T → T) → PgRange T → PgRange T
range_kept kept Empty = Empty
range_kept kept (Bounds lower upper) = Bounds (bound_map kept lower) (bound_map kept upper)

-- how many OIDs a bound takes
abbrev pub bound_holes : {X : Type 0} → (X → Encoding) → Bound X → ℕ
bound_holes encoding (Included x) = holes_of (encoding x)
bound_holes encoding (Excluded x) = holes_of (encoding x)
bound_holes encoding Unbounded = 0

abbrev pub BoundFits : {X : Type 0} → (X → Ty → List Oid → Type 0) → Ty → Bound X → List Oid → Type 0
BoundFits fits u (Included x) os = fits x u os
BoundFits fits u (Excluded x) os = fits x u os
BoundFits fits u Unbounded os = ⊤

-- each bound with the OIDs of its own holes
abbrev pub BoundsFit : {X : Type 0} → (X → Encoding) → (X → Ty → List Oid → Type 0) → Ty → Bound X → Bound X → List Oid → Type 0
BoundsFit encoding fits u lower upper os =
    let after = drop (bound_holes encoding lower) os in
    BoundFits fits u lower (take (bound_holes encoding lower) os) × BoundFits fits u upper (take (bound_holes encoding upper) after)

abbrev pub RangeFits : {X : Type 0} → (X → Encoding) → (X → Ty → List Oid → Type 0) → PgRange X → Ty → List Oid → Type 0
RangeFits encoding fits Empty t os = (u : Ty) × IsRangeOver t u
RangeFits encoding fits (Bounds lower upper) t os = (u : Ty) × IsRangeOver t u × BoundsFit encoding fits u lower upper os
