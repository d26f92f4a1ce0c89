-- The flag byte of a range (PostgreSQL's source, rangetypes.h): 1 says that the range is empty, 2 and 4 that its lower
-- and its upper bound are included, 8 and 16 that it has no lower and no upper bound. Other bits say nothing here.
use Rattle.std.specs.Prelude.{ℕ, ◌==◌, Bool, true, false, if◌then◌else◌}
use Rattle.std.specs.Int.RustNames.{bit_and, bit_or}
use Rattle.std.specs.declared.ops.Bound.{Bound}
use Rattle.std.specs.declared.ops.Bound.TheVariants.{Included, Excluded, Unbounded}
use Rattle.pgv_range.specs.declared.flags.Side.{Side}
use Rattle.pgv_range.specs.declared.flags.Side.TheVariants.{Infinite, Inclusive, Exclusive}
use Rattle.pgv_range.specs.declared.flags.RangeForm.{RangeForm}
use Rattle.pgv_range.specs.declared.flags.RangeForm.TheVariants.{Empty, Sides}

-- whether a byte has all bits of a flag
abbrev pub has : ℕ → ℕ → Bool
has flags flag = bit_and flags flag == flag

-- ---- what is written

abbrev pub lower_flag : {X : Type 0} → Bound X → ℕ
lower_flag (Included x) = 2
lower_flag (Excluded x) = 0
lower_flag Unbounded = 8

abbrev pub upper_flag : {X : Type 0} → Bound X → ℕ
upper_flag (Included x) = 4
upper_flag (Excluded x) = 0
upper_flag Unbounded = 16

abbrev pub flags_of : {X : Type 0} → Bound X → Bound X → ℕ
flags_of lower upper = bit_or (lower_flag lower) (upper_flag upper)

-- ---- what is read

-- what two flags say of a bound; if there is no bound, it does not matter whether it is included
abbrev pub side_by : Bool → Bool → Side
side_by true included = Infinite
side_by false true = Inclusive
side_by false false = Exclusive

abbrev pub side_of : ℕ → ℕ → ℕ → Side
side_of flags infinite included = side_by (has flags infinite) (has flags included)

abbrev pub form_of_flags : ℕ → RangeForm
form_of_flags flags = if has flags 1 then Empty else Sides (side_of flags 8 2) (side_of flags 16 4)
