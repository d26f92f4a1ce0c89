-- Ranges in binary, as what the bytes are and not as how they are read (PostgreSQL: "Range Types", 8.17; the form is
-- that of its source, range_send), under a type of kind range. A range (`IsRange`) is a flag byte, a frame for each
-- bound of which the flags don't say that there is none, read under the type that it is a range over, and anything
-- after them. A flag byte with 1 is the empty range, whatever other flags it has and whatever comes after it
-- (`IsEmptyRange`). Law: `range_is_its_bounds`.
use Rattle.std.specs.Prelude.{◌≡◌, ◌↔◌, ℕ, true, false, List, ◌∷◌, Some}
use Rattle.std.specs.declared.ops.Bound.{Bound}
use Rattle.std.specs.declared.ops.Bound.TheVariants.{Included, Excluded, Unbounded}
use Rattle.pgv_types.specs.Ty.{Ty, range as range_over}
use Rattle.pgv_types.specs.Facts.{kind_at}
use Rattle.pgv_value.specs.FrameBinary.{Part, IsFrame}
use Rattle.pgv_value.specs.FrameLaws.{AreBytes}
use Rattle.pgv_value.specs.Outcome.{Outcome, Reads}
use Rattle.pgv_value.specs.ValueView.{Given, given}
use Rattle.pgv_value.specs.declared.value.PgValueFormat.TheVariants.{Binary}
use Rattle.pgv_range.specs.RangeOf.{RangeOf, empty, bounds}
use Rattle.pgv_range.specs.FlagByte.{has}

-- the type is a range over this one
abbrev pub IsRangeOver : Ty → Ty → Type 0
IsRangeOver t u = kind_at t ≡ Some (range_over u)

abbrev pub IsSet : ℕ → ℕ → Type 0
IsSet flags flag = has flags flag ≡ true

abbrev pub IsClear : ℕ → ℕ → Type 0
IsClear flags flag = has flags flag ≡ false

-- The bytes begin with a frame of this value, and this comes after it.
abbrev pub BeginsWith : {M : Type 0} → (Given → Outcome M) → Ty → M → List ℕ → List ℕ → Type 0
BeginsWith parse u m bytes rest = (part : Part) × IsFrame bytes part rest × Reads parse (given u Binary part) m

-- The bytes begin with this bound, which these two flags describe. Where there is none, they begin with nothing; a
-- bound that is there has a frame.
abbrev pub IsBound : {M : Type 0} → (Given → Outcome M) → Ty → (flags infinite included : ℕ) → Bound M → List ℕ → List ℕ → Type 0
IsBound parse u flags infinite included Unbounded bytes rest = IsSet flags infinite × (bytes ≡ rest)
IsBound parse u flags infinite included (Included m) bytes rest = IsClear flags infinite × IsSet flags included × BeginsWith parse u m bytes rest
IsBound parse u flags infinite included (Excluded m) bytes rest = IsClear flags infinite × IsClear flags included × BeginsWith parse u m bytes rest

-- The empty range: a flag byte with 1, whatever other flags it has, and anything.
abbrev pub IsEmptyRange : List ℕ → Type 0
IsEmptyRange bytes = (flags : ℕ) × (rest : List ℕ) × (bytes ≡ flags ∷ rest) × IsSet flags 1

-- A range of these bounds: the flag byte, the lower bound, the upper one, and anything after them.
pub record IsOfBounds {M : Type 0} (parse : Given → Outcome M) (u : Ty) (bytes : List ℕ) (lower upper : Bound M) : Type 0 where
  pub flags : ℕ
  pub frames : List ℕ
  pub between : List ℕ
  pub rest : List ℕ
  pub whole : bytes ≡ flags ∷ frames
  pub not_empty : IsClear flags 1
  pub below : IsBound parse u flags 8 2 lower frames between
  pub above : IsBound parse u flags 16 4 upper between rest

-- The bytes are this range, of whose bounds the values are read so.
abbrev pub IsRangeBytes : {M : Type 0} → (Given → Outcome M) → Ty → List ℕ → RangeOf M → Type 0
IsRangeBytes parse u bytes empty = IsEmptyRange bytes
IsRangeBytes parse u bytes (bounds lower upper) = IsOfBounds parse u bytes lower upper

-- the bytes are this range, under a type
abbrev pub IsRange : {M : Type 0} → (Given → Outcome M) → Ty → List ℕ → RangeOf M → Type 0
IsRange parse t bytes m = (u : Ty) × IsRangeOver t u × IsRangeBytes parse u bytes m

-- ---- what is read is what the bytes are

unfoldable pub RangeIsItsBounds : {M : Type 0} → (Given → Outcome (RangeOf M)) → (Given → Outcome M) → Type 0
RangeIsItsBounds {M} of_ranges parse = (t : Ty) (bytes : List ℕ) (m : RangeOf M) → AreBytes bytes → Reads of_ranges (given t Binary (Some bytes)) m ↔ IsRange parse t bytes m

unfoldable pub OneRange : {M : Type 0} → (Given → Outcome M) → Type 0
OneRange {M} parse = (t : Ty) (bytes : List ℕ) (m other : RangeOf M) → IsRange parse t bytes m → IsRange parse t bytes other → m ≡ other
