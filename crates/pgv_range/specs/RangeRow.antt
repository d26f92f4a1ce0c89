-- What a range over a type of this project is, in the words of the table of types.
use Rattle.std.specs.Prelude.{ℕ, List}
use Rattle.pgv_types.specs.Ty.{Ty, builtin}
use Rattle.pgv_types.specs.Relations.{softly}
use Rattle.pgv_types.specs.declared.oid.Oid.{Oid}
use Rattle.pgv_codec.specs.TypeRow.{HasType, HasArrayType}
use Rattle.pgv_codec.specs.declared.traits.Type as types
use Rattle.pgv_codec.specs.declared.traits.PgHasArrayType as arrays
use Rattle.pgv_range.specs.RangeGrammar.{range_accepts}
use Rattle.pgv_range.specs.RangeBinary.{IsRangeOver}

-- ranges of values have the built-in type of the first OID, which is a range over that of the second, and are read
-- under each type of kind range over a type that values are read under; arrays of them have the built-in type of the
-- third OID
abbrev pub IsRangeRow : {A B : Type 0} → types.Ghosts A → types.Ghosts B → arrays.Ghosts B → ℕ → ℕ → ℕ → Type 0
IsRangeRow of_values of_ranges of_arrays oid element array =
    HasType of_ranges (builtin oid) (range_accepts of_values.accepts)
    × IsRangeOver (builtin oid) (builtin element)
    × HasArrayType of_arrays (builtin array) (λ t. softly t (builtin array))

-- each value comes back under every type of kind range
abbrev pub ComesBackUnderRanges : {A : Type 0} → (A → Ty → List Oid → Type 0) → Type 0
ComesBackUnderRanges {A} fits = (r : A) (t u : Ty) (os : List Oid) → IsRangeOver t u → fits r t os
