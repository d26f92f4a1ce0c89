-- What a range prints, and when two are equal.
use Rattle.std.specs.Prelude.{ℕ, Bool, true, false, ◌&&◌, List, Option, Some, codes}
use Rattle.std.specs.Fmt.{option_append}
use Rattle.std.specs.declared.ops.Bound.{Bound}
use Rattle.std.specs.declared.ops.Bound.TheVariants.{Included, Excluded, Unbounded}
use Rattle.pgv_range.specs.declared.range.PgRange.{PgRange}
use Rattle.pgv_range.specs.declared.range.PgRange.TheVariants.{Empty, Bounds}

-- The brackets and the values; a bound that is missing prints a round bracket alone.
abbrev pub start_text : {T : Type 0} → (T → Option (List ℕ)) → Bound T → Option (List ℕ)
start_text shown (Included x) = option_append (Some (codes "[")) (shown x)
start_text shown (Excluded x) = option_append (Some (codes "(")) (shown x)
start_text shown Unbounded = Some (codes "(")

abbrev pub end_text : {T : Type 0} → (T → Option (List ℕ)) → Bound T → Option (List ℕ)
end_text shown (Included x) = option_append (shown x) (Some (codes "]"))
end_text shown (Excluded x) = option_append (shown x) (Some (codes ")"))
end_text shown Unbounded = Some (codes ")")

abbrev pub bounds_text : {T : Type 0} → (T → Option (List ℕ)) → Bound T → Bound T → Option (List ℕ)
bounds_text shown start end = option_append (option_append (start_text shown start) (Some (codes ","))) (end_text shown end)

abbrev pub range_text : {T : Type 0} → (T → Option (List ℕ)) → PgRange T → Option (List ℕ)
range_text shown Empty = Some (codes "empty")
range_text shown (Bounds start end) = bounds_text shown start end

-- Two bounds are equal where both are of one form, and their values are equal.
abbrev pub bound_eq : {T : Type 0} → (T → T → Bool) → Bound T → Bound T → Bool
bound_eq eq (Included x) (Included y) = eq x y
bound_eq eq (Included x) (Excluded y) = false
bound_eq eq (Included x) Unbounded = false
bound_eq eq (Excluded x) (Included y) = false
bound_eq eq (Excluded x) (Excluded y) = eq x y
bound_eq eq (Excluded x) Unbounded = false
bound_eq eq Unbounded (Included y) = false
bound_eq eq Unbounded (Excluded y) = false
bound_eq eq Unbounded Unbounded = true

-- The empty range is equal to itself alone, and two ranges of bounds are where these are equal.
abbrev pub range_eq : {T : Type 0} → (T → T → Bool) → PgRange T → PgRange T → Bool
range_eq eq Empty Empty = true
range_eq eq Empty (Bounds start end) = false
range_eq eq (Bounds start end) Empty = false
range_eq eq (Bounds start end) (Bounds other_start other_end) = bound_eq eq start other_start && bound_eq eq end other_end
