-- The numbers of modifiers.
use Rattle.std.specs.Prelude.{ℕ, ◌+◌, ◌==◌, Bool, if◌then◌else◌, bit_and}
use Rattle.pgv_ltree.specs.Queries.{Variant}

abbrev pub bit : Bool → ℕ → ℕ
bit set n = if set then n else 0

-- the modifiers of a variant: 1, 2 and 4
abbrev pub modifier_bits : Variant → ℕ
modifier_bits v = bit v.any_end 1 + bit v.in_case 2 + bit v.sublexeme 4

-- whether a modifier is among them
abbrev pub has_bit : ℕ → ℕ → Bool
has_bit bits n = bit_and bits n == n
