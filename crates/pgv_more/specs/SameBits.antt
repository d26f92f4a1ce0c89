-- Equality of lists of bits.
use Rattle.std.specs.Cmp.{IsPartialEquivalence, IsEquivalence, bool_eq_equiv, partial_equiv_from_equiv}
use Rattle.std.specs.Prelude.{Bool, List}
use Rattle.std.specs.Bool.{beq}
use Rattle.std.specs.Cmp.Lexicographic.{pointwise, lists_equiv}

-- whether lists have the same bits
abbrev pub same_bits : List Bool → List Bool → Bool
same_bits = pointwise beq

pub same_bits_equiv : IsEquivalence same_bits
same_bits_equiv = lists_equiv bool_eq_equiv

pub same_bits_per : IsPartialEquivalence same_bits
same_bits_per = partial_equiv_from_equiv same_bits_equiv
