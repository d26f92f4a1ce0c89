-- Equality of labels and of trees.
use Rattle.std.specs.Cmp.{IsPartialEquivalence, IsEquivalence, partial_equiv_from_equiv}
use Rattle.std.specs.Prelude.{ℕ, nat_eq, Bool, List}
use Rattle.std.specs.Cmp.Lexicographic.{pointwise, lists_equiv}
use Rattle.std.proofs.lemmas.Cmp.{nat_list_eq_equiv}

-- whether labels have the same characters
abbrev pub same_label : List ℕ → List ℕ → Bool
same_label = pointwise nat_eq

pub same_label_equiv : IsEquivalence same_label
same_label_equiv = nat_list_eq_equiv

pub same_label_per : IsPartialEquivalence same_label
same_label_per = partial_equiv_from_equiv same_label_equiv

-- whether trees have the same labels
abbrev pub same_tree : List (List ℕ) → List (List ℕ) → Bool
same_tree = pointwise same_label

pub same_tree_equiv : IsEquivalence same_tree
same_tree_equiv = lists_equiv same_label_equiv

pub same_tree_per : IsPartialEquivalence same_tree
same_tree_per = partial_equiv_from_equiv same_tree_equiv
