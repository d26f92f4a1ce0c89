-- A tree is read from its printed text.
use Rattle.std.specs.Prelude.{◌≡◌, ℕ, nat_le, true, List, [], ◌∷◌, length, Ok, refl}
use Rattle.std.specs.List.{list_all}
use Rattle.std.proofs.Common.{ap, ◌∙◌}
use Rattle.std.proofs.lemmas.Bool.{and_parts}
use Rattle.pgv_characters.specs.Characters.{dot}
use Rattle.pgv_ltree.specs.TextsInTurn.{read_each}
use Rattle.pgv_ltree.specs.JoinLemmas.{lacks, other_char, split_again, wider}
use Rattle.pgv_ltree.specs.Labels.{is_label, is_label_char, label_limit, label_read}
use Rattle.pgv_ltree.specs.Trees.{parts, printed_tree, tree_read}

-- the characters of a label
pub label_chars : (label : List ℕ) → is_label label ≡ true → list_all is_label_char label ≡ true
label_chars label e = (and_parts (nat_le (length label) label_limit) (list_all is_label_char label) e).1

-- a label has no dot
pub no_dot : (label : List ℕ) → is_label label ≡ true → lacks dot label ≡ true
no_dot label e = wider is_label_char _ (other_char is_label_char dot refl) label (label_chars label e)

-- labels are read as they are
pub labels_again : (labels : List (List ℕ)) → list_all is_label labels ≡ true → read_each label_read labels ≡ Ok labels
labels_again [] e = refl
labels_again (label ∷ labels) e =
    let b = and_parts (is_label label) (list_all is_label labels) e in
    rw (b.0, labels_again labels b.1) refl

pub parts_again : (label : List ℕ) (labels : List (List ℕ)) → list_all is_label (label ∷ labels) ≡ true → parts (printed_tree (label ∷ labels)) ≡ label ∷ labels
parts_again label labels e = split_again dot label labels (wider is_label (lacks dot) no_dot (label ∷ labels) e)

pub tree_again : (label : List ℕ) (labels : List (List ℕ)) → list_all is_label (label ∷ labels) ≡ true → tree_read (printed_tree (label ∷ labels)) ≡ Ok (label ∷ labels)
tree_again label labels e = ap (read_each label_read) (parts_again label labels e) ∙ labels_again (label ∷ labels) e
