-- The laws of trees of labels.
use Rattle.std.proofs.Common.{◌≡◌, ◌≢◌, ◌∙◌, ap, sym, refl, ℕ, Bool, true, false, cond, List, [], ◌∷◌, length, arith}
use Rattle.std.specs.Prelude.{◌==◌, Result, Ok, Err, ◌↔◌}
use Rattle.std.specs.List.{join_with_byte, list_all}
use Rattle.std.proofs.lemmas.List.Splits.{join_with_byte-slice_split, length-slice_split}
use Rattle.std.proofs.lemmas.Bool.{and_from}
use Rattle.pgv_value.specs.declared.tree_error.PgLTreeParseError.{PgLTreeParseError}
use Rattle.pgv_value.specs.declared.tree_error.PgLTreeParseError.TheVariants.{InvalidLtreeLabel}
use Rattle.pgv_ltree.specs.TextsInTurn.{read_each}
use Rattle.pgv_ltree.specs.Labels.{is_label, label_read}
use Rattle.pgv_ltree.specs.TreeLaws.{OneTree, PrintedTreeIsRead, TreeIsRead}
use Rattle.pgv_ltree.specs.PrintedLemmas.{tree_again}
use Rattle.pgv_ltree.specs.Trees.{IsTreeText, parts, printed_tree, tree_read}
use Rattle.pgv_ltree.proofs.EachRead.{first_of}
use Rattle.std.specs.Cmp.Lexicographic.{bytes_decides, pointwise_decides}
use Rattle.std.specs.Iterator.{AlwaysYields}
use Rattle.std.specs.Vec.Iter.{into_iter_items, into_iter_len, into_iter_steps}
use Rattle.std.proofs.lemmas.Iterator.Adapters.{YieldsList-from_vec}
use Rattle.pgv_ltree.specs.SameLabels.{same_tree}

pub label_is : (b : Bool) (text label : List ℕ) → (let r : Result (List ℕ) PgLTreeParseError = cond b (Ok text) (Err InvalidLtreeLabel) in r) ≡ Ok label → (b ≡ true) × (label ≡ text)
label_is true text label e = (refl, cc)
label_is false text label e = absurd cc

-- labels that are read are their texts
labels_are : (texts labels : List (List ℕ)) → read_each label_read texts ≡ Ok labels → (labels ≡ texts) × (list_all is_label labels ≡ true)
labels_are [] labels e = let n : labels ≡ [] = cc in (n, rw n refl)
labels_are (text ∷ texts) labels e =
    let f = first_of (label_read text) (read_each label_read texts) labels e in
    let first = label_is (is_label text) text f.value f.is in
    let others = labels_are texts f.more f.are in
    let whole : labels ≡ text ∷ texts = f.whole ∙ ap (λ l. l ∷ f.more) first.1 ∙ ap (λ ls. text ∷ ls) others.0 in
    (whole, ap (list_all is_label) (f.whole ∙ ap (λ l. l ∷ f.more) first.1) ∙ and_from (is_label text) (list_all is_label f.more) first.0 others.1)

no_parts : (text : List ℕ) → parts text ≢ []
no_parts text e =
    let l : length (parts text) ≡ 0 = ap length e in
    omega (arith, length-slice_split (λ c. c == 46) text)

is_text : (text : List ℕ) (labels : List (List ℕ)) → tree_read text ≡ Ok labels → IsTreeText text labels
is_text text labels e =
    let l = labels_are (parts text) labels e in
    record {
      some = λ n. no_parts text (sym l.0 ∙ n);
      each = l.1;
      whole = sym (join_with_byte-slice_split 46 text) ∙ ap (join_with_byte 46) (sym l.0);
    }

again : (labels : List (List ℕ)) → labels ≢ [] → list_all is_label labels ≡ true → tree_read (printed_tree labels) ≡ Ok labels
again [] n e = absurd (n refl)
again (label ∷ labels) n e = tree_again label labels e

reads : (text : List ℕ) (labels : List (List ℕ)) → IsTreeText text labels → tree_read text ≡ Ok labels
reads text labels t = ap tree_read t.whole ∙ again labels t.some t.each

pub tree_is_read : TreeIsRead
unfolding TreeIsRead
tree_is_read text labels = (is_text text labels, reads text labels)

pub one_tree : OneTree
unfolding OneTree
one_tree text first second a b =
    let e : (let r : Result (List (List ℕ)) PgLTreeParseError = Ok first in r) ≡ Ok second = sym (reads text first a) ∙ reads text second b in
    cc

pub printed_tree_is_read : PrintedTreeIsRead
unfolding PrintedTreeIsRead
printed_tree_is_read labels e = (λ r. (is_text (printed_tree labels) labels r).some, λ n. again labels n e)

-- trees are equal where their labels are
pub equal_trees : (a b : List (List ℕ)) → (same_tree a b ≡ true) ↔ (a ≡ b)
equal_trees = pointwise_decides bytes_decides

-- the labels that the iterator of a tree gives
pub labels_given : {Z : Type 0} (tree : List (List ℕ)) (labels : _) → (into_iter_items labels ≡ tree) × (into_iter_len labels ≡ length tree) → AlwaysYields (into_iter_steps {X = List ℕ} {Z = Z}) (λ label. label) labels tree
labels_given tree labels gives = (YieldsList-from_vec tree gives.0 gives.1).runs
