-- The laws of trees of labels.
use Rattle.std.specs.Prelude.{◌≡◌, ◌≢◌, ◌↔◌, ℕ, true, List, [], Ok}
use Rattle.std.specs.List.{list_all}
use Rattle.pgv_ltree.specs.Labels.{is_label}
use Rattle.pgv_ltree.specs.Trees.{IsTreeText, printed_tree, tree_read}

-- labels are read from a text iff the grammar assigns this tree to the text
unfoldable pub TreeIsRead : Type 0
TreeIsRead = (text : List ℕ) (labels : List (List ℕ)) → (tree_read text ≡ Ok labels) ↔ IsTreeText text labels

-- a text is at most one tree
unfoldable pub OneTree : Type 0
OneTree = (text : List ℕ) (first second : List (List ℕ)) → IsTreeText text first → IsTreeText text second → first ≡ second

-- labels are read back from their printed text iff there is at least one label
unfoldable pub PrintedTreeIsRead : Type 0
PrintedTreeIsRead = (labels : List (List ℕ)) → list_all is_label labels ≡ true → (tree_read (printed_tree labels) ≡ Ok labels) ↔ (labels ≢ [])
