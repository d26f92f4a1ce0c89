-- Trees of labels and their texts (PostgreSQL: appendix F, "ltree", Definitions): one or more labels joined by `.`
-- (`IsTreeText`). A tree prints its labels joined by `.`. Laws: what is computed is exactly this
-- (`tree_is_read`), and no text is two trees (`one_tree`).
use Rattle.std.specs.Prelude.{◌≡◌, ◌≢◌, ℕ, ◌==◌, Bool, true, List, [], Result}
use Rattle.std.specs.List.{join_with_byte, list_all, slice_split}
use Rattle.pgv_characters.specs.Characters.{dot}
use Rattle.pgv_value.specs.declared.tree_error.PgLTreeParseError.{PgLTreeParseError}
use Rattle.pgv_ltree.specs.TextsInTurn.{first_is, read_each}
use Rattle.pgv_ltree.specs.Labels.{is_label, label_read}

-- The text is that of the tree of these labels, of which there is one or more; the empty text is that of one empty
-- label.
pub record IsTreeText (text : List ℕ) (labels : List (List ℕ)) : Type 0 where
  pub some : labels ≢ []
  pub each : list_all is_label labels ≡ true
  pub whole : text ≡ join_with_byte dot labels

-- the parts of a text between dots
abbrev pub parts : List ℕ → List (List ℕ)
parts text = slice_split (λ c. c == dot) text

-- whether the first part is a label
abbrev pub begins_with_label : List ℕ → Bool
begins_with_label text = first_is is_label (parts text)

-- the labels of a text
abbrev pub tree_read : List ℕ → Result (List (List ℕ)) PgLTreeParseError
tree_read text = read_each label_read (parts text)

-- the text of labels; without one it is empty
abbrev pub printed_tree : List (List ℕ) → List ℕ
printed_tree labels = join_with_byte dot labels
