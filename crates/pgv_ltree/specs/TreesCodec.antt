-- What trees of labels are written as and read from (PostgreSQL: appendix F, "ltree"; ltree_send, ltree_recv): the
-- version 1 in one byte, and then the printed text. In text they are read from their text alone. In binary the text is
-- UTF-8. There is no image if a label in the tree is invalid.
use Rattle.std.specs.Prelude.{ℕ, ◌==◌, codes, if◌then◌else◌, List, [], ◌∷◌, Option, Some, None, Ok, Err}
use Rattle.std.specs.List.{list_all}
use Rattle.std.specs.Result.{result_ok}
use Rattle.pgv_types.specs.Ty.{Ty, named}
use Rattle.pgv_buf.specs.Tokens.{bytes}
use Rattle.pgv_codec.specs.Encoding.{Image, image_of}
use Rattle.pgv_value.specs.Formats.{in_both_formats}
use Rattle.pgv_value.specs.Outcome.{Outcome, after, in_place, or_fail, ◌>>=◌}
use Rattle.pgv_value.specs.Parsed.{Parsed}
use Rattle.pgv_value.specs.ValueView.{Given}
use Rattle.pgv_value.specs.Text.{is_utf8}
use Rattle.pgv_value.specs.declared.error.CodecError.{CodecError}
use Rattle.pgv_value.specs.declared.error.CodecError.TheVariants.{Short, Utf8, LTree}
use Rattle.pgv_value.specs.declared.tree_error.PgLTreeParseError.TheVariants.{InvalidLtreeLabel, InvalidLtreeVersion}
use Rattle.pgv_ltree.specs.Labels.{is_label}
use Rattle.pgv_ltree.specs.Trees.{begins_with_label, printed_tree, tree_read}

-- the type and its arrays, of which only the names are known
abbrev pub ltree : Ty
ltree = named (codes "ltree")

abbrev pub ltree_array : Ty
ltree_array = named (codes "_ltree")

-- what is written; invalid labels have no image
abbrev pub tree_image : List (List ℕ) → Option Image
tree_image labels = if list_all is_label labels then Some (image_of (bytes (1 ∷ printed_tree labels))) else None

-- the text after the version 1: no bytes at all are C15, another version is what is given, and other bytes than UTF-8
-- are C14
abbrev pub versioned : CodecError → List ℕ → Parsed (List ℕ)
versioned wrong_version [] = Err Short
versioned wrong_version (version ∷ text) = if version == 1 then (if is_utf8 text then Ok text else Err Utf8) else Err wrong_version

-- a tree in text; memory is asked for where the text begins with a label
abbrev pub tree_in_text : List ℕ → Outcome (List (List ℕ))
tree_in_text text = after (begins_with_label text) (or_fail (result_ok (tree_read text)) (LTree InvalidLtreeLabel))

-- in binary another version is C36
abbrev pub tree_in_binary : List ℕ → Outcome (List (List ℕ))
tree_in_binary form = do
  text ← in_place (versioned (LTree InvalidLtreeVersion) form)
  tree_in_text text

-- a tree in either format
abbrev pub parse_tree : Given → Outcome (List (List ℕ))
parse_tree = in_both_formats tree_in_binary tree_in_text
