-- What is written of a tree is read back as it; a tree without labels comes back as one empty label (`tree_kept`).
use Rattle.std.specs.Prelude.{◌≡◌, ℕ, true, List, [], ◌∷◌, Some, Ok, refl}
use Rattle.std.specs.List.{list_all}
use Rattle.std.proofs.Common.{ap, ◌∙◌}
use Rattle.pgv_characters.specs.Characters.{dot}
use Rattle.pgv_buf.specs.Tokens.{bytes}
use Rattle.pgv_value.specs.FrameBinary.{Part}
use Rattle.pgv_value.specs.Outcome.{ok_of, reading_of}
use Rattle.pgv_value.specs.declared.value.PgValueFormat.TheVariants.{Binary}
use Rattle.pgv_codec.specs.Back.{ReadsBack, always, image_is}
use Rattle.pgv_codec.specs.PartBackLemmas.{guarded}
use Rattle.pgv_codec.specs.ScalarBackLemmas.{part_is}
use Rattle.pgv_codec.specs.Encoding.{image_of, plainly, writes}
use Rattle.pgv_ltree.specs.Ascii.{are_ascii, ascii_is_utf8, ascii_joined, is_ascii}
use Rattle.pgv_ltree.specs.JoinLemmas.{wider}
use Rattle.pgv_ltree.specs.Labels.{is_label, is_label_char}
use Rattle.pgv_ltree.specs.LabelChars.{char_is_ascii}
use Rattle.pgv_ltree.specs.PrintedLemmas.{label_chars, tree_again}
use Rattle.pgv_ltree.specs.Trees.{printed_tree}
use Rattle.pgv_ltree.specs.TreesCodec.{parse_tree, tree_image, tree_in_binary, tree_in_text}

-- the labels that come back
abbrev pub tree_kept : List (List ℕ) → List (List ℕ)
tree_kept [] = [] ∷ []
tree_kept (label ∷ labels) = label ∷ labels

pub label_is_ascii : (label : List ℕ) → is_label label ≡ true → are_ascii label ≡ true
label_is_ascii label e = wider is_label_char is_ascii char_is_ascii label (label_chars label e)

tree_text_again : (labels : List (List ℕ)) → list_all is_label labels ≡ true → (tree_in_text (printed_tree labels)).answer ≡ Ok (tree_kept labels)
tree_text_again [] e = refl
tree_text_again (label ∷ labels) e = rw (tree_again label labels e) refl

tree_binary_again : (labels : List (List ℕ)) → list_all is_label labels ≡ true → (tree_in_binary (1 ∷ printed_tree labels)).answer ≡ Ok (tree_kept labels)
tree_binary_again labels e =
    rw (ascii_is_utf8 (printed_tree labels) (ascii_joined dot refl labels (wider is_label are_ascii label_is_ascii labels e))) (tree_text_again labels e)

pub tree_back : ReadsBack (λ tree. plainly (writes (tree_image tree))) (reading_of parse_tree) tree_kept always
tree_back labels i t p os e whole small fit =
    let g = guarded (list_all is_label labels) (Some (image_of (bytes (1 ∷ printed_tree labels)))) i (image_is (tree_image labels) i e) in
    ap (λ (part : Part). reading_of parse_tree t Binary part) (part_is (1 ∷ printed_tree labels) i p os g.1) ∙ ap ok_of (tree_binary_again labels g.0)
