-- A value by its label, which is written and read as its text, in both formats (PostgreSQL: "Enumerated Types").
use Rattle.std.specs.Prelude.{◌≡◌, ℕ, ◌&&◌, ◌||◌, Bool, true, false, List, [], ◌∷◌, bytes_eq, Option, Some, None, option_map, ok_or, if◌then◌else◌, refl}
use Rattle.std.proofs.Common.{ap, ◌∙◌}
use Rattle.std.proofs.lemmas.Bool.{and_parts}
use Rattle.std.proofs.lemmas.Slice.Eq.{bytes_eq-Decides}
use Rattle.pgv_value.specs.Outcome.{reading_of, without_memory}
use Rattle.pgv_value.specs.Parsed.{Parsed, ◌>>=◌}
use Rattle.pgv_value.specs.Text.{is_utf8, utf8_part}
use Rattle.pgv_value.specs.ValueView.{Given}
use Rattle.pgv_value.specs.declared.error.CodecError.TheVariants.{Syntax}
use Rattle.pgv_codec.specs.Back.{ReadsBack, always, image_is}
use Rattle.pgv_codec.specs.ScalarBackLemmas.{part_is}
use Rattle.pgv_codec.specs.Encoding.{Encoding, plainly, writes}
use Rattle.pgv_codec.specs.ScalarImage.{text_image}
use Rattle.pgv_ltree.specs.Ascii.{are_ascii, ascii_is_utf8}

-- the value that a table of labels gives to a label: that of the first row with it
abbrev pub labelled : {A : Type 0} → List (List ℕ × A) → List ℕ → Option A
labelled [] label = None
labelled (row ∷ rows) label = if bytes_eq label row.0 then Some row.1 else labelled rows label

-- Whether a label is UTF-8. Of one of ASCII characters this computes, so that `refl` shows it.
abbrev pub is_enum_label : List ℕ → Bool
is_enum_label label = are_ascii label || is_utf8 label

-- whether all labels of a table are
abbrev pub are_labels : {A : Type 0} → List (List ℕ × A) → Bool
are_labels [] = true
are_labels (row ∷ rows) = is_enum_label row.0 && are_labels rows

either_utf8 : (label : List ℕ) (ascii : Bool) → are_ascii label ≡ ascii → (ascii || is_utf8 label) ≡ true → is_utf8 label ≡ true
either_utf8 label true ascii e = ascii_is_utf8 label ascii
either_utf8 label false ascii e = e

row_utf8 : {A : Type 0} (row : List ℕ × A) (rows : List (List ℕ × A)) (label : List ℕ) (v : A) (same : Bool) → bytes_eq label row.0 ≡ same → is_enum_label row.0 ≡ true →
    (labelled rows label ≡ Some v → is_utf8 label ≡ true) → (if same then Some row.1 else labelled rows label) ≡ Some v → is_utf8 label ≡ true
row_utf8 row rows label v true same text below found =
    ap is_utf8 ((bytes_eq-Decides label row.0).0 same) ∙ either_utf8 row.0 (are_ascii row.0) refl text
row_utf8 row rows label v false same text below found = below found

label_utf8 : {A : Type 0} (rows : List (List ℕ × A)) (label : List ℕ) (v : A) → are_labels rows ≡ true → labelled rows label ≡ Some v → is_utf8 label ≡ true
label_utf8 [] label v e found = absurd cc
label_utf8 (row ∷ rows) label v e found =
    let parts = and_parts (is_enum_label row.0) (are_labels rows) e in
    row_utf8 row rows label v (bytes_eq label row.0) refl parts.0 (label_utf8 rows label v parts.1) found

-- a value is written as its label
abbrev pub label_written : List ℕ → Encoding
label_written label = plainly (writes (text_image label))

-- the label that a text is; another text is C29
abbrev pub parse_label : {A : Type 0} → (A → List ℕ) → List (List ℕ × A) → Given → Parsed (List ℕ)
parse_label label_of rows v = utf8_part v.bytes >>= λ text. ok_or (option_map label_of (labelled rows text)) Syntax

-- each value is read back, where the table has its label as its own and labels are UTF-8
pub label_back : {A : Type 0} (label_of : A → List ℕ) (rows : List (List ℕ × A)) → ((v : A) → labelled rows (label_of v) ≡ Some v) → are_labels rows ≡ true →
    ReadsBack (λ (v : A). label_written (label_of v)) (reading_of (without_memory (parse_label label_of rows))) label_of always
label_back label_of rows again utf8 v i t p oids e whole small fit =
    rw (part_is (label_of v) i p oids (image_is (text_image (label_of v)) i e), label_utf8 rows (label_of v) v utf8 (again v), again v) refl
