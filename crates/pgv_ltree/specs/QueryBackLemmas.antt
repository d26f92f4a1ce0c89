-- What is written of a query is read back as it (`comes_back`), where it has a level, each level that is no star has a
-- variant, and no level of some variants begins with an empty label.
use Rattle.std.specs.Prelude.{◌≡◌, ℕ, not, ◌&&◌, ◌==◌, Bool, true, false, List, [], ◌∷◌, ◌++◌, map, Some, Ok, refl}
use Rattle.std.specs.List.{join_with_byte, list_all}
use Rattle.std.proofs.Common.{ap, ◌∙◌}
use Rattle.std.proofs.lemmas.Bool.{false≢true, not-true, and_parts}
use Rattle.pgv_characters.specs.Characters.{asterisk, vertical_bar}
use Rattle.pgv_types.specs.Ty.{Ty}
use Rattle.pgv_types.specs.declared.oid.Oid.{Oid}
use Rattle.pgv_buf.specs.Tokens.{bytes}
use Rattle.pgv_value.specs.FrameBinary.{Part}
use Rattle.pgv_value.specs.Outcome.{ok_of, reading_of}
use Rattle.pgv_value.specs.declared.value.PgValueFormat.TheVariants.{Binary}
use Rattle.pgv_codec.specs.Back.{ReadsBack, image_is}
use Rattle.pgv_codec.specs.PartBackLemmas.{guarded}
use Rattle.pgv_codec.specs.ScalarBackLemmas.{part_is}
use Rattle.pgv_codec.specs.Encoding.{image_of, plainly, writes}
use Rattle.pgv_ltree.specs.Ascii.{ascii_is_utf8}
use Rattle.pgv_ltree.specs.JoinLemmas.{other_char}
use Rattle.pgv_ltree.specs.Labels.{is_label, is_label_char}
use Rattle.pgv_ltree.specs.PrintedLemmas.{label_chars}
use Rattle.pgv_ltree.specs.LevelLemmas.{BeginsPlainly, EachNeeds, NeedsFirst, query_again}
use Rattle.pgv_ltree.specs.AsciiLemmas.{query_ascii}
use Rattle.pgv_ltree.specs.Queries.{Variant, Level, star, one_of, none_of, is_level, is_query, is_variant}
use Rattle.pgv_ltree.specs.QueryCodec.{query_image, query_in_binary, parse_query}
use Rattle.pgv_ltree.specs.QueryPrinted.{printed_marks, printed_query, printed_variant}
use Rattle.pgv_ltree.specs.QueryRead.{is_nil, query_read}

-- whether a level comes back
abbrev pub level_comes_back : Level → Bool
level_comes_back (star low high) = true
level_comes_back (one_of []) = false
level_comes_back (one_of (v ∷ vs)) = not (is_nil v.label)
level_comes_back (none_of vs) = not (is_nil vs)

-- whether a query does
abbrev pub comes_back : List Level → Bool
comes_back levels = not (is_nil levels) && list_all level_comes_back levels

abbrev pub query_fits : List Level → Ty → List Oid → Type 0
query_fits levels t os = comes_back levels ≡ true

-- ---- a first label that is not empty begins plainly

begins_so : (c : ℕ) (label marks : List ℕ) (parts : List (List ℕ)) → is_label_char c ≡ true → BeginsPlainly (join_with_byte vertical_bar (((c ∷ label) ++ marks) ∷ parts))
begins_so c label marks [] e = (λ n. absurd cc, not-true (c == asterisk) (other_char is_label_char asterisk refl c e))
begins_so c label marks (next ∷ parts) e = (λ n. absurd cc, not-true (c == asterisk) (other_char is_label_char asterisk refl c e))

pub begins_plainly : (label : List ℕ) (a b c : Bool) (vs : List Variant) → is_label label ≡ true → not (is_nil label) ≡ true → BeginsPlainly (join_with_byte vertical_bar ((label ++ printed_marks a b c) ∷ map printed_variant vs))
begins_plainly [] a b c vs e some = absurd (false≢true some)
begins_plainly (d ∷ label) a b c vs e some = begins_so d label (printed_marks a b c) (map printed_variant vs) (and_parts (is_label_char d) (list_all is_label_char label) (label_chars (d ∷ label) e)).0

needs : (l : Level) → is_level l ≡ true → level_comes_back l ≡ true → NeedsFirst l
needs (star low high) e c = tt
needs (one_of []) e c = absurd (false≢true c)
needs (one_of (v ∷ vs)) e c = begins_plainly v.label v.any_end v.in_case v.sublexeme vs (and_parts (is_variant v) (list_all is_variant vs) e).0 c
needs (none_of []) e c = absurd (false≢true c)
needs (none_of (v ∷ vs)) e c = λ n. absurd cc

each_needs : (levels : List Level) → list_all is_level levels ≡ true → list_all level_comes_back levels ≡ true → EachNeeds levels
each_needs [] e c = tt
each_needs (l ∷ levels) e c =
    let b = and_parts (is_level l) (list_all is_level levels) e in
    let d = and_parts (level_comes_back l) (list_all level_comes_back levels) c in
    (needs l b.0 d.0, each_needs levels b.1 d.1)

-- ---- queries

pub printed_again : (levels : List Level) → is_query levels ≡ true → comes_back levels ≡ true → query_read (printed_query levels) ≡ Ok levels
printed_again [] e c = absurd (false≢true c)
printed_again (l ∷ levels) e c = query_again l levels e (each_needs (l ∷ levels) e (and_parts true (list_all level_comes_back (l ∷ levels)) c).1)

query_binary_again : (levels : List Level) → is_query levels ≡ true → comes_back levels ≡ true → (query_in_binary (1 ∷ printed_query levels)).answer ≡ Ok levels
query_binary_again levels e c = rw (ascii_is_utf8 (printed_query levels) (query_ascii levels e)) (rw (printed_again levels e c) refl)

pub query_back : ReadsBack (λ levels. plainly (writes (query_image levels))) (reading_of parse_query) (λ levels. levels) query_fits
query_back levels i t p os e whole small fit =
    let g = guarded (is_query levels) (Some (image_of (bytes (1 ∷ printed_query levels)))) i (image_is (query_image levels) i e) in
    ap (λ (part : Part). reading_of parse_query t Binary part) (part_is (1 ∷ printed_query levels) i p os g.1) ∙ ap ok_of (query_binary_again levels g.0 fit)
