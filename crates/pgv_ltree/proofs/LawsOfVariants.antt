-- The laws of variants.
use Rattle.std.proofs.Common.{◌≡◌, ◌≢◌, ◌∙◌, ap, sym, subst, refl, ℕ, Bool, true, false, cond, List, [], ◌∷◌, ◌++◌, take, drop}
use Rattle.std.specs.Prelude.{◌==◌, ◌&&◌, not, Result, Ok, Err}
use Rattle.std.specs.List.{AllZip, join_with_byte, list_all, slice_split}
use Rattle.std.proofs.lemmas.List.{take-append-drop}
use Rattle.std.proofs.lemmas.List.Splits.{join_with_byte-slice_split}
use Rattle.pgv_value.specs.declared.tree_error.PgLQueryParseError.{PgLQueryParseError}
use Rattle.pgv_ltree.specs.TextsInTurn.{read_each}
use Rattle.pgv_ltree.specs.JoinLemmas.{lacks, split_again}
use Rattle.pgv_ltree.specs.Labels.{is_label, is_label_char}
use Rattle.pgv_ltree.specs.QueryLaws.{OneVariant, VariantIsRead}
use Rattle.pgv_ltree.specs.Lacking.{lacks-joined}
use Rattle.pgv_ltree.specs.LevelLemmas.{variant_lacks, variant_there}
use Rattle.pgv_ltree.specs.Queries.{Variant}
use Rattle.pgv_ltree.specs.QueryRead.{label_length, marked, variant_read, variants_read}
use Rattle.pgv_ltree.specs.QueryText.{AreVariantsText, IsVariantText, is_mark}
use Rattle.pgv_ltree.proofs.EachRead.{each_is, each_reads, each_text, no_nil}

record Made (b c : Bool) (v w : Variant) : Type 0 where
  first : b ≡ true
  second : c ≡ true
  same : v ≡ w

made : (b c : Bool) (v w : Variant) (e : PgLQueryParseError) → cond (b && c) (Ok w) (Err e) ≡ Ok v → Made b c v w
made true true v w e h = record { first = refl; second = refl; same = cc }
made true false v w e h = absurd cc
made false c v w e h = absurd cc

marked_text : (text label marks : List ℕ) → is_label label ≡ true → list_all is_mark marks ≡ true → text ≡ label ++ marks → IsVariantText text (marked label marks)
marked_text text label marks l m e = record { marks = marks; label = l; each = m; whole = e; any_end = refl; in_case = refl; sublexeme = refl }

pub variant_text : (text : List ℕ) (v : Variant) → variant_read text ≡ Ok v → IsVariantText text v
variant_text text v h =
    let label = take (label_length text) text in
    let marks = drop (label_length text) text in
    let m = made (list_all is_mark marks) (is_label label) v (marked label marks) _ h in
    subst (λ w. IsVariantText text w) (sym m.same) (marked_text text label marks m.second m.first (sym (take-append-drop (label_length text) text)))

pub variant_reads : (text : List ℕ) (v : Variant) → IsVariantText text v → variant_read text ≡ Ok v
variant_reads text v t =
    let same : marked v.label t.marks ≡ v = λ i. record { label = v.label; any_end = sym t.any_end i; in_case = sym t.in_case i; sublexeme = sym t.sublexeme i } in
    ap variant_read t.whole ∙ variant_there v.label t.marks t.label t.each ∙ ap (λ w. let r : Result Variant PgLQueryParseError = Ok w in r) same

pub variant_is_read : VariantIsRead
unfolding VariantIsRead
variant_is_read text v = (variant_text text v, variant_reads text v)

pub one_variant : OneVariant
unfolding OneVariant
one_variant text v w a b =
    let e : (let r : Result Variant PgLQueryParseError = Ok v in r) ≡ Ok w = sym (variant_reads text v a) ∙ variant_reads text w b in
    cc

-- ---- variants, one after another

pub text_lacks : (d : ℕ) → is_label_char d ≡ false → is_mark d ≡ false → (text : List ℕ) (v : Variant) → IsVariantText text v → lacks d text ≡ true
text_lacks d n m text v t = ap (lacks d) t.whole ∙ variant_lacks d n m v.label t.marks t.label t.each

pub are_text : (text : List ℕ) (vs : List Variant) → variants_read text ≡ Ok vs → AreVariantsText text vs
are_text text vs e =
    record {
      texts = slice_split (λ c. c == 124) text;
      some = no_nil 124 text;
      each = each_is variant_read IsVariantText variant_text (slice_split (λ c. c == 124) text) vs e;
      whole = sym (join_with_byte-slice_split 124 text);
    }

parts_read : (texts : List (List ℕ)) (vs : List Variant) → texts ≢ [] → AllZip IsVariantText texts vs → variants_read (join_with_byte 124 texts) ≡ Ok vs
parts_read [] vs n z = absurd (n refl)
parts_read (text ∷ texts) vs n z =
    ap (read_each variant_read) (split_again 124 text texts (each_text IsVariantText (lacks 124) (text_lacks 124 refl refl) (text ∷ texts) vs z)) ∙ each_reads variant_read IsVariantText variant_reads (text ∷ texts) vs z

pub are_read : (text : List ℕ) (vs : List Variant) → AreVariantsText text vs → variants_read text ≡ Ok vs
are_read text vs t = ap variants_read t.whole ∙ parts_read t.texts vs t.some t.each

pub variants_lack : (d : ℕ) → is_label_char d ≡ false → is_mark d ≡ false → not (124 == d) ≡ true → (text : List ℕ) (vs : List Variant) → AreVariantsText text vs → lacks d text ≡ true
variants_lack d n m other text vs t = ap (lacks d) t.whole ∙ lacks-joined d 124 other t.texts (each_text IsVariantText (lacks d) (text_lacks d n m) t.texts vs t.each)
