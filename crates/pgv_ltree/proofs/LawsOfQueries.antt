-- The laws of queries.
use Rattle.std.proofs.Common.{◌≡◌, ◌≢◌, ◌∙◌, inl, inr, ap, sym, subst, refl, ℕ, Bool, true, false, List, [], ◌∷◌, ◌++◌, Some, None, map, ◌+◌, ◌<◌, length, get_or, take}
use Rattle.std.specs.Prelude.{Option, ◌==◌, ◌&&◌, ◌||◌, not, Result, Ok}
use Rattle.std.specs.List.{AllZip, join_with_byte, list_all, slice_split}
use Rattle.std.proofs.lemmas.Bool.{false≢true, lt-ltb, and_from, and_parts}
use Rattle.std.proofs.lemmas.List.Splits.{join_with_byte-slice_split}
use Rattle.pgv_value.specs.declared.tree_error.PgLQueryParseError.{PgLQueryParseError}
use Rattle.pgv_ltree.specs.JoinLemmas.{lacks}
use Rattle.pgv_ltree.specs.QueryLaws.{OneQuery, PrintedQueryIsRead, QueryIsRead, ReadQueryIsReadAgain, begins_with_no_star}
use Rattle.pgv_ltree.specs.LevelLemmas.{BeginsPlainly, EachNeeds, NeedsFirst, query_again, query_there}
use Rattle.pgv_ltree.specs.Queries.{Variant, Level, star, one_of, none_of, is_count, is_level, is_variant, is_query}
use Rattle.pgv_ltree.specs.QueryBackLemmas.{begins_plainly, printed_again}
use Rattle.pgv_ltree.specs.QueryPrinted.{printed_marks, printed_query, printed_variant}
use Rattle.pgv_ltree.specs.QueryRead.{is_nil, level_read, query_read}
use Rattle.pgv_ltree.specs.QueryText.{IsBoundText, IsLevelText, IsQueryText, IsVariantText, has_mark, is_mark}
use Rattle.pgv_ltree.proofs.EachRead.{each_is, each_reads, each_text, each_value, no_nil}
use Rattle.pgv_ltree.proofs.LawsOfLevels.{level_lacks, level_reads, level_text}
use Rattle.std.proofs.lemmas.List.{map_push, take_more}
use Rattle.std.proofs.lemmas.List.Folds.{list_all-append}
use Rattle.pgv_ltree.specs.LevelView.{level_of}
use Rattle.pgv_ltree.specs.declared.level.PgLQueryLevel.{PgLQueryLevel}

query_text : (text : List ℕ) (levels : List Level) → query_read text ≡ Ok levels → IsQueryText text levels
query_text text levels e =
    record {
      texts = slice_split (λ c. c == 46) text;
      some = no_nil 46 text;
      each = each_is level_read IsLevelText level_text (slice_split (λ c. c == 46) text) levels e;
      whole = sym (join_with_byte-slice_split 46 text);
    }

query_reads : (text : List ℕ) (levels : List Level) → IsQueryText text levels → query_read text ≡ Ok levels
query_reads text levels t =
    ap query_read t.whole ∙ query_there t.texts levels t.some (each_text IsLevelText (lacks 46) level_lacks t.texts levels t.each) (each_reads level_read IsLevelText level_reads t.texts levels t.each)

pub query_is_read : QueryIsRead
unfolding QueryIsRead
query_is_read text levels = (query_text text levels, query_reads text levels)

pub one_query : OneQuery
unfolding OneQuery
one_query text first second a b =
    let e : (let r : Result (List Level) PgLQueryParseError = Ok first in r) ≡ Ok second = sym (query_reads text first a) ∙ query_reads text second b in
    cc

pub printed_query_is_read : PrintedQueryIsRead
unfolding PrintedQueryIsRead
printed_query_is_read = printed_again

-- ---- what was read can be

is_variant_there : (text : List ℕ) (v : Variant) → IsVariantText text v → is_variant v ≡ true
is_variant_there text v t = t.label

bound_is_count : (text : List ℕ) (o : Option ℕ) → IsBoundText text o → is_count o ≡ true
bound_is_count text None t = refl
bound_is_count text (Some n) t = lt-ltb n 65536 t.small

star_can_be : (text : List ℕ) (low high : Option ℕ) → IsLevelText text (star low high) → is_level (star low high) ≡ true
star_can_be text low high (inl (t, lo, hi)) = rw (lo, hi) refl
star_can_be text low high (inr (inl (n, count, is, t, lo, hi))) = let l = lt-ltb n 65536 is.small in rw (lo, hi, l) refl
star_can_be text low high (inr (inr (least, most, p, q, some, t))) = and_from (is_count low) (is_count high) (bound_is_count least low p) (bound_is_count most high q)

level_can_be : (text : List ℕ) (l : Level) → IsLevelText text l → is_level l ≡ true
level_can_be text (star low high) t = star_can_be text low high t
level_can_be text (one_of vs) (n, plain, t) = each_value IsVariantText is_variant is_variant_there t.texts vs t.each
level_can_be text (none_of vs) (rest, e, t) = each_value IsVariantText is_variant is_variant_there t.texts vs t.each

-- ---- and begins plainly

or_false : (a b : Bool) → (a || b) ≡ false → a ≡ false
or_false true b e = absurd (false≢true (sym e))
or_false false b e = refl

no_marks : (marks : List ℕ) → list_all is_mark marks ≡ true → has_mark 42 marks ≡ false → has_mark 64 marks ≡ false → has_mark 37 marks ≡ false → marks ≡ []
no_marks [] e a b c = refl
no_marks (m ∷ marks) e a b c =
    let mark = (and_parts (is_mark m) (list_all is_mark marks) e).0 in
    let x = or_false (m == 42) (has_mark 42 marks) a in
    let y = or_false (m == 64) (has_mark 64 marks) b in
    let z = or_false (m == 37) (has_mark 37 marks) c in
    let none : is_mark m ≡ false = rw (x, y, z) refl in
    absurd (false≢true (sym none ∙ mark))

-- an empty label without `*`, of a text that is not empty
empty_first : (b c : Bool) (vs : List Variant) → (b ≡ false → c ≡ false → vs ≡ [] → ⊥) → BeginsPlainly (join_with_byte 124 (([] ++ printed_marks false b c) ∷ map printed_variant vs))
empty_first true true [] h = (λ n. absurd cc, refl)
empty_first true true (v ∷ vs) h = (λ n. absurd cc, refl)
empty_first true false [] h = (λ n. absurd cc, refl)
empty_first true false (v ∷ vs) h = (λ n. absurd cc, refl)
empty_first false true [] h = (λ n. absurd cc, refl)
empty_first false true (v ∷ vs) h = (λ n. absurd cc, refl)
empty_first false false [] h = absurd (h refl refl refl)
empty_first false false (v ∷ vs) h = (λ n. absurd cc, refl)

-- a text of one variant without a label and modifiers is empty
empty_text : (texts : List (List ℕ)) (v : Variant) → AllZip IsVariantText texts (v ∷ []) → v.label ≡ [] → v.any_end ≡ false → v.in_case ≡ false → v.sublexeme ≡ false → join_with_byte 124 texts ≡ []
empty_text [] v z l a b c = absurd z
empty_text (text ∷ next ∷ texts) v z l a b c = absurd z.1
empty_text (text ∷ []) v z l a b c =
    let t = z.0 in
    let marks = no_marks t.marks t.each (sym t.any_end ∙ a) (sym t.in_case ∙ b) (sym t.sublexeme ∙ c) in
    t.whole ∙ rw (l, marks) refl

first_plain : (label : List ℕ) (a b c : Bool) (vs : List Variant) (text : List ℕ) (texts : List (List ℕ)) → is_variant (record { label = label; any_end = a; in_case = b; sublexeme = c }) ≡ true → text ≢ [] → text ≡ join_with_byte 124 texts →
    AllZip IsVariantText texts (record { label = label; any_end = a; in_case = b; sublexeme = c } ∷ vs) → not (is_nil label && a) ≡ true →
    BeginsPlainly (join_with_byte 124 ((label ++ printed_marks a b c) ∷ map printed_variant vs))
first_plain (d ∷ label) a b c vs text texts e some whole z bare = begins_plainly (d ∷ label) a b c vs e refl
first_plain [] true b c vs text texts e some whole z bare = absurd (false≢true bare)
first_plain [] false b c vs text texts e some whole z bare =
    empty_first b c vs (λ x y n. some (whole ∙ empty_text texts (record { label = []; any_end = false; in_case = b; sublexeme = c }) (subst (λ ws. AllZip IsVariantText texts (record { label = []; any_end = false; in_case = b; sublexeme = c } ∷ ws)) n z) refl refl x y))

some_variant : (texts : List (List ℕ)) (vs : List Variant) → texts ≢ [] → AllZip IsVariantText texts vs → vs ≢ []
some_variant [] vs n z e = absurd (n refl)
some_variant (text ∷ texts) [] n z e = absurd z
some_variant (text ∷ texts) (v ∷ vs) n z e = absurd cc

level_needs : (text : List ℕ) (l : Level) → IsLevelText text l → begins_with_no_star l ≡ true → NeedsFirst l
level_needs text (star low high) t bare = tt
level_needs text (one_of []) (n, plain, t) bare = absurd (some_variant t.texts [] t.some t.each refl)
level_needs text (one_of (v ∷ vs)) (n, plain, t) bare =
    first_plain v.label v.any_end v.in_case v.sublexeme vs text t.texts (and_parts (is_variant v) (list_all is_variant vs) (each_value IsVariantText is_variant is_variant_there t.texts (v ∷ vs) t.each)).0 n t.whole t.each bare
level_needs text (none_of vs) (rest, e, t) bare = some_variant t.texts vs t.some t.each

each_level_needs : (texts : List (List ℕ)) (levels : List Level) → AllZip IsLevelText texts levels → list_all begins_with_no_star levels ≡ true → EachNeeds levels
each_level_needs [] [] z bare = tt
each_level_needs [] (l ∷ levels) z bare = absurd z
each_level_needs (text ∷ texts) [] z bare = absurd z
each_level_needs (text ∷ texts) (l ∷ levels) z bare =
    let b = and_parts (begins_with_no_star l) (list_all begins_with_no_star levels) bare in
    (level_needs text l z.0 b.0, each_level_needs texts levels z.1 b.1)

again : (texts : List (List ℕ)) (levels : List Level) → texts ≢ [] → AllZip IsLevelText texts levels → list_all begins_with_no_star levels ≡ true → query_read (printed_query levels) ≡ Ok levels
again [] levels n z bare = absurd (n refl)
again (text ∷ texts) [] n z bare = absurd z
again (text ∷ texts) (l ∷ levels) n z bare =
    query_again l levels (each_value IsLevelText is_level level_can_be (text ∷ texts) (l ∷ levels) z) (each_level_needs (text ∷ texts) (l ∷ levels) z bare)

pub read_query_is_read_again : ReadQueryIsReadAgain
unfolding ReadQueryIsReadAgain
read_query_is_read_again text levels e bare =
    let t = query_text text levels e in
    again t.texts levels t.some t.each bare

and_true : (b : Bool) → (b && true) ≡ b
and_true true = refl
and_true false = refl

-- one more level of a slice
pub levels_more : (levels : List PgLQueryLevel) (i : ℕ) (d : PgLQueryLevel) → i < length levels → is_query (map level_of (take (i + 1) levels)) ≡ (is_query (map level_of (take i levels)) && is_level (level_of (get_or levels i d)))
levels_more levels i d l =
    ap (λ ls. is_query (map level_of ls)) (take_more levels i d l) ∙ ap is_query (map_push level_of (take i levels) (get_or levels i d))
    ∙ list_all-append is_level (map level_of (take i levels)) _ ∙ ap (λ b. is_query (map level_of (take i levels)) && b) (and_true (is_level (level_of (get_or levels i d))))
