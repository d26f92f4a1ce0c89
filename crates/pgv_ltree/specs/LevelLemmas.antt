-- Variants, levels and queries are read from their texts.
use Rattle.std.specs.Prelude.{◌≡◌, ◌≢◌, ℕ, ◌+◌, ◌<◌, nat_lt, not, ◌==◌, Bool, true, false, if◌then◌else◌, codes, List, [], ◌∷◌, ◌++◌, length, map, Option, Some, None, Result, Ok, ⊤, refl}
use Rattle.std.specs.Char.{is_ascii_digit}
use Rattle.std.specs.Fmt.{decimal}
use Rattle.std.specs.List.{join_with_byte, list_all}
use Rattle.std.specs.Str.{all_ascii_digits}
use Rattle.std.proofs.Common.{arith, ap, sym, ◌∙◌, append_assoc}
use Rattle.std.proofs.lemmas.Bool.{eqb-true, ltb-true, and_from, not-true, and_parts}
use Rattle.std.proofs.lemmas.List.{take_at, drop_at}
use Rattle.pgv_characters.specs.Characters.{exclamation_mark, percent_sign, asterisk, comma, dot, at_sign, vertical_bar, right_brace}
use Rattle.pgv_value.specs.declared.tree_error.PgLQueryParseError.{PgLQueryParseError}
use Rattle.pgv_ltree.specs.TextsInTurn.{read_each}
use Rattle.pgv_ltree.specs.JoinLemmas.{lacks, other_char, split_again, wider}
use Rattle.pgv_ltree.specs.Labels.{is_label, is_label_char}
use Rattle.pgv_ltree.specs.PrintedLemmas.{label_chars}
use Rattle.pgv_ltree.specs.CountLemmas.{bound_there, count_again, decimal_digits, decimal_some, digits_lack}
use Rattle.pgv_ltree.specs.Lacking.{before_last_at, cut_there, cut_lacks, lacks-append, lacks-joined, no_mark}
use Rattle.pgv_ltree.specs.Queries.{Variant, Level, star, one_of, none_of, is_level, is_variant}
use Rattle.pgv_ltree.specs.QueryPrinted.{printed_level, printed_marks, printed_query, printed_star, printed_variant, printed_variants}
use Rattle.pgv_ltree.specs.QueryRead.{bound_read, count_read, inner_read, label_length, level_read, marked, query_read, variant_read, variants_read}
use Rattle.pgv_ltree.specs.QueryText.{begins_with_star, is_mark}

-- ---- variants

-- a label's character is no modifier
no_mark_there : (c : ℕ) → is_label_char c ≡ true → is_mark c ≡ false
no_mark_there c e =
    rw (not-true (c == asterisk) (other_char is_label_char asterisk refl c e), not-true (c == at_sign) (other_char is_label_char at_sign refl c e), not-true (c == percent_sign) (other_char is_label_char percent_sign refl c e)) refl

length_at : (label marks : List ℕ) → list_all is_label_char label ≡ true → list_all is_mark marks ≡ true → label_length (label ++ marks) ≡ length label
length_at [] [] e f = refl
length_at [] (m ∷ marks) e f = rw (and_parts (is_mark m) (list_all is_mark marks) f).0 refl
length_at (c ∷ label) marks e f =
    let b = and_parts (is_label_char c) (list_all is_label_char label) e in
    rw (no_mark_there c b.0, length_at label marks b.1 f) (omega arith)

pub variant_there : (label marks : List ℕ) → is_label label ≡ true → list_all is_mark marks ≡ true → variant_read (label ++ marks) ≡ Ok (marked label marks)
variant_there label marks e f =
    let n = length_at label marks (label_chars label e) f in
    rw (n, take_at label marks (length label) refl, drop_at label marks (length label) refl, e, f) refl

pub marks_are : (a b c : Bool) → list_all is_mark (printed_marks a b c) ≡ true
marks_are true true true = refl
marks_are true true false = refl
marks_are true false true = refl
marks_are true false false = refl
marks_are false true true = refl
marks_are false true false = refl
marks_are false false true = refl
marks_are false false false = refl

marks_again : (label : List ℕ) (a b c : Bool) → marked label (printed_marks a b c) ≡ record { label = label; any_end = a; in_case = b; sublexeme = c }
marks_again label true true true = refl
marks_again label true true false = refl
marks_again label true false true = refl
marks_again label true false false = refl
marks_again label false true true = refl
marks_again label false true false = refl
marks_again label false false true = refl
marks_again label false false false = refl

variant_again : (v : Variant) → is_variant v ≡ true → variant_read (printed_variant v) ≡ Ok v
variant_again v e =
    variant_there v.label (printed_marks v.any_end v.in_case v.sublexeme) e (marks_are v.any_end v.in_case v.sublexeme)
    ∙ ap (λ w. let r : Result Variant PgLQueryParseError = Ok w in r) (marks_again v.label v.any_end v.in_case v.sublexeme)

-- a label and modifiers lack every other character
pub variant_lacks : (d : ℕ) → is_label_char d ≡ false → is_mark d ≡ false → (label marks : List ℕ) → is_label label ≡ true → list_all is_mark marks ≡ true → lacks d (label ++ marks) ≡ true
variant_lacks d n m label marks e f =
    lacks-append d label marks (wider is_label_char (λ c. not (c == d)) (other_char is_label_char d n) label (label_chars label e)) (wider is_mark (λ c. not (c == d)) (other_char is_mark d m) marks f)

printed_lack : (d : ℕ) → is_label_char d ≡ false → is_mark d ≡ false → (vs : List Variant) → list_all is_variant vs ≡ true → list_all (lacks d) (map printed_variant vs) ≡ true
printed_lack d n m [] e = refl
printed_lack d n m (v ∷ vs) e =
    let b = and_parts (is_variant v) (list_all is_variant vs) e in
    and_from (lacks d (printed_variant v)) (list_all (lacks d) (map printed_variant vs))
    (variant_lacks d n m v.label (printed_marks v.any_end v.in_case v.sublexeme) b.0 (marks_are v.any_end v.in_case v.sublexeme)) (printed_lack d n m vs b.1)

each_again : (vs : List Variant) → list_all is_variant vs ≡ true → read_each variant_read (map printed_variant vs) ≡ Ok vs
each_again [] e = refl
each_again (v ∷ vs) e =
    let b = and_parts (is_variant v) (list_all is_variant vs) e in
    rw (variant_again v b.0, each_again vs b.1) refl

variants_again : (v : Variant) (vs : List Variant) → list_all is_variant (v ∷ vs) ≡ true → variants_read (printed_variants (v ∷ vs)) ≡ Ok (v ∷ vs)
variants_again v vs e =
    ap (read_each variant_read) (split_again vertical_bar (printed_variant v) (map printed_variant vs) (printed_lack vertical_bar refl refl (v ∷ vs) e)) ∙ each_again (v ∷ vs) e

-- ---- stars

-- exactly this number
pub exact_there : (count : List ℕ) (n : ℕ) → all_ascii_digits count ≡ true → count_read count ≡ Ok n → inner_read (Some count) ≡ Ok (star (Some n) (Some n))
exact_there count n d e = rw (cut_lacks comma count (digits_lack comma refl count d), e) refl

-- between two numbers, one of which may be missing
pub bounds_there : (least most : List ℕ) (low high : Option ℕ) → lacks comma least ≡ true → lacks comma most ≡ true → bound_read least ≡ Ok low → bound_read most ≡ Ok high → (length least + length most ≢ 0) →
    inner_read (Some (least ++ comma ∷ most)) ≡ Ok (star low high)
bounds_there [] [] low high p q e f some = absurd (some refl)
bounds_there [] (c ∷ most) low high p q e f some = rw (no_mark comma (c ∷ most) q, e, f) refl
bounds_there (c ∷ least) most low high p q e f some = rw (cut_there comma (c ∷ least) most p, no_mark comma most q, e, f) refl

small : (n : ℕ) → nat_lt n 65536 ≡ true → n < 65536
small n e = ltb-true n 65536 e

decimal_lacks : (d n : ℕ) → is_ascii_digit d ≡ false → n < 65536 → lacks d (decimal n) ≡ true
decimal_lacks d n other l = digits_lack d other (decimal n) (decimal_digits n l)

decimal_bound : (n : ℕ) → n < 65536 → bound_read (decimal n) ≡ Ok (Some n)
decimal_bound n l = bound_there (decimal n) n (decimal_some n l) (count_again n l)

both_bounds : (low high : ℕ) (b : Bool) → (low == high) ≡ b → low < 65536 → high < 65536 →
    level_read (if b then codes "*{" ++ decimal low ++ codes "}" else codes "*{" ++ decimal low ++ codes "," ++ decimal high ++ codes "}") ≡ Ok (star (Some low) (Some high))
both_bounds low high true e l h =
    rw (before_last_at right_brace (decimal low)) (exact_there (decimal low) low (decimal_digits low l) (count_again low l) ∙ ap (λ n. let r : Result Level PgLQueryParseError = Ok (star (Some low) (Some n)) in r) (eqb-true low high e))
both_bounds low high false e l h =
    let whole : (decimal low ++ comma ∷ []) ++ decimal high ≡ decimal low ++ comma ∷ decimal high = append_assoc (decimal low) (comma ∷ []) (decimal high) in
    rw (before_last_at right_brace ((decimal low ++ comma ∷ []) ++ decimal high), whole)
    (bounds_there (decimal low) (decimal high) (Some low) (Some high) (decimal_lacks comma low refl l) (decimal_lacks comma high refl h) (decimal_bound low l) (decimal_bound high h) (λ n. let s = decimal_some low l in omega (arith, n, s)))

pub star_again : (low high : Option ℕ) → is_level (star low high) ≡ true → level_read (printed_star low high) ≡ Ok (star low high)
star_again None None e = refl
star_again (Some low) None e =
    let l = small low (and_parts (nat_lt low 65536) true e).0 in
    let whole : decimal low ++ comma ∷ right_brace ∷ [] ≡ (decimal low ++ comma ∷ []) ++ right_brace ∷ [] = sym (append_assoc (decimal low) (comma ∷ []) (right_brace ∷ [])) in
    rw (whole, before_last_at right_brace (decimal low ++ comma ∷ [])) (bounds_there (decimal low) [] (Some low) None (decimal_lacks comma low refl l) refl (decimal_bound low l) refl (λ n. let s = decimal_some low l in omega (arith, n, s)))
star_again None (Some high) e =
    let h = small high e in
    rw (before_last_at right_brace (comma ∷ decimal high)) (bounds_there [] (decimal high) None (Some high) refl (decimal_lacks comma high refl h) refl (decimal_bound high h) (λ n. let s = decimal_some high h in omega (arith, n, s)))
star_again (Some low) (Some high) e =
    let b = and_parts (nat_lt low 65536) (nat_lt high 65536) e in
    both_bounds low high (low == high) refl (small low b.0) (small high b.1)

-- ---- levels

not_first : (d c : ℕ) (text : List ℕ) → lacks d (c ∷ text) ≡ true → (c == d) ≡ false
not_first d c text e = not-true (c == d) (and_parts (not (c == d)) (lacks d text) e).0

-- a text of variants that is neither empty nor begins with a star
pub one_there : (text : List ℕ) (vs : List Variant) → text ≢ [] → begins_with_star text ≡ false → lacks exclamation_mark text ≡ true → variants_read text ≡ Ok vs → level_read text ≡ Ok (one_of vs)
one_there [] vs some plain no_not e = absurd (some refl)
one_there (c ∷ text) vs some plain no_not e = rw (plain, not_first exclamation_mark c text no_not, e) refl

-- the text begins, with something else than a star
abbrev pub BeginsPlainly : List ℕ → Type 0
BeginsPlainly text = (text ≢ []) × (begins_with_star text ≡ false)

-- what a level needs to be read again: a variant, and one of its own at the beginning
abbrev pub NeedsFirst : Level → Type 0
NeedsFirst (star low high) = ⊤
NeedsFirst (one_of vs) = BeginsPlainly (printed_variants vs)
NeedsFirst (none_of vs) = vs ≢ []

pub level_again : (l : Level) → is_level l ≡ true → NeedsFirst l → level_read (printed_level l) ≡ Ok l
level_again (star low high) e begins = star_again low high e
level_again (one_of []) e begins = absurd (begins.0 refl)
level_again (one_of (v ∷ vs)) e begins =
    one_there (printed_variants (v ∷ vs)) (v ∷ vs) begins.0 begins.1 (lacks-joined exclamation_mark vertical_bar refl (map printed_variant (v ∷ vs)) (printed_lack exclamation_mark refl refl (v ∷ vs) e)) (variants_again v vs e)
level_again (none_of []) e begins = absurd (begins refl)
level_again (none_of (v ∷ vs)) e begins = rw (variants_again v vs e) refl

-- ---- dots

by_case : (b : Bool) (x y : List ℕ) → lacks dot x ≡ true → lacks dot y ≡ true → lacks dot (if b then x else y) ≡ true
by_case true x y e f = e
by_case false x y e f = f

star_lacks : (low high : Option ℕ) → is_level (star low high) ≡ true → lacks dot (printed_star low high) ≡ true
star_lacks None None e = refl
star_lacks (Some low) None e = lacks-append dot (decimal low) (comma ∷ right_brace ∷ []) (decimal_lacks dot low refl (small low (and_parts (nat_lt low 65536) true e).0)) refl
star_lacks None (Some high) e = lacks-append dot (decimal high) (right_brace ∷ []) (decimal_lacks dot high refl (small high e)) refl
star_lacks (Some low) (Some high) e =
    let b = and_parts (nat_lt low 65536) (nat_lt high 65536) e in
    let l = decimal_lacks dot low refl (small low b.0) in
    let h = decimal_lacks dot high refl (small high b.1) in
    by_case (low == high) _ _ (lacks-append dot (decimal low) (right_brace ∷ []) l refl) (lacks-append dot (decimal low ++ comma ∷ [] ++ decimal high) (right_brace ∷ []) (lacks-append dot (decimal low ++ comma ∷ []) (decimal high) (lacks-append dot (decimal low) (comma ∷ []) l refl) h) refl)

pub level_lacks : (l : Level) → is_level l ≡ true → lacks dot (printed_level l) ≡ true
level_lacks (star low high) e = star_lacks low high e
level_lacks (one_of vs) e = lacks-joined dot vertical_bar refl (map printed_variant vs) (printed_lack dot refl refl vs e)
level_lacks (none_of []) e = refl
level_lacks (none_of (v ∷ vs)) e = lacks-joined dot vertical_bar refl (map printed_variant (v ∷ vs)) (printed_lack dot refl refl (v ∷ vs) e)

-- ---- queries

pub query_there : (texts : List (List ℕ)) (levels : List Level) → texts ≢ [] → list_all (lacks dot) texts ≡ true → read_each level_read texts ≡ Ok levels → query_read (join_with_byte dot texts) ≡ Ok levels
query_there [] levels some e r = absurd (some refl)
query_there (text ∷ texts) levels some e r = ap (read_each level_read) (split_again dot text texts e) ∙ r

levels_lack : (levels : List Level) → list_all is_level levels ≡ true → list_all (lacks dot) (map printed_level levels) ≡ true
levels_lack [] e = refl
levels_lack (l ∷ levels) e =
    let b = and_parts (is_level l) (list_all is_level levels) e in
    and_from (lacks dot (printed_level l)) (list_all (lacks dot) (map printed_level levels)) (level_lacks l b.0) (levels_lack levels b.1)

-- each level of a query has what it needs
abbrev pub EachNeeds : List Level → Type 0
EachNeeds [] = ⊤
EachNeeds (l ∷ levels) = NeedsFirst l × EachNeeds levels

levels_again : (levels : List Level) → list_all is_level levels ≡ true → EachNeeds levels → read_each level_read (map printed_level levels) ≡ Ok levels
levels_again [] e n = refl
levels_again (l ∷ levels) e n =
    let b = and_parts (is_level l) (list_all is_level levels) e in
    rw (level_again l b.0 n.0, levels_again levels b.1 n.1) refl

pub query_again : (l : Level) (levels : List Level) → list_all is_level (l ∷ levels) ≡ true → EachNeeds (l ∷ levels) → query_read (printed_query (l ∷ levels)) ≡ Ok (l ∷ levels)
query_again l levels e n = query_there (map printed_level (l ∷ levels)) (l ∷ levels) (λ nil. absurd cc) (levels_lack (l ∷ levels) e) (levels_again (l ∷ levels) e n)
