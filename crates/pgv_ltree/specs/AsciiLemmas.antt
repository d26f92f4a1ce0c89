-- What queries print is ASCII.
use Rattle.std.specs.Prelude.{◌≡◌, ℕ, ◌==◌, nat_lt, Bool, true, false, if◌then◌else◌, List, [], ◌∷◌, ◌++◌, map, Option, Some, None, refl}
use Rattle.std.specs.Char.{is_ascii_digit}
use Rattle.std.specs.Fmt.{decimal}
use Rattle.std.specs.List.{list_all}
use Rattle.std.proofs.Common.{arith}
use Rattle.std.proofs.lemmas.Bool.{ltb-true, and_from, and_parts}
use Rattle.std.proofs.lemmas.Bool.Decides.{nat_tests}
use Rattle.pgv_characters.specs.Characters.{comma, dot, vertical_bar, right_brace}
use Rattle.pgv_ltree.specs.Ascii.{are_ascii, ascii_append, ascii_joined, is_ascii}
use Rattle.pgv_ltree.specs.JoinLemmas.{wider}
use Rattle.pgv_ltree.specs.TreeBackLemmas.{label_is_ascii}
use Rattle.pgv_ltree.specs.CountLemmas.{decimal_digits, each_digit}
use Rattle.pgv_ltree.specs.LevelLemmas.{marks_are}
use Rattle.pgv_ltree.specs.QueryText.{is_mark}
use Rattle.pgv_ltree.specs.Queries.{Variant, Level, star, one_of, none_of, is_level, is_query, is_variant}
use Rattle.pgv_ltree.specs.QueryPrinted.{printed_level, printed_marks, printed_query, printed_star, printed_variant}

digit_is_ascii : (c : ℕ) → is_ascii_digit c ≡ true → is_ascii c ≡ true
digit_is_ascii c e = grind (arith, nat_tests, e)

decimal_ascii : (n : ℕ) → nat_lt n 65536 ≡ true → are_ascii (decimal n) ≡ true
decimal_ascii n e = wider is_ascii_digit is_ascii digit_is_ascii (decimal n) (each_digit (decimal n) (decimal_digits n (ltb-true n 65536 e)))

mark_is_ascii : (c : ℕ) → is_mark c ≡ true → is_ascii c ≡ true
mark_is_ascii c e = grind (arith, nat_tests, e)

marks_ascii : (a b c : Bool) → are_ascii (printed_marks a b c) ≡ true
marks_ascii a b c = wider is_mark is_ascii mark_is_ascii (printed_marks a b c) (marks_are a b c)

variants_ascii : (vs : List Variant) → list_all is_variant vs ≡ true → list_all are_ascii (map printed_variant vs) ≡ true
variants_ascii [] e = refl
variants_ascii (v ∷ vs) e =
    let b = and_parts (is_variant v) (list_all is_variant vs) e in
    and_from (are_ascii (printed_variant v)) (list_all are_ascii (map printed_variant vs))
    (ascii_append v.label (printed_marks v.any_end v.in_case v.sublexeme) (label_is_ascii v.label b.0) (marks_ascii v.any_end v.in_case v.sublexeme)) (variants_ascii vs b.1)

ascii_by_case : (b : Bool) (x y : List ℕ) → are_ascii x ≡ true → are_ascii y ≡ true → are_ascii (if b then x else y) ≡ true
ascii_by_case true x y e f = e
ascii_by_case false x y e f = f

star_ascii : (low high : Option ℕ) → is_level (star low high) ≡ true → are_ascii (printed_star low high) ≡ true
star_ascii None None e = refl
star_ascii (Some low) None e = ascii_append (decimal low) (comma ∷ right_brace ∷ []) (decimal_ascii low (and_parts (nat_lt low 65536) true e).0) refl
star_ascii None (Some high) e = ascii_append (decimal high) (right_brace ∷ []) (decimal_ascii high e) refl
star_ascii (Some low) (Some high) e =
    let b = and_parts (nat_lt low 65536) (nat_lt high 65536) e in
    let l = decimal_ascii low b.0 in
    let h = decimal_ascii high b.1 in
    ascii_by_case (low == high) _ _ (ascii_append (decimal low) (right_brace ∷ []) l refl) (ascii_append (decimal low ++ comma ∷ [] ++ decimal high) (right_brace ∷ []) (ascii_append (decimal low ++ comma ∷ []) (decimal high) (ascii_append (decimal low) (comma ∷ []) l refl) h) refl)

level_ascii : (l : Level) → is_level l ≡ true → are_ascii (printed_level l) ≡ true
level_ascii (star low high) e = star_ascii low high e
level_ascii (one_of vs) e = ascii_joined vertical_bar refl (map printed_variant vs) (variants_ascii vs e)
level_ascii (none_of []) e = refl
level_ascii (none_of (v ∷ vs)) e = ascii_joined vertical_bar refl (map printed_variant (v ∷ vs)) (variants_ascii (v ∷ vs) e)

levels_ascii : (levels : List Level) → list_all is_level levels ≡ true → list_all are_ascii (map printed_level levels) ≡ true
levels_ascii [] e = refl
levels_ascii (l ∷ levels) e =
    let b = and_parts (is_level l) (list_all is_level levels) e in
    and_from (are_ascii (printed_level l)) (list_all are_ascii (map printed_level levels)) (level_ascii l b.0) (levels_ascii levels b.1)

pub query_ascii : (levels : List Level) → is_query levels ≡ true → are_ascii (printed_query levels) ≡ true
query_ascii levels e = ascii_joined dot refl (map printed_level levels) (levels_ascii levels e)
