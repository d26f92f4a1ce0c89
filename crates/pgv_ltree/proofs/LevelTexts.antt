-- Texts of levels: their numbers, and what is cut at a character.
use Rattle.std.proofs.Common.{◌≡◌, ◌≢◌, ℕ, Bool, true, false, List, length, get_or, refl, ap, sym, ◌∙◌, suc, ◌<◌, [], ◌∷◌, ◌++◌, arith, Some, None, Bor, ◌⊎◌, inl, inr}
use Rattle.std.specs.Prelude.{◌&&◌, nat_lt, Result, Ok, Err, MatchOption, Option, option_map, ◌==◌}
use Rattle.std.specs.Str.{all_ascii_digits}
use Rattle.std.specs.Str.Parse.{ParsesUnsigned, digits_value}
use Rattle.std.proofs.lemmas.Bool.{lt-ltb, ltb-true, and_from, and_parts, eq-eqb, ne_eqb}
use Rattle.std.proofs.lemmas.Result.{OkIff-at_ok}
use Rattle.std.proofs.lemmas.Str.Parse.{parse_plain}
use Rattle.pgv_value.specs.declared.tree_error.PgLQueryParseError.TheVariants.{ParseIntError, Memory}
use Rattle.pgv_ltree.specs.CountLemmas.{own}
use Rattle.pgv_ltree.specs.QueryRead.{count_read, is_count_text, before_last, braced, cut, begins_with_variant, level_allocates, level_read, read_as, variants_read}
use Rattle.pgv_ltree.specs.Lacking.{before_last_at}
use Rattle.pgv_value.specs.declared.tree_error.PgLQueryParseError.{PgLQueryParseError}
use Rattle.pgv_ltree.specs.Queries.{Variant, one_of}

-- ---- numbers of levels

pub count_is : {E : Type 0} (text : List ℕ) (n : ℕ) (r : Result ℕ E) → r ≡ Ok n → ParsesUnsigned 16 10 text r → get_or text 0 0 ≢ 43 → Ok n ≡ count_read text
count_is text n r is h plain =
    let p = OkIff-at_ok r _ _ n (parse_plain own 16 text r h plain) is in
    let test : is_count_text text ≡ true =
    and_from (all_ascii_digits text && nat_lt 0 (length text)) (nat_lt (digits_value 10 text) 65536)
    (and_from (all_ascii_digits text) (nat_lt 0 (length text)) p.0.0 (lt-ltb 0 (length text) p.0.1)) (lt-ltb (digits_value 10 text) 65536 p.0.2) in
    rw (test, p.1) refl

untrue : (b : Bool) → (b ≡ true → ⊥) → b ≡ false
untrue true h = absurd (h refl)
untrue false h = refl

pub no_count : {E : Type 0} (text : List ℕ) (e : E) → ParsesUnsigned 16 10 text (Err e) → get_or text 0 0 ≢ 43 → Err ParseIntError ≡ count_read text
no_count text e h plain =
    let p = parse_plain own 16 text (Err e) h plain in
    let test : is_count_text text ≡ false = untrue (is_count_text text) (λ t.
    let a = and_parts (all_ascii_digits text && nat_lt 0 (length text)) (nat_lt (digits_value 10 text) 65536) t in
    let b = and_parts (all_ascii_digits text) (nat_lt 0 (length text)) a.0 in
    p (b.0, ltb-true 0 (length text) b.1, ltb-true (digits_value 10 text) 65536 a.1)) in
    rw test refl

-- ---- texts that are cut at a character

pub cut_none : (d : ℕ) (text : List ℕ) → ((i : ℕ) → i < length text → get_or text i 0 ≢ d) → cut d text ≡ None
cut_none d [] h = refl
cut_none d (c ∷ text) h = rw (ne_eqb c d (h 0 (omega arith)), cut_none d text (λ i l. h (suc i) (omega arith))) refl

pub cut_at : (d : ℕ) (front after : List ℕ) → ((i : ℕ) → i < length front → get_or front i 0 ≢ d) → cut d (front ++ d ∷ after) ≡ Some (front, after)
cut_at d [] after h = rw (eq-eqb d d refl) refl
cut_at d (c ∷ front) after h = rw (ne_eqb c d (h 0 (omega arith)), cut_at d front after (λ i l. h (suc i) (omega arith))) refl

pub before_last_none : (d : ℕ) (text : List ℕ) → ((front : List ℕ) → text ≢ front ++ d ∷ []) → before_last d text ≡ None
before_last_none d [] h = refl
before_last_none d (c ∷ []) h = rw (ne_eqb c d (λ e. h [] (ap (λ x. x ∷ []) e))) refl
before_last_none d (c ∷ next ∷ text) h = ap (option_map (λ (text : List ℕ). c ∷ text)) (before_last_none d (next ∷ text) (λ front e. h (c ∷ front) (ap (λ xs. c ∷ xs) e)))

-- no text begins with a brace
pub not_braced : (text : List ℕ) → ((rest : List ℕ) → text ≢ 123 ∷ rest) → braced text ≡ None
not_braced [] h = refl
not_braced (c ∷ text) h = rw (ne_eqb c 123 (λ e. h text (ap (λ x. x ∷ text) e))) refl

ends_so : (rest : List ℕ) (r : Option (Bor (List ℕ))) → MatchOption r ((front : List ℕ) → rest ≢ front ++ 125 ∷ []) (λ x. rest ≡ x.now ++ 125 ∷ []) → option_map (λ (x : Bor (List ℕ)). x.now) r ≡ before_last 125 rest
ends_so rest None h = sym (before_last_none 125 rest h)
ends_so rest (Some x) h = sym (ap (before_last 125) h ∙ before_last_at 125 x.now)

-- what is between braces
pub inside_braces : (text rest : List ℕ) (r : Option (Bor (List ℕ))) → text ≡ 123 ∷ rest → MatchOption r ((front : List ℕ) → rest ≢ front ++ 125 ∷ []) (λ x. rest ≡ x.now ++ 125 ∷ []) → option_map (λ (x : Bor (List ℕ)). x.now) r ≡ braced text
inside_braces text rest r e h = rw e (ends_so rest r h)

-- ---- levels that are neither stars nor begin with `!`

other_level : (text : List ℕ) (empty : Bool) → empty ≡ (length text == 0) → empty ≡ false → ((rest : List ℕ) → text ≢ 42 ∷ rest) → ((rest : List ℕ) → text ≢ 33 ∷ rest) → level_read text ≡ read_as (λ vs. one_of vs) (variants_read text)
other_level [] empty n f h k = absurd cc
other_level (c ∷ text) empty n f h k = rw (ne_eqb c 42 (λ e. h text (ap (λ x. x ∷ text) e)), ne_eqb c 33 (λ e. k text (ap (λ x. x ∷ text) e))) refl

pub other_found : (text : List ℕ) (empty : Bool) (vs : List Variant) → empty ≡ (length text == 0) → empty ≡ false → ((rest : List ℕ) → text ≢ 42 ∷ rest) → ((rest : List ℕ) → text ≢ 33 ∷ rest) →
    variants_read text ≡ Ok vs → level_read text ≡ Ok (one_of vs)
other_found text empty vs n f h k e = other_level text empty n f h k ∙ rw e refl

-- memory is asked for where its first variant is one
other_allocates : (text : List ℕ) (empty : Bool) → empty ≡ (length text == 0) → empty ≡ false → ((rest : List ℕ) → text ≢ 42 ∷ rest) → ((rest : List ℕ) → text ≢ 33 ∷ rest) →
    level_allocates text ≡ begins_with_variant text
other_allocates [] empty n f h k = absurd cc
other_allocates (c ∷ text) empty n f h k = rw (ne_eqb c 42 (λ e. h text (ap (λ x. x ∷ text) e)), ne_eqb c 33 (λ e. k text (ap (λ x. x ∷ text) e))) refl

pub other_gives : (text : List ℕ) (empty : Bool) (e : PgLQueryParseError) → empty ≡ (length text == 0) → empty ≡ false → ((rest : List ℕ) → text ≢ 42 ∷ rest) → ((rest : List ℕ) → text ≢ 33 ∷ rest) →
    (variants_read text ≡ Err e) ⊎ ((e ≡ Memory) × (begins_with_variant text ≡ true)) → (level_read text ≡ Err e) ⊎ ((e ≡ Memory) × (level_allocates text ≡ true))
other_gives text empty e n f h k (inl r) = inl (other_level text empty n f h k ∙ rw r refl)
other_gives text empty e n f h k (inr m) = inr (m.0, other_allocates text empty n f h k ∙ m.1)
