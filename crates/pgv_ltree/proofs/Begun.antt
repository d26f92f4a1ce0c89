-- What is seen of levels and variants before memory is asked for.
use Rattle.std.proofs.Common.{◌≡◌, ◌⊎◌, inl, inr, ℕ, Bool, true, false, List, [], ◌∷◌, take, drop, Option, Some, None, refl, ap}
use Rattle.std.proofs.lemmas.Bool.{and_parts}
use Rattle.std.specs.List.{list_all, slice_split}
use Rattle.std.specs.Str.Parse.{digits_value}
use Rattle.std.specs.Prelude.{not, ◌==◌, ◌&&◌, ◌||◌, if◌then◌else◌, Result, Ok, Err, is_ok}
use Rattle.pgv_value.specs.declared.tree_error.PgLQueryParseError.{PgLQueryParseError}
use Rattle.pgv_value.specs.declared.tree_error.PgLQueryParseError.TheVariants.{LTreeParrseError, Memory, ParseIntError, UnexpectedCharacter}
use Rattle.pgv_value.specs.declared.tree_error.PgLTreeParseError.TheVariants.{InvalidLtreeLabel}
use Rattle.pgv_value.specs.TreeErrors.{query_refused}
use Rattle.pgv_ltree.specs.TextsInTurn.{and_others, read_each}
use Rattle.pgv_ltree.specs.Labels.{is_label}
use Rattle.pgv_ltree.proofs.EachRead.{first_passes}
use Rattle.pgv_ltree.specs.Queries.{Variant, Level, one_of, none_of, star}
use Rattle.pgv_value.specs.Outcome.{Fails, stated}
use Rattle.pgv_ltree.specs.QueryCodec.{query_in_text, query_parsed}
use Rattle.pgv_ltree.specs.QueryText.{begins_with_star, has_mark, is_mark}
use Rattle.pgv_ltree.specs.QueryRead.{begins_level, begins_with_level, begins_with_variant, bound_read, braced, count_read, counts_read, cut, inner_read, is_count_text, level_allocates, is_nil, is_variant_text, label_length, level_read, marked, query_read, read_as, star_of, star_read, variant_read, variants_read}

was_ok : {A E : Type 0} (r : Result A E) (a : A) → r ≡ Ok a → is_ok r ≡ true
was_ok r a e = rw e refl

-- a variant that is read
pub variant_passes : (text : List ℕ) (v : Variant) → variant_read text ≡ Ok v → is_variant_text text ≡ true
variant_passes text v e = was_ok (variant_read text) v e

-- variants that are read begin with one
variants_pass : (text : List ℕ) (vs : List Variant) → variants_read text ≡ Ok vs → begins_with_variant text ≡ true
variants_pass text vs e = first_passes variant_read is_variant_text variant_passes (slice_split (λ c. c == 124) text) vs e

made_of : {A B : Type 0} (make : A → B) (r : Result A PgLQueryParseError) (b : B) → read_as make r ≡ Ok b → (a : A) × (r ≡ Ok a)
made_of make (Ok a) b e = (a, refl)
made_of make (Err f) b e = absurd (cc)

-- a level that is read begins as one
pub level_passes : (text : List ℕ) (l : Level) → level_read text ≡ Ok l → begins_level text ≡ true
level_passes [] l e = absurd (cc)
level_passes (c ∷ text) l e = by (c == 42) (c == 33) e
  where
    by : (star not : Bool) → (if star then star_read text else if not then read_as (λ vs. none_of vs) (variants_read text) else read_as (λ vs. one_of vs) (variants_read (c ∷ text))) ≡ Ok l →
        (if star then is_ok (star_read text) else if not then begins_with_variant text else begins_with_variant (c ∷ text)) ≡ true
    by true not e = was_ok (star_read text) l e
    by false true e = let m = made_of (λ vs. none_of vs) (variants_read text) l e in variants_pass text m.0 m.1
    by false false e = let m = made_of (λ vs. one_of vs) (variants_read (c ∷ text)) l e in variants_pass (c ∷ text) m.0 m.1

-- what asks for memory begins as a level
pub begins_first : (text : List ℕ) → level_allocates text ≡ true → begins_level text ≡ true
begins_first text e = (and_parts (not (begins_with_star text)) (begins_level text) e).1

-- a text that is refused is no level, or there was no memory for one that begins as one
pub begun_or_refused : (text : List ℕ) (e : PgLQueryParseError) → (level_read text ≡ Err e) ⊎ ((e ≡ Memory) × (level_allocates text ≡ true)) → (level_read text ≡ Err e) ⊎ ((e ≡ Memory) × (begins_level text ≡ true))
begun_or_refused text e (inl r) = inl r
begun_or_refused text e (inr m) = inr (m.0, begins_first text m.1)

-- ---- out of memory is nothing that a text is refused with

by_test : {A : Type 0} (b : Bool) (r s : Result A PgLQueryParseError) → (r ≡ Err Memory → ⊥) → (s ≡ Err Memory → ⊥) → (if b then r else s) ≡ Err Memory → ⊥
by_test true r s f g = f
by_test false r s f g = g

of_made : {A B : Type 0} (make : A → B) (r : Result A PgLQueryParseError) → (r ≡ Err Memory → ⊥) → read_as make r ≡ Err Memory → ⊥
of_made make (Ok a) f h = absurd (cc)
of_made make (Err e) f h = let m : e ≡ Memory = cc in f (rw m refl)

of_both : {M : Type 0} (r : Result M PgLQueryParseError) (rs : Result (List M) PgLQueryParseError) → (r ≡ Err Memory → ⊥) → (rs ≡ Err Memory → ⊥) → and_others r rs ≡ Err Memory → ⊥
of_both (Err e) rs f g h = let m : e ≡ Memory = cc in f (rw m refl)
of_both (Ok m) (Err e) f g h = let m : e ≡ Memory = cc in g (rw m refl)
of_both (Ok m) (Ok ms) f g h = absurd (cc)

of_each : {X M : Type 0} (read : X → Result M PgLQueryParseError) → ((x : X) → read x ≡ Err Memory → ⊥) → (xs : List X) → read_each read xs ≡ Err Memory → ⊥
of_each read f [] h = absurd (cc)
of_each read f (x ∷ xs) h = of_both (read x) (read_each read xs) (f x) (of_each read f xs) h

of_variants : (text : List ℕ) → variants_read text ≡ Err Memory → ⊥
of_variants text =
    of_each variant_read
    (λ part. let label = take (label_length part) part in let marks = drop (label_length part) part in
    by_test (list_all is_mark marks && is_label label) (Ok (marked label marks)) (Err (LTreeParrseError InvalidLtreeLabel)) (λ h. absurd (cc)) (λ h. absurd (cc)))
    (slice_split (λ c. c == 124) text)

of_count : (text : List ℕ) → count_read text ≡ Err Memory → ⊥
of_count text = by_test (is_count_text text) (Ok (digits_value 10 text)) (Err ParseIntError) (λ h. absurd (cc)) (λ h. absurd (cc))

of_bound : (text : List ℕ) → bound_read text ≡ Err Memory → ⊥
of_bound [] h = absurd (cc)
of_bound (c ∷ text) h = of_made (λ n. Some n) (count_read (c ∷ text)) (of_count (c ∷ text)) h

of_bounds : (least most : Result (Option ℕ) PgLQueryParseError) → (least ≡ Err Memory → ⊥) → (most ≡ Err Memory → ⊥) → star_of least most ≡ Err Memory → ⊥
of_bounds (Err e) most f g h = let m : e ≡ Memory = cc in f (rw m refl)
of_bounds (Ok low) (Err e) f g h = let m : e ≡ Memory = cc in g (rw m refl)
of_bounds (Ok low) (Ok high) f g h = absurd (cc)

of_counts : (inner : List ℕ) (parts : Option (List ℕ × List ℕ)) → counts_read inner parts ≡ Err Memory → ⊥
of_counts inner None = of_made (λ n. star (Some n) (Some n)) (count_read inner) (of_count inner)
of_counts inner (Some p) =
    by_test (has_mark 44 p.1 || (is_nil p.0 && is_nil p.1)) (Err UnexpectedCharacter) (star_of (bound_read p.0) (bound_read p.1)) (λ h. absurd (cc)) (of_bounds (bound_read p.0) (bound_read p.1) (of_bound p.0) (of_bound p.1))

of_inner : (inner : Option (List ℕ)) → inner_read inner ≡ Err Memory → ⊥
of_inner None h = absurd (cc)
of_inner (Some inner) h = of_counts inner (cut 44 inner) h

of_star : (text : List ℕ) → star_read text ≡ Err Memory → ⊥
of_star [] h = absurd (cc)
of_star (c ∷ text) h = of_inner (braced (c ∷ text)) h

of_level : (text : List ℕ) → level_read text ≡ Err Memory → ⊥
of_level [] h = absurd (cc)
of_level (c ∷ text) h =
    by_test (c == 42) (star_read text) (if c == 33 then read_as (λ vs. none_of vs) (variants_read text) else read_as (λ vs. one_of vs) (variants_read (c ∷ text))) (of_star text)
    (by_test (c == 33) (read_as (λ vs. none_of vs) (variants_read text)) (read_as (λ vs. one_of vs) (variants_read (c ∷ text)))
    (of_made (λ vs. none_of vs) (variants_read text) (of_variants text)) (of_made (λ vs. one_of vs) (variants_read (c ∷ text)) (of_variants (c ∷ text)))) h

-- what a decoder answers where a text is refused
refused_query : (text : List ℕ) (e : PgLQueryParseError) → query_read text ≡ Err e → query_parsed (query_read text) ≡ Err (query_refused e)
refused_query text Memory h = absurd (of_each level_read of_level (slice_split (λ c. c == 46) text) h)
refused_query text _ h = rw h refl

pub query_fails : (text : List ℕ) (e : PgLQueryParseError) → (query_read text ≡ Err e) ⊎ ((e ≡ Memory) × (begins_with_level text ≡ true)) → Fails (query_refused e) (query_in_text text)
query_fails text e (inl r) = inl (ap stated (refused_query text e r))
query_fails text e (inr m) = inr (inr (ap query_refused m.0, rw m.1 refl))
