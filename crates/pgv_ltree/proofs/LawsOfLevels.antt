-- The laws of levels.
use Rattle.std.proofs.Common.{◌≡◌, ◌≢◌, inl, inr, ◌∙◌, ap, sym, subst, refl, ℕ, ◌+◌, Bool, true, false, cond, List, [], ◌∷◌, ◌++◌, length, Some, None, append_assoc, arith}
use Rattle.std.specs.Prelude.{Option, option_map, ◌==◌, ◌&&◌, ◌||◌, nat_lt, Result, Ok, Err}
use Rattle.std.specs.Str.{all_ascii_digits}
use Rattle.std.specs.Str.Parse.{digits_value}
use Rattle.std.proofs.lemmas.Bool.{eqb-true, false≢true, ltb-true, and_parts}
use Rattle.std.proofs.lemmas.Option.{same_Some}
use Rattle.pgv_value.specs.declared.tree_error.PgLQueryParseError.{PgLQueryParseError}
use Rattle.pgv_value.specs.declared.tree_error.PgLQueryParseError.TheVariants.{ParseIntError, UnexpectedCharacter}
use Rattle.pgv_ltree.specs.JoinLemmas.{lacks}
use Rattle.pgv_ltree.specs.CountLemmas.{bound_there, count_there, digits_lack}
use Rattle.pgv_ltree.specs.Lacking.{before_last_at, lacks-append}
use Rattle.pgv_ltree.specs.QueryLaws.{LevelIsRead, OneLevel}
use Rattle.pgv_ltree.specs.LevelLemmas.{bounds_there, exact_there, one_there}
use Rattle.pgv_ltree.specs.Queries.{Level, star, one_of, none_of}
use Rattle.pgv_ltree.specs.QueryRead.{before_last, bound_read, count_read, counts_read, cut, inner_read, is_count_text, is_nil, level_read, read_as, star_of, star_read, variants_read}
use Rattle.pgv_ltree.specs.QueryText.{IsBoundText, IsCountText, IsLevelText, has_mark}
use Rattle.pgv_ltree.proofs.LawsOfVariants.{are_read, are_text, variants_lack}

-- ---- what a reading was

record As {A B : Type 0} (make : A → B) (r : Result A PgLQueryParseError) (b : B) : Type 0 where
  value : A
  is : r ≡ Ok value
  same : b ≡ make value

as_is : {A B : Type 0} (make : A → B) (r : Result A PgLQueryParseError) (b : B) → read_as make r ≡ Ok b → As make r b
as_is make (Ok a) b e = record { value = a; is = refl; same = cc }
as_is make (Err x) b e = absurd cc

last_case : (b : Bool) (d c : ℕ) (front : List ℕ) → (c == d) ≡ b → cond b (Some []) None ≡ Some front → c ∷ [] ≡ front ++ d ∷ []
last_case true d c front e h = let n : front ≡ [] = cc in rw (n, eqb-true c d e) refl
last_case false d c front e h = absurd cc

more_case : (o : Option (List ℕ)) (d c : ℕ) (text front : List ℕ) → ((rest : List ℕ) → o ≡ Some rest → text ≡ rest ++ d ∷ []) → option_map (λ (rest : List ℕ). c ∷ rest) o ≡ Some front → c ∷ text ≡ front ++ d ∷ []
more_case None d c text front h e = absurd cc
more_case (Some rest) d c text front h e = let n : front ≡ c ∷ rest = sym (same_Some (c ∷ rest) front e) in rw (n, h rest refl) refl

before_last_is : (d : ℕ) (text front : List ℕ) → before_last d text ≡ Some front → text ≡ front ++ d ∷ []
before_last_is d [] front e = absurd cc
before_last_is d (c ∷ []) front e = last_case (c == d) d c front refl e
before_last_is d (c ∷ next ∷ text) front e = more_case (before_last d (next ∷ text)) d c (next ∷ text) front (before_last_is d (next ∷ text)) e

cut_case : (x : Bool) (o : Option (List ℕ × List ℕ)) (d c : ℕ) (text a b : List ℕ) → (c == d) ≡ x → ((front after : List ℕ) → o ≡ Some (front, after) → text ≡ front ++ d ∷ after) → cond {A = Option (List ℕ × List ℕ)} x (Some ([], text)) (option_map (λ (p : List ℕ × List ℕ). (c ∷ p.0, p.1)) o) ≡ Some (a, b) → c ∷ text ≡ a ++ d ∷ b
cut_case true o d c text a b e h r =
    let q : (let pair : List ℕ × List ℕ = (a, b) in pair) ≡ ([], text) = sym (same_Some (let pair : List ℕ × List ℕ = ([], text) in pair) (a, b) r) in
    let n : a ≡ [] = ap (λ (pair : List ℕ × List ℕ). pair.0) q in
    let m : b ≡ text = ap (λ (pair : List ℕ × List ℕ). pair.1) q in
    rw (n, m, eqb-true c d e) refl
cut_case false None d c text a b e h r = absurd cc
cut_case false (Some p) d c text a b e h r =
    let q : (let pair : List ℕ × List ℕ = (a, b) in pair) ≡ (c ∷ p.0, p.1) = sym (same_Some (let pair : List ℕ × List ℕ = (c ∷ p.0, p.1) in pair) (a, b) r) in
    let n : a ≡ c ∷ p.0 = ap (λ (pair : List ℕ × List ℕ). pair.0) q in
    let m : b ≡ p.1 = ap (λ (pair : List ℕ × List ℕ). pair.1) q in
    rw (n, m, h p.0 p.1 refl) refl

cut_is : (d : ℕ) (text a b : List ℕ) → cut d text ≡ Some (a, b) → text ≡ a ++ d ∷ b
cut_is d [] a b e = absurd cc
cut_is d (c ∷ text) a b e = cut_case (c == d) (cut d text) d c text a b refl (cut_is d text) e

-- ---- numbers

counted : (b : Bool) (text : List ℕ) (n : ℕ) → cond b (Ok (digits_value 10 text)) (Err ParseIntError) ≡ Ok n → (b ≡ true) × (n ≡ digits_value 10 text)
counted true text n e = (refl, cc)
counted false text n e = absurd cc

count_text : (text : List ℕ) (n : ℕ) → count_read text ≡ Ok n → IsCountText text n
count_text text n e =
    let c = counted (is_count_text text) text n e in
    let a = and_parts (all_ascii_digits text && nat_lt 0 (length text)) (nat_lt (digits_value 10 text) 65536) c.0 in
    let b = and_parts (all_ascii_digits text) (nat_lt 0 (length text)) a.0 in
    let low = ltb-true (digits_value 10 text) 65536 a.1 in
    record { some = ltb-true 0 (length text) b.1; digits = b.0; value = c.1; small = omega (arith, low, c.1) }

count_reads : (text : List ℕ) (n : ℕ) → IsCountText text n → count_read text ≡ Ok n
count_reads text n t = count_there text n t.digits t.some t.value t.small

bound_text : (text : List ℕ) (o : Option ℕ) → bound_read text ≡ Ok o → IsBoundText text o
bound_text [] None e = refl
bound_text [] (Some n) e = absurd cc
bound_text (c ∷ text) None e = let a = as_is (λ n. Some n) (count_read (c ∷ text)) None e in let s = a.same in absurd cc
bound_text (c ∷ text) (Some n) e =
    let a = as_is (λ n. Some n) (count_read (c ∷ text)) (Some n) e in
    let s : n ≡ a.value = same_Some n a.value a.same in
    count_text (c ∷ text) n (a.is ∙ ap (λ m. let r : Result ℕ PgLQueryParseError = Ok m in r) (sym s))

record Bound (text : List ℕ) (o : Option ℕ) : Type 0 where
  reads : bound_read text ≡ Ok o
  lacks_comma : lacks 44 text ≡ true
  lacks_dot : lacks 46 text ≡ true

bound_of : (text : List ℕ) (o : Option ℕ) → IsBoundText text o → Bound text o
bound_of text None e = rw e (record { reads = refl; lacks_comma = refl; lacks_dot = refl })
bound_of text (Some n) t = record { reads = bound_there text n t.some (count_reads text n t); lacks_comma = digits_lack 44 refl text t.digits; lacks_dot = digits_lack 46 refl text t.digits }

-- ---- stars that were read

record Between (least most : List ℕ) (l : Level) : Type 0 where
  low : Option ℕ
  high : Option ℕ
  first : bound_read least ≡ Ok low
  second : bound_read most ≡ Ok high
  same : l ≡ star low high
  some : (is_nil least && is_nil most) ≡ false

star_parts : (r q : Result (Option ℕ) PgLQueryParseError) (l : Level) → star_of r q ≡ Ok l → (low : Option ℕ) × (high : Option ℕ) × (r ≡ Ok low) × (q ≡ Ok high) × (l ≡ star low high)
star_parts (Err e) q l h = absurd cc
star_parts (Ok low) (Err e) l h = absurd cc
star_parts (Ok low) (Ok high) l h = (low, high, refl, refl, cc)

between_case : (b c : Bool) (least most : List ℕ) (l : Level) → (is_nil least && is_nil most) ≡ c → cond (b || c) (Err UnexpectedCharacter) (star_of (bound_read least) (bound_read most)) ≡ Ok l → Between least most l
between_case true c least most l n h = absurd cc
between_case false true least most l n h = absurd cc
between_case false false least most l n h =
    let p = star_parts (bound_read least) (bound_read most) l h in
    record { low = p.0; high = p.1; first = p.2; second = p.3; same = p.4; some = n }

both_nil : (least most : List ℕ) → (is_nil least && is_nil most) ≡ false → (least ≡ []) × (most ≡ []) → ⊥
both_nil least most e n =
    let t : (is_nil least && is_nil most) ≡ true = rw (n.0, n.1) refl in
    false≢true (sym e ∙ t)

counts_text : (inner : List ℕ) (p : Option (List ℕ × List ℕ)) (l : Level) → cut 44 inner ≡ p → counts_read inner p ≡ Ok l → IsLevelText (42 ∷ 123 ∷ (inner ++ 125 ∷ [])) l
counts_text inner None l e h =
    let a = as_is (λ n. star (Some n) (Some n)) (count_read inner) l h in
    subst (λ m. IsLevelText (42 ∷ 123 ∷ (inner ++ 125 ∷ [])) m) (sym a.same) (inr (inl (a.value, inner, count_text inner a.value a.is, refl, refl, refl)))
counts_text inner (Some p) l e h =
    let b = between_case (has_mark 44 p.1) (is_nil p.0 && is_nil p.1) p.0 p.1 l refl h in
    let whole : inner ≡ p.0 ++ 44 ∷ p.1 = cut_is 44 inner p.0 p.1 e in
    let text : 42 ∷ 123 ∷ (inner ++ 125 ∷ []) ≡ 42 ∷ 123 ∷ (((p.0 ++ 44 ∷ []) ++ p.1) ++ 125 ∷ []) = ap (λ xs. 42 ∷ 123 ∷ (xs ++ 125 ∷ [])) (whole ∙ sym (append_assoc p.0 (44 ∷ []) p.1)) in
    subst (λ m. IsLevelText (42 ∷ 123 ∷ (inner ++ 125 ∷ [])) m) (sym b.same) (inr (inr (p.0, p.1, bound_text p.0 b.low b.first, bound_text p.1 b.high b.second, both_nil p.0 p.1 b.some, text)))

brace_case : (b : Bool) (o : Option (List ℕ)) (c : ℕ) (text : List ℕ) (l : Level) → (c == 123) ≡ b → before_last 125 text ≡ o → inner_read (cond b o None) ≡ Ok l → IsLevelText (42 ∷ c ∷ text) l
brace_case false o c text l e f h = absurd cc
brace_case true None c text l e f h = absurd cc
brace_case true (Some inner) c text l e f h =
    let whole : 42 ∷ 123 ∷ (inner ++ 125 ∷ []) ≡ 42 ∷ c ∷ text = rw (eqb-true c 123 e, before_last_is 125 text inner f) refl in
    subst (λ xs. IsLevelText xs l) whole (counts_text inner (cut 44 inner) l refl h)

star_text : (text : List ℕ) (l : Level) → star_read text ≡ Ok l → IsLevelText (42 ∷ text) l
star_text [] l h =
    let s : star None None ≡ l = cc in
    subst (λ m. IsLevelText (42 ∷ []) m) s (inl (refl, refl, refl))
star_text (c ∷ text) l h = brace_case (c == 123) (before_last 125 text) c text l refl refl h

level_case : (a b : Bool) (c : ℕ) (text : List ℕ) (l : Level) → (c == 42) ≡ a → (c == 33) ≡ b →
    cond a (star_read text) (cond b (read_as (λ vs. none_of vs) (variants_read text)) (read_as (λ vs. one_of vs) (variants_read (c ∷ text)))) ≡ Ok l → IsLevelText (c ∷ text) l
level_case true b c text l e f h = subst (λ d. IsLevelText (d ∷ text) l) (sym (eqb-true c 42 e)) (star_text text l h)
level_case false true c text l e f h =
    let a = as_is (λ vs. none_of vs) (variants_read text) l h in
    subst (λ m. IsLevelText (c ∷ text) m) (sym a.same) (text, ap (λ d. d ∷ text) (eqb-true c 33 f), are_text text a.value a.is)
level_case false false c text l e f h =
    let a = as_is (λ vs. one_of vs) (variants_read (c ∷ text)) l h in
    subst (λ m. IsLevelText (c ∷ text) m) (sym a.same) (λ n. absurd cc, e, are_text (c ∷ text) a.value a.is)

pub level_text : (text : List ℕ) (l : Level) → level_read text ≡ Ok l → IsLevelText text l
level_text [] l h = absurd cc
level_text (c ∷ text) l h = level_case (c == 42) (c == 33) c text l refl refl h

-- ---- levels are read from their texts

length_some : (least most : List ℕ) → ((least ≡ []) × (most ≡ []) → ⊥) → length least + length most ≢ 0
length_some [] [] n e = n (refl, refl)
length_some [] (c ∷ most) n e = omega arith
length_some (c ∷ least) most n e = omega arith

star_reads : (text : List ℕ) (low high : Option ℕ) → IsLevelText text (star low high) → level_read text ≡ Ok (star low high)
star_reads text low high (inl (t, lo, hi)) = rw (t, lo, hi) refl
star_reads text low high (inr (inl (n, count, is, t, lo, hi))) =
    rw (t, lo, hi, before_last_at 125 count) (exact_there count n is.digits (count_reads count n is))
star_reads text low high (inr (inr (least, most, p, q, some, t))) =
    let a = bound_of least low p in
    let b = bound_of most high q in
    rw (t, append_assoc least (44 ∷ []) most, before_last_at 125 (least ++ 44 ∷ most)) (bounds_there least most low high a.lacks_comma b.lacks_comma a.reads b.reads (length_some least most some))

pub level_reads : (text : List ℕ) (l : Level) → IsLevelText text l → level_read text ≡ Ok l
level_reads text (star low high) t = star_reads text low high t
level_reads text (one_of vs) (n, plain, t) = one_there text vs n plain (variants_lack 33 refl refl refl text vs t) (are_read text vs t)
level_reads text (none_of vs) (rest, e, t) = rw (e, are_read rest vs t) refl

pub level_is_read : LevelIsRead
unfolding LevelIsRead
level_is_read text l = (level_text text l, level_reads text l)

pub one_level : OneLevel
unfolding OneLevel
one_level text l m a b =
    let e : (let r : Result Level PgLQueryParseError = Ok l in r) ≡ Ok m = sym (level_reads text l a) ∙ level_reads text m b in
    cc

-- ---- dots

star_lacks : (text : List ℕ) (low high : Option ℕ) → IsLevelText text (star low high) → lacks 46 text ≡ true
star_lacks text low high (inl (t, lo, hi)) = rw t refl
star_lacks text low high (inr (inl (n, count, is, t, lo, hi))) = rw t (lacks-append 46 count (125 ∷ []) (digits_lack 46 refl count is.digits) refl)
star_lacks text low high (inr (inr (least, most, p, q, some, t))) =
    let a = bound_of least low p in
    let b = bound_of most high q in
    rw t (lacks-append 46 ((least ++ 44 ∷ []) ++ most) (125 ∷ []) (lacks-append 46 (least ++ 44 ∷ []) most (lacks-append 46 least (44 ∷ []) a.lacks_dot refl) b.lacks_dot) refl)

pub level_lacks : (text : List ℕ) (l : Level) → IsLevelText text l → lacks 46 text ≡ true
level_lacks text (star low high) t = star_lacks text low high t
level_lacks text (one_of vs) (n, plain, t) = variants_lack 46 refl refl refl text vs t
level_lacks text (none_of vs) (rest, e, t) = rw e (variants_lack 46 refl refl refl rest vs t)
