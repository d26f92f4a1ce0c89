-- Levels and queries that are seen as the same, and that are equal.
use Rattle.std.proofs.Common.{◌≡◌, ◌∙◌, ap, List, [], ◌∷◌, map, refl, ℕ, Bool, true, false, Option, Some, None, length, subst, arith}
use Rattle.std.specs.Prelude.{Option, ◌&&◌, nat_eq}
use Rattle.std.specs.Iterator.{AlwaysYields}
use Rattle.std.specs.List.{AllZip}
use Rattle.std.proofs.lemmas.Option.{same_Some}
use Rattle.std.specs.Bool.{beq}
use Rattle.std.specs.Cmp.Lexicographic.{bytes_decides, pointwise, pointwise_decides}
use Rattle.std.specs.Option.{option_eq}
use Rattle.std.proofs.lemmas.Bool.{eqb-true, eq-eqb, and_parts}
use Rattle.pgv_ltree.specs.SameLabels.{same_label}
use Rattle.pgv_ltree.specs.Queries.{Variant, Level, star, one_of, none_of}
use Rattle.pgv_ltree.specs.SameQueries.{same_variant, same_level, least, most, variants}
use Rattle.std.specs.Vec.Iter.{into_iter_items, into_iter_len, into_iter_steps}
use Rattle.std.proofs.lemmas.Iterator.Adapters.{YieldsList-from_vec}
use Rattle.std.proofs.lemmas.List.{length-map}
use Rattle.pgv_ltree.specs.LevelView.{level_of}
use Rattle.pgv_ltree.specs.declared.level.PgLQueryLevel.{PgLQueryLevel}
use Rattle.std.specs.Cmp.Derive.Mapped.{pointwise-map}

-- ---- clones of levels, and levels that an iterator gives, are seen as what they mean

pub same_each : {A B : Type 0} (f : A → B) (xs ys : List A) → AllZip (λ x y. f y ≡ f x) xs ys → map f ys ≡ map f xs
same_each f [] [] e = refl
same_each f [] (y ∷ ys) e = absurd e
same_each f (x ∷ xs) [] e = absurd e
same_each f (x ∷ xs) (y ∷ ys) e = ap (λ z. z ∷ map f ys) e.0 ∙ ap (λ zs. f x ∷ zs) (same_each f xs ys e.1)

-- what an iterator gives, seen as something else
pub yields_seen : {S A B : Type 0} (steps : S → Option A → S → Type 0) (see : A → B) (s : S) (xs : List A) → AlwaysYields steps (λ x. x) s xs → AlwaysYields steps see s (map see xs)
yields_seen steps see s [] h = h
yields_seen steps see s (x ∷ xs) h = (h.0, λ y j step. let n = h.1 y j step in (ap see n.0, yields_seen steps see j xs n.1))

-- ---- queries are equal where their levels are

same_bool : (a b : Bool) → beq a b ≡ true → a ≡ b
same_bool true true e = refl
same_bool true false e = absurd (cc)
same_bool false true e = absurd (cc)
same_bool false false e = refl

own_bool : (a : Bool) → beq a a ≡ true
own_bool true = refl
own_bool false = refl

abbrev variant_by : List ℕ → Bool → Bool → Bool → Variant
variant_by label any_end in_case sublexeme = record { label = label; any_end = any_end; in_case = in_case; sublexeme = sublexeme }

same_parts : (l m : List ℕ) (a b c d e f : Bool) → l ≡ m → a ≡ b → c ≡ d → e ≡ f → variant_by l a c e ≡ variant_by m b d f
same_parts l m a b c d e f p q r s = rw (p, q, r, s) refl

variant_decides : (v w : Variant) → (same_variant v w ≡ true → v ≡ w) × (v ≡ w → same_variant v w ≡ true)
variant_decides v w = (
  λ e.
      let l = and_parts (same_label v.label w.label) (beq v.any_end w.any_end && (beq v.in_case w.in_case && beq v.sublexeme w.sublexeme)) e in
      let a = and_parts (beq v.any_end w.any_end) (beq v.in_case w.in_case && beq v.sublexeme w.sublexeme) l.1 in
      let i = and_parts (beq v.in_case w.in_case) (beq v.sublexeme w.sublexeme) a.1 in
      same_parts v.label w.label v.any_end w.any_end v.in_case w.in_case v.sublexeme w.sublexeme ((bytes_decides v.label w.label).0 l.0) (same_bool v.any_end w.any_end a.0) (same_bool v.in_case w.in_case i.0)
      (same_bool v.sublexeme w.sublexeme i.1),
  λ e. rw (← e, (bytes_decides v.label v.label).1 refl, own_bool v.any_end, own_bool v.in_case, own_bool v.sublexeme) refl,
)

count_decides : (m n : Option ℕ) → (option_eq nat_eq m n ≡ true → m ≡ n) × (m ≡ n → option_eq nat_eq m n ≡ true)
count_decides None None = (λ e. refl, λ e. refl)
count_decides None (Some n) = (λ e. absurd (cc), λ e. absurd (cc))
count_decides (Some m) None = (λ e. absurd (cc), λ e. absurd (cc))
count_decides (Some m) (Some n) = (λ e. ap (λ (k : ℕ). let o : Option ℕ = Some k in o) (eqb-true m n e), λ e. eq-eqb m n (same_Some m n e))

level_decides : (l m : Level) → (same_level l m ≡ true → l ≡ m) × (l ≡ m → same_level l m ≡ true)
level_decides (star a b) (star c d) = (
  λ e.
      let p = and_parts (option_eq nat_eq a c) (option_eq nat_eq b d && true) e in
      let q = and_parts (option_eq nat_eq b d) true p.1 in
      rw ((count_decides a c).0 p.0, (count_decides b d).0 q.0) refl,
  λ e. rw ((count_decides a c).1 (ap least e), (count_decides b d).1 (ap most e)) refl,
)
level_decides (star a b) (one_of vs) = (λ e. absurd (cc), λ e. absurd (cc))
level_decides (star a b) (none_of vs) = (λ e. absurd (cc), λ e. absurd (cc))
level_decides (one_of vs) (star c d) = (λ e. absurd (cc), λ e. absurd (cc))
level_decides (one_of vs) (one_of ws) = (λ e. ap one_of ((pointwise_decides variant_decides vs ws).0 e), λ e. (pointwise_decides variant_decides vs ws).1 (ap variants e))
level_decides (one_of vs) (none_of ws) = (λ e. absurd (cc), λ e. absurd (cc))
level_decides (none_of vs) (star c d) = (λ e. absurd (cc), λ e. absurd (cc))
level_decides (none_of vs) (one_of ws) = (λ e. absurd (cc), λ e. absurd (cc))
level_decides (none_of vs) (none_of ws) = (λ e. ap none_of ((pointwise_decides variant_decides vs ws).0 e), λ e. (pointwise_decides variant_decides vs ws).1 (ap variants e))

pub queries_decide : (a b : List Level) → (pointwise same_level a b ≡ true → a ≡ b) × (a ≡ b → pointwise same_level a b ≡ true)
queries_decide = pointwise_decides level_decides

-- the levels that the iterator of a query gives
pub levels_given : {Z : Type 0} (query : List Level) (levels : _) → (map level_of (into_iter_items levels) ≡ query) × (into_iter_len levels ≡ length query) → AlwaysYields (into_iter_steps {X = PgLQueryLevel} {Z = Z}) level_of levels query
levels_given query levels gives =
    let items = into_iter_items levels in
    let count : into_iter_len levels ≡ length items = omega (arith, gives.1, ap length gives.0, length-map items level_of) in
    subst (λ q. AlwaysYields into_iter_steps level_of levels q) gives.0 (yields_seen into_iter_steps level_of levels items (YieldsList-from_vec items refl count).runs)

-- levels are the same where what they mean is
pub same_levels : (xs ys : List PgLQueryLevel) → pointwise same_level (map level_of xs) (map level_of ys) ≡ pointwise (λ x y. same_level (level_of x) (level_of y)) xs ys
same_levels xs ys = pointwise-map level_of same_level xs ys
