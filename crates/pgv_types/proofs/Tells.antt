-- The tests of names tell what they are meant to.
use Rattle.std.proofs.Common.{◌≡◌, ◌⊎◌, inl, inr, ℕ, ◌==◌, ◌&&◌, ◌||◌, Bool, true, false, not, cond, List, [], ◌∷◌, length, ◌<◌, arith, ap, ◌∙◌, sym, refl}
use Rattle.std.proofs.lemmas.Bool.{false≢true, false_from_ne_true}
use Rattle.std.specs.Prelude.{Decides}
use Rattle.std.specs.Char.{to_ascii_lowercase}
use Rattle.std.specs.Str.{chars, bytes_eq}
use Rattle.std.proofs.lemmas.Slice.Eq.{bytes_eq-Decides}
use Rattle.std.proofs.lemmas.Bool.Decides.{same_from_decides, Decides-at, Decides-like, Decides-and, Decides-or, Decides-eqb}
use Rattle.pgv_types.specs.Names.{Significant, AreAlike, AllAlike, alike, all_alike}
use Rattle.pgv_types.specs.Agree.{Agree, agree, BeginsUnicode, begins_unicode, significant}
use Rattle.pgv_types.proofs.Walks.{walk_gives, only_walk}

insensitive : {P : Type 0} (s t e : Bool) → Decides e P → Decides (not s && not t && e) ((s ≡ false) × (t ≡ false) × P)
insensitive true t e d = (λ q. absurd (false≢true q), λ h. absurd (false≢true (sym h.0)))
insensitive false true e d = (λ q. absurd (false≢true q), λ h. absurd (false≢true (sym h.1)))
insensitive false false e d = (λ q. (refl, refl, d.0 q), λ h. d.1 h.2)

pub alike_tells : (a b : Significant) → Decides (alike a b) (AreAlike a b)
alike_tells a b =
    Decides-or (a.char == b.char) (not a.sensitive && not b.sensitive && (to_ascii_lowercase a.char == to_ascii_lowercase b.char)) (Decides-eqb a.char b.char)
    (insensitive a.sensitive b.sensitive (to_ascii_lowercase a.char == to_ascii_lowercase b.char) (Decides-eqb (to_ascii_lowercase a.char) (to_ascii_lowercase b.char)))

pub all_tells : (xs ys : List Significant) → Decides (all_alike xs ys) (AllAlike xs ys)
all_tells [] [] = (λ q. tt, λ h. refl)
all_tells [] (y ∷ ys) = (λ q. absurd (false≢true q), λ h. absurd h)
all_tells (x ∷ xs) [] = (λ q. absurd (false≢true q), λ h. absurd h)
all_tells (x ∷ xs) (y ∷ ys) = Decides-and (alike x y) (all_alike xs ys) (alike_tells x y) (all_tells xs ys)

-- ---- the texts begin with U&

too_short : (a : List ℕ) → length a < 2 → BeginsUnicode a → ⊥
too_short a n h = let e = ap length h.1 in omega arith

abbrev pub first_of : List ℕ → ℕ
first_of [] = 0
first_of (a ∷ cs) = a

abbrev pub second_of : List ℕ → ℕ
second_of [] = 0
second_of (a ∷ []) = 0
second_of (a ∷ b ∷ cs) = b

begins_tells : (a : List ℕ) → Decides (begins_unicode a) (BeginsUnicode a)
begins_tells [] = (λ q. absurd (false≢true q), λ h. absurd (too_short [] (omega arith) h))
begins_tells (c ∷ []) = (λ q. absurd (false≢true q), λ h. absurd (too_short (c ∷ []) (omega arith) h))
begins_tells (c ∷ d ∷ cs) =
    Decides-like ((c == 85) && (d == 38))
    (λ (h : (c ≡ 85) × (d ≡ 38)). (cs, ap (λ x. x ∷ d ∷ cs) h.0 ∙ ap (λ x. 85 ∷ x ∷ cs) h.1))
    (λ (h : BeginsUnicode (c ∷ d ∷ cs)). (ap first_of h.1, ap second_of h.1))
    (Decides-and (c == 85) (d == 38) (Decides-eqb c 85) (Decides-eqb d 38))

-- ---- whole names

along : (xs ys vs ws : List Significant) → xs ≡ vs → ys ≡ ws → AllAlike xs ys → AllAlike vs ws
along xs ys vs ws e f h = rw (← e, ← f) h

agree_at : (a b : List ℕ) (t : Bool) → Decides t (BeginsUnicode a ⊎ BeginsUnicode b) → Decides (cond t (bytes_eq a b) (all_alike (significant a) (significant b))) (Agree a b)
agree_at a b true d =
    Decides-like (bytes_eq a b) (λ (e : a ≡ b). inl (d.0 refl, e)) (λ (h : Agree a b). elim h [ inl x ↦ x.1 | inr x ↦ absurd (x.0 (d.0 refl)) ]) (bytes_eq-Decides a b)
agree_at a b false d =
    Decides-like (all_alike (significant a) (significant b))
    (λ (h : AllAlike (significant a) (significant b)). inr (λ u. false≢true (d.1 u), (significant a, significant b, walk_gives (chars a), walk_gives (chars b), h)))
    (λ (h : Agree a b). elim h [
      | inl x ↦ absurd (false≢true (d.1 x.0))
      | inr x ↦ let w = x.1 in along w.0 w.1 (significant a) (significant b) (only_walk (chars a) w.0 w.2) (only_walk (chars b) w.1 w.3) w.4
    ])
    (all_tells (significant a) (significant b))

pub agree_tells : (a b : List ℕ) → Decides (agree a b) (Agree a b)
agree_tells a b = agree_at a b (begins_unicode a || begins_unicode b) (Decides-or (begins_unicode a) (begins_unicode b) (begins_tells a) (begins_tells b))

-- ---- reflexive and symmetric

AreAlike-sym : (a b : Significant) → AreAlike a b → AreAlike b a
AreAlike-sym a b (inl e) = inl (sym e)
AreAlike-sym a b (inr h) = inr (h.1, h.0, sym h.2)

AllAlike-sym : (xs ys : List Significant) → AllAlike xs ys → AllAlike ys xs
AllAlike-sym [] [] h = tt
AllAlike-sym [] (y ∷ ys) h = h
AllAlike-sym (x ∷ xs) [] h = h
AllAlike-sym (x ∷ xs) (y ∷ ys) h = (AreAlike-sym x y h.0, AllAlike-sym xs ys h.1)

AllAlike-refl : (xs : List Significant) → AllAlike xs xs
AllAlike-refl [] = tt
AllAlike-refl (x ∷ xs) = (inl refl, AllAlike-refl xs)

swap : {P Q : Type 0} → P ⊎ Q → Q ⊎ P
swap (inl p) = inr p
swap (inr q) = inl q

Agree-sym : (a b : List ℕ) → Agree a b → Agree b a
Agree-sym a b (inl h) = inl (swap h.0, sym h.1)
Agree-sym a b (inr h) = inr (λ u. h.0 (swap u), (h.1.1, h.1.0, h.1.3, h.1.2, AllAlike-sym h.1.0 h.1.1 h.1.4))

pub agree-sym : (a b : List ℕ) → agree a b ≡ agree b a
agree-sym a b = same_from_decides (agree a b) (agree b a) (agree_tells a b) (Decides-like (agree b a) (Agree-sym b a) (Agree-sym a b) (agree_tells b a))

refl_at : (a : List ℕ) (t : Bool) → cond t (bytes_eq a a) (all_alike (significant a) (significant a)) ≡ true
refl_at a true = (bytes_eq-Decides a a).1 refl
refl_at a false = (all_tells (significant a) (significant a)).1 (AllAlike-refl (significant a))

pub agree-refl : (a : List ℕ) → agree a a ≡ true
agree-refl a = refl_at a (begins_unicode a || begins_unicode a)

pub agree_meant : (a b x y : List ℕ) (r : Bool) → x ≡ a → y ≡ b → r ≡ agree x y → Decides r (Agree a b)
agree_meant a b x y r e f g = Decides-at r (agree a b) (g ∙ ap (λ v. agree v y) e ∙ ap (λ v. agree a v) f) (agree_tells a b)

pub agree_same : (a b : List ℕ) → bytes_eq a b ≡ true → agree a b ≡ true
agree_same a b q = ap (λ v. agree a v) (sym ((bytes_eq-Decides a b).0 q)) ∙ agree-refl a

-- ---- where a name begins with U&, and where none does

begins_either : (a b : List ℕ) → Decides (begins_unicode a || begins_unicode b) (BeginsUnicode a ⊎ BeginsUnicode b)
begins_either a b = Decides-or (begins_unicode a) (begins_unicode b) (begins_tells a) (begins_tells b)

pub agree_unicode : (a b : List ℕ) → BeginsUnicode a ⊎ BeginsUnicode b → agree a b ≡ bytes_eq a b
agree_unicode a b u = ap (λ t. cond t (bytes_eq a b) (all_alike (significant a) (significant b))) ((begins_either a b).1 u)

pub agree_plain : (a b : List ℕ) → (BeginsUnicode a → ⊥) → (BeginsUnicode b → ⊥) → agree a b ≡ all_alike (significant a) (significant b)
agree_plain a b not_a not_b =
    let neither : (begins_unicode a || begins_unicode b) ≡ false = false_from_ne_true (begins_unicode a || begins_unicode b) (λ e. elim ((begins_either a b).0 e) [ inl x ↦ not_a x | inr y ↦ not_b y ]) in
    ap (λ t. cond t (bytes_eq a b) (all_alike (significant a) (significant b))) neither
