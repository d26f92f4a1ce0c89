-- Gaps and the places that they lead to.
use Rattle.std.proofs.Common.{◌≡◌, ℕ, ◌+◌, ◌-◌, ◌<◌, ◌≤◌, get_or, suc, zero, List, [], ◌∷◌, ◌++◌, length, take, drop, sum, refl, sym, ◌∙◌, ap, arith}
use Rattle.std.proofs.lemmas.List.Sums.{sum_by-cons}
use Rattle.std.proofs.lemmas.List.{take_rest, take-append-drop, drop-drop, drop_more}
use Rattle.pgv_buf.specs.Layout.{last_from}
use Rattle.pgv_buf.specs.Gaps.{places_after}

pub sum_here : (gs : List ℕ) (i : ℕ) → i < length gs → sum (drop i gs) ≡ get_or gs i 0 + sum (drop (i + 1) gs)
sum_here gs i l = ap sum (drop_more gs i 0 l) ∙ sum_by-cons (λ n. n) (get_or gs i 0) (drop (i + 1) gs)

pub last_after : (q : ℕ) (gs : List ℕ) → last_from q (places_after q gs) ≡ q + sum gs
last_after q [] = omega arith
last_after q (g ∷ gs) = omega (arith, last_after (q + g) gs, sum_by-cons (λ n. n) g gs)

pub after-append : (q : ℕ) (gs hs : List ℕ) → places_after q (gs ++ hs) ≡ places_after q gs ++ places_after (q + sum gs) hs
after-append q [] hs = let e : q ≡ q + sum [] = omega arith in ap (λ n. places_after n hs) e
after-append q (g ∷ gs) hs =
    let e : (q + g) + sum gs ≡ q + sum (g ∷ gs) = omega (arith, sum_by-cons (λ n. n) g gs) in
    ap (λ r. (q + g) ∷ r) (after-append (q + g) gs hs ∙ ap (λ n. places_after (q + g) gs ++ places_after n hs) e)

pub after-take : (q n : ℕ) (gs : List ℕ) → places_after q (take n gs) ≡ take n (places_after q gs)
after-take q zero gs = refl
after-take q (suc n) [] = refl
after-take q (suc n) (g ∷ gs) = ap (λ r. (q + g) ∷ r) (after-take (q + g) n gs)

pub length-after : (q : ℕ) (gs : List ℕ) → length (places_after q gs) ≡ length gs
length-after q [] = refl
length-after q (g ∷ gs) = omega (arith, length-after (q + g) gs)

pub sum-split : (n : ℕ) (gs : List ℕ) → sum (take n gs) + sum (drop n gs) ≡ sum gs
sum-split zero gs = omega arith
sum-split (suc n) [] = omega arith
sum-split (suc n) (g ∷ gs) = omega (arith, sum-split n gs, sum_by-cons (λ n. n) g (take n gs), sum_by-cons (λ n. n) g gs)

-- the next gaps, and then the others
pub after-split :
    (q next n : ℕ) (gs : List ℕ) →
    places_after q (drop next gs) ≡ places_after q (take n (drop next gs)) ++ places_after (q + sum (take n (drop next gs))) (drop (next + n) gs)
after-split q next n gs =
    ap (λ hs. places_after q hs) (sym (take-append-drop n (drop next gs)) ∙ ap (λ hs. take n (drop next gs) ++ hs) (drop-drop n next gs))
    ∙ after-append q (take n (drop next gs)) (drop (next + n) gs)

-- ---- what the calls of places leave

last_from-append : (q : ℕ) (ps : List ℕ) (p : ℕ) → last_from q (ps ++ p ∷ []) ≡ p
last_from-append q [] p = refl
last_from-append q (x ∷ ps) p = last_from-append x ps p

pub pushed :
    (gs gs' : List ℕ) (last place : ℕ) → last ≡ last_from 0 (places_after 0 gs) → last ≤ place → gs' ≡ gs ++ (place - last) ∷ [] →
    places_after 0 gs' ≡ places_after 0 gs ++ place ∷ []
pushed gs gs' last place e h f =
    let k : (0 + sum gs) + (place - last) ≡ place = omega (arith, last_after 0 gs) in
    ap (λ xs. places_after 0 xs) f ∙ (after-append 0 gs ((place - last) ∷ []) ∙ ap (λ n. places_after 0 gs ++ n ∷ []) k)

pub pushed_last :
    (gs gs' : List ℕ) (last place : ℕ) → last ≡ last_from 0 (places_after 0 gs) → last ≤ place → gs' ≡ gs ++ (place - last) ∷ [] →
    place ≡ last_from 0 (places_after 0 gs')
pushed_last gs gs' last place e h f = sym (ap (λ xs. last_from 0 xs) (pushed gs gs' last place e h f) ∙ last_from-append 0 (places_after 0 gs) place)

pub dropped_fit : (n : ℕ) (gs : List ℕ) (last : ℕ) → last ≡ last_from 0 (places_after 0 gs) → sum (drop n gs) ≤ last
dropped_fit n gs last e = omega (arith, last_after 0 gs, sum-split n gs)

pub ruleset cuts = (last_after, sum-split, after-take, length-after, take_rest)
