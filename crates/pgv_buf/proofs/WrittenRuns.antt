-- Strings written one after the other, and run after run.
use Rattle.std.proofs.Common.{◌≡◌, ℕ, ◌+◌, ◌<◌, suc, zero, List, [], ◌∷◌, ◌++◌, length, take, drop, map, get_or, replicate, refl, sym, ◌∙◌, ap, subst, arith}
use Rattle.std.proofs.lemmas.List.{drop_more, take-append-drop}
use Rattle.pgv_types.specs.Ty.{Ty}
use Rattle.pgv_buf.specs.Tokens.{chosen}
use Rattle.pgv_buf.specs.declared.fill.Slot.{Slot}
use Rattle.pgv_buf.specs.TokensView.{kept_of}
use Rattle.pgv_buf.specs.Layout.{Kept}
use Rattle.pgv_buf.specs.Fill.{slot_types}
use Rattle.pgv_buf.specs.Proper.{rest_of}
use Rattle.pgv_buf.specs.Patches.{put, put_each, Within, choices}

-- ---- one string

-- what slots show for one type
abbrev pub run_choices : Ty → List Slot → List (List ℕ)
run_choices t ss = choices (replicate (length ss) t) (map kept_of ss)

-- ---- a run, and then the others

written-append : (ps qs : List ℕ) (ws vs : List (List ℕ)) (b : List ℕ) → length ps ≡ length ws → put_each (ps ++ qs) (ws ++ vs) b ≡ put_each qs vs (put_each ps ws b)
written-append [] qs [] vs b h = refl
written-append [] qs (w ∷ ws) vs b h = absurd (omega arith)
written-append (p ∷ ps) qs [] vs b h = absurd (omega arith)
written-append (p ∷ ps) qs (w ∷ ws) vs b h = written-append ps qs ws vs (put p w b) (omega arith)

Within-append : (n : ℕ) (ps qs : List ℕ) (ws vs : List (List ℕ)) → length ps ≡ length ws → Within n (ps ++ qs) (ws ++ vs) → Within n ps ws × Within n qs vs
Within-append n [] qs [] vs h k = (tt, k)
Within-append n [] qs (w ∷ ws) vs h k = absurd (omega arith)
Within-append n (p ∷ ps) qs [] vs h k = absurd (omega arith)
Within-append n (p ∷ ps) qs (w ∷ ws) vs h k =
    let r = Within-append n ps qs ws vs (omega arith) k.1 in
    ((k.0, r.0), r.1)

choices-append :
    (n : ℕ) (t : Ty) (ts : List Ty) (xs ys : List Kept) → length xs ≡ n →
    choices (replicate n t ++ ts) (xs ++ ys) ≡ choices (replicate n t) xs ++ choices ts ys
choices-append zero t ts [] ys h = refl
choices-append zero t ts (x ∷ xs) ys h = absurd (omega arith)
choices-append (suc n) t ts [] ys h = absurd (omega arith)
choices-append (suc n) t ts (x ∷ xs) ys h = ap (λ r. chosen t x.standard x.cases ∷ r) (choices-append n t ts xs ys (omega arith))

length-choices : (ts : List Ty) (ks : List Kept) → length (choices ts ks) ≡ length ks
length-choices ts [] = refl
length-choices ts (k ∷ ks) = omega (arith, length-choices (rest_of ts) ks)

split_choices :
    (n : ℕ) (t : Ty) (ts : List Ty) (ks : List Kept) → length (take n ks) ≡ n →
    choices (replicate n t ++ ts) ks ≡ choices (replicate n t) (take n ks) ++ choices ts (drop n ks)
split_choices n t ts ks h =
    ap (λ y. choices (replicate n t ++ ts) y) (sym (take-append-drop n ks)) ∙ choices-append n t ts (take n ks) (drop n ks) h

pub within_run :
    (m n : ℕ) (ps qs : List ℕ) (t : Ty) (ts : List Ty) (ks : List Kept) → length ps ≡ n → length (take n ks) ≡ n →
    Within m (ps ++ qs) (choices (replicate n t ++ ts) ks) → Within m ps (choices (replicate n t) (take n ks)) × Within m qs (choices ts (drop n ks))
within_run m n ps qs t ts ks e f h =
    Within-append m ps qs (choices (replicate n t) (take n ks)) (choices ts (drop n ks)) (omega (arith, length-choices (replicate n t) (take n ks)))
    (subst (λ ws. Within m (ps ++ qs) ws) (split_choices n t ts ks f) h)

pub told_run :
    (n : ℕ) (ps qs : List ℕ) (t : Ty) (ts : List Ty) (ks : List Kept) (b b' target : List ℕ) → length ps ≡ n → length (take n ks) ≡ n →
    put_each (ps ++ qs) (choices (replicate n t ++ ts) ks) b ≡ target →
    b' ≡ put_each ps (choices (replicate n t) (take n ks)) b → put_each qs (choices ts (drop n ks)) b' ≡ target
told_run n ps qs t ts ks b b' target e f h g =
    let k : put_each (ps ++ qs) (choices (replicate n t) (take n ks) ++ choices ts (drop n ks)) b ≡ target =
    ap (λ ws. put_each (ps ++ qs) ws b) (sym (split_choices n t ts ks f)) ∙ h in
    ap (λ z. put_each qs (choices ts (drop n ks)) z) g
    ∙ (sym (written-append ps qs (choices (replicate n t) (take n ks)) (choices ts (drop n ks)) b (omega (arith, length-choices (replicate n t) (take n ks)))) ∙ k)

-- the types of the slots of what is left, the argument at i first
pub types_here :
    (types : List Ty) (counts : List ℕ) (i : ℕ) (t : Ty) → i < length types → i < length counts → t ≡ get_or types i t →
    slot_types (drop i types) (drop i counts) ≡ replicate (get_or counts i 0) t ++ slot_types (drop (i + 1) types) (drop (i + 1) counts)
types_here types counts i t l m e =
    let ts : drop i types ≡ t ∷ drop (i + 1) types = drop_more types i t l ∙ ap (λ y. y ∷ drop (i + 1) types) (sym e) in
    let ns : drop i counts ≡ get_or counts i 0 ∷ drop (i + 1) counts = drop_more counts i 0 m in
    ap (λ y. slot_types y (drop i counts)) ts ∙ ap (λ y. slot_types (t ∷ drop (i + 1) types) y) ns
