-- The columns of a list in another format, one after another.
use Rattle.std.proofs.Common.{◌≡◌, ℕ, zero, suc, ◌<◌, List, [], ◌∷◌, ◌++◌, length, map, take, drop, get_or, ap, arith}
use Rattle.std.specs.Prelude.{slice_set}

pub one_mapped : {A : Type 0} (f : A → A) (xs : List A) (i : ℕ) (x : A) → i < length xs → x ≡ get_or (map f (take i xs) ++ drop i xs) i x →
    slice_set (map f (take i xs) ++ drop i xs) i (f x) ≡ map f (take (suc i) xs) ++ drop (suc i) xs
one_mapped f [] i x lt is = absurd (omega arith)
one_mapped {A} f (y ∷ ys) zero x lt is = ap (λ (z : A). f z ∷ ys) is
one_mapped {A} f (y ∷ ys) (suc i) x lt is = ap (λ (zs : List A). f y ∷ zs) (one_mapped f ys i x (omega arith) is)
