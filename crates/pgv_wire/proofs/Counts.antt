-- Counts that are kept but for zeros at the end: what they lead to, and one more.
use Rattle.std.proofs.Common.{◌≡◌, ℕ, ◌+◌, ◌≤◌, suc, zero, List, [], ◌∷◌, ◌++◌, length, refl, sym, ◌∙◌, ap, arith, append_assoc, replicate, sum}
use Rattle.std.proofs.lemmas.List.{length-append, replicate_more}
use Rattle.std.proofs.lemmas.List.Sums.{sum_by-append}
use Rattle.std.proofs.lemmas.List.Folds.{sum_by-replicate}
use Rattle.pgv_types.specs.Ty.{Ty}
use Rattle.pgv_buf.specs.Fill.{slot_types}
use Rattle.pgv_wire.specs.Counts.{AreCounts}

no_counts : (ps : List Ty) → slot_types ps [] ≡ []
no_counts [] = refl
no_counts (p ∷ ps) = no_counts ps

zero_counts : (k : ℕ) (ps : List Ty) → slot_types ps (replicate k 0) ≡ []
zero_counts zero ps = no_counts ps
zero_counts (suc k) [] = refl
zero_counts (suc k) (p ∷ ps) = zero_counts k ps

types_padded : (ps : List Ty) (ns : List ℕ) (k : ℕ) → slot_types ps (ns ++ replicate k 0) ≡ slot_types ps ns
types_padded [] ns k = refl
types_padded (p ∷ ps) [] k = zero_counts k (p ∷ ps) ∙ sym (no_counts (p ∷ ps))
types_padded (p ∷ ps) (n ∷ ns) k = ap (λ r. replicate n p ++ r) (types_padded ps ns k)

-- the slots have the same types
pub types_counted : (ps : List Ty) (all kept : List ℕ) → AreCounts all kept → slot_types ps all ≡ slot_types ps kept
types_counted ps all kept c = ap (λ r. slot_types ps r) c.1 ∙ types_padded ps kept c.0

-- there are as many slots
pub slots_counted : (all kept : List ℕ) → AreCounts all kept → sum all ≡ sum kept
slots_counted all kept c = omega (arith, ap sum c.1, sum_by-append (λ n. n) kept (replicate c.0 0), sum_by-replicate (λ n. n) c.0 0)

pub fewer_kept : (all kept : List ℕ) → AreCounts all kept → length kept ≤ length all
fewer_kept all kept c = omega (arith, ap length c.1, length-append kept (replicate c.0 0))

-- ---- one more

-- of none nothing is kept
pub none_more : (all kept : List ℕ) → AreCounts all kept → AreCounts (all ++ 0 ∷ []) kept
none_more all kept c = (c.0 + 1, ap (λ r. r ++ 0 ∷ []) c.1 ∙ (append_assoc kept (replicate c.0 0) (0 ∷ []) ∙ ap (λ r. kept ++ r) (replicate_more c.0 0)))
