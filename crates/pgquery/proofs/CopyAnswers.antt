-- Rows of a COPY that are read one after another, and answers that come one after another.
use Rattle.std.proofs.Common.{◌≡◌, ℕ, Bool, true, false, List, [], ◌∷◌, ◌++◌, Some, Result, Ok, refl, sym, ap, ◌∙◌, append_assoc, append-nil, subst}
use Rattle.std.specs.List.{flat_map}
use Rattle.pgv.specs.Words.{CodecError, Given}
use Rattle.pgv_copy.specs.CopyPieces.{Advances, AdvancesFrom, Pieces}
use Rattle.pgv_copy.specs.declared.pieces.PgCopyNext.{PgCopyNext}
use Rattle.pgv_copy.specs.declared.pieces.PgCopyNext.TheVariants.{Row, End}
use Rattle.pgquery.specs.Copying.{CopiesAnswer, CopiesAnswers, ReadsPieces, copied_line}
use Rattle.pgquery.specs.Incoming.{Incoming}

-- ---- rows

-- where a row was read, it is there
other : (let r : Result PgCopyNext CodecError = Ok Row in r) ≡ Ok End → ⊥
other h = absurd cc

pub row_there : (reader next : Pieces) → Advances reader (Ok Row) next → (row : List Given) × (next.row ≡ Some row)
row_there reader next h = by reader.is_ended h
  where
    by : (ended : Bool) → AdvancesFrom ended reader (Ok Row) next → (row : List Given) × (next.row ≡ Some row)
    by true k = absurd (other k.0)
    by false k = (k.0, ap (λ (p : Pieces). p.row) k.2)

pub one_more_row : (reader mid next : Pieces) (rows : List (List Given)) (row : List Given) → ReadsPieces reader rows mid → Advances mid (Ok Row) next → next.row ≡ Some row → ReadsPieces reader (rows ++ row ∷ []) next
one_more_row reader mid next [] row same advances is = (next, subst (λ (p : Pieces). Advances p (Ok Row) next) same advances, is, refl)
one_more_row reader mid next (r ∷ rows) row reads advances is = (reads.0, reads.1, reads.2, one_more_row reads.0 mid next rows row reads.3 advances is)

pub one_more_line : (rows : List (List Given)) (row : List Given) → flat_map copied_line (rows ++ row ∷ []) ≡ flat_map copied_line rows ++ copied_line row
one_more_line [] row = append-nil (copied_line row)
one_more_line (r ∷ rows) row = ap (λ (xs : List ℕ). copied_line r ++ xs) (one_more_line rows row) ∙ sym (append_assoc (copied_line r) (flat_map copied_line rows) (copied_line row))

-- ---- answers

pub one_more_answer : (reader mid next : Pieces) (ms : List Incoming) (m : Incoming) (text lines : List ℕ) → CopiesAnswers reader ms mid text → CopiesAnswer m.tag m.body mid next lines →
    CopiesAnswers reader (ms ++ m ∷ []) next (text ++ lines)
one_more_answer reader mid next [] m text lines none is =
    (next, lines, [], ap (λ (xs : List ℕ). xs ++ lines) none.1 ∙ sym (append-nil lines), subst (λ (p : Pieces). CopiesAnswer m.tag m.body p next lines) none.0 is, (refl, refl))
one_more_answer reader mid next (n ∷ ms) m text lines copies is =
    (copies.0, copies.1, copies.2 ++ lines, ap (λ (xs : List ℕ). xs ++ lines) copies.3 ∙ append_assoc copies.1 copies.2 lines, copies.4, one_more_answer copies.0 mid next ms m copies.2 lines copies.5 is)

pub ready_copies_nothing : (reader mid : Pieces) (ms : List Incoming) (m : Incoming) (text : List ℕ) → CopiesAnswers reader ms mid text → m.tag ≡ 90 → CopiesAnswers reader (ms ++ m ∷ []) mid text
ready_copies_nothing reader mid ms m text copies is =
    let none : CopiesAnswer m.tag m.body mid mid [] = rw is (refl, refl) in
    subst (CopiesAnswers reader (ms ++ m ∷ []) mid) (append-nil text) (one_more_answer reader mid mid ms m text [] copies none)
