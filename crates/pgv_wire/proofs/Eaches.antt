-- One more value of a list.
use Rattle.std.proofs.Common.{◌≡◌, ℕ, ◌+◌, ◌<◌, List, [], ◌∷◌, ◌++◌, length, Result, Ok, Err, IsOk, OnErr, get_or, take, sym, ◌∙◌, ap, append_assoc, append-nil}
use Rattle.std.proofs.lemmas.List.{take_more}
use Rattle.pgv_types.specs.Ty.{Ty}
use Rattle.pgv_buf.specs.Tokens.{Token}
use Rattle.pgv_wire.specs.Arguments.{Argument, Adds}
use Rattle.pgv_value.specs.Outcome.{Outcome, ok_of}
use Rattle.pgv_wire.specs.EachAddition.{Answered, EachOutcome, IsOutcome, AreOutcomes, argument_by, added_by, accepted}

pub not_err : {A E : Type 0} (r : Result A E) (e : E) → IsOk r → r ≡ Err e → ⊥
not_err (Ok x) e k h = absurd cc
not_err (Err x) e k h = absurd cc

module _ {X : Type 0} (said : X → Answered → Type 0) where
  outcomes-more : (xs : List X) (rs : List Answered) (x : X) (r : Answered) → EachOutcome said xs rs → said x r → EachOutcome said (xs ++ x ∷ []) (rs ++ r ∷ [])
  outcomes-more [] [] x r h k = (k, tt)
  outcomes-more [] (s ∷ rs) x r h k = absurd h
  outcomes-more (y ∷ xs) [] x r h k = absurd h
  outcomes-more (y ∷ xs) (s ∷ rs) x r h k = (h.0, outcomes-more xs rs x r h.1 k)

module _ {X : Type 0} (framed_as : X → Outcome (List Token)) (typed_as : X → Ty) where
  accepted-more : (xs : List X) (rs : List Answered) (x : X) (r : Answered) → AreOutcomes framed_as typed_as xs rs →
      accepted framed_as typed_as (xs ++ x ∷ []) (rs ++ r ∷ []) ≡ accepted framed_as typed_as xs rs ++ added_by framed_as typed_as x r
  accepted-more [] [] x r h = append-nil (added_by framed_as typed_as x r)
  accepted-more [] (s ∷ rs) x r h = absurd h
  accepted-more (y ∷ xs) [] x r h = absurd h
  accepted-more (y ∷ xs) (s ∷ rs) x r h =
      ap (λ a. added_by framed_as typed_as y s ++ a) (accepted-more xs rs x r h.1) ∙ sym (append_assoc (added_by framed_as typed_as y s) (accepted framed_as typed_as xs rs) (added_by framed_as typed_as x r))

  -- what a loop over the values keeps
  abbrev pub SoFar : List X → List Answered → List Argument → List Argument → Type 0
  SoFar xs rs start now = AreOutcomes framed_as typed_as xs rs × (now ≡ start ++ accepted framed_as typed_as xs rs)

  pub more :
      (xs : List X) (i : ℕ) (x : X) (rs rs' : List Answered) (r : Answered) (start now next : List Argument) → i < length xs → x ≡ get_or xs i x →
      SoFar (take i xs) rs start now → IsOutcome framed_as typed_as x r → next ≡ now ++ added_by framed_as typed_as x r → rs' ≡ rs ++ r ∷ [] → SoFar (take (i + 1) xs) rs' start next
  more xs i x rs rs' r start now next l e h k n o =
      rw (o, take_more xs i x l, ← e) (
        outcomes-more (IsOutcome framed_as typed_as) (take i xs) rs x r h.0 k,
        n ∙ (ap (λ a. a ++ added_by framed_as typed_as x r) h.1 ∙ (append_assoc start (accepted framed_as typed_as (take i xs) rs) (added_by framed_as typed_as x r)
            ∙ ap (λ a. start ++ a) (sym (accepted-more (take i xs) rs x r h.0)))),
      )

  -- one addition, as its contract has it
  pub outcome_is : (x : X) (r : Answered) (was now : List Argument) → Adds (framed_as x) (typed_as x) was now r → OnErr r (now ≡ was) →
      IsOutcome framed_as typed_as x r × (now ≡ was ++ added_by framed_as typed_as x r)
  outcome_is x (Ok u) was now a k = ((a.0, a.1), a.2 ∙ sym (ap (λ f. was ++ argument_by framed_as typed_as (typed_as x) (ok_of f)) a.1))
  outcome_is x (Err error) was now a k = (a, k ∙ sym (append-nil was))
