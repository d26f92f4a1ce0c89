-- Additions of each value of a list: an outcome for each, and what the accepted ones add.
use Rattle.std.specs.Prelude.{◌≡◌, List, [], ◌∷◌, ◌++◌, Option, Some, None, Result, Ok, Err, ⊤}
use Rattle.pgv_types.specs.Ty.{Ty}
use Rattle.pgv_buf.specs.Tokens.{Token, blank}
use Rattle.pgv_wire.specs.Arguments.{Argument}
use Rattle.pgv_value.specs.Outcome.{Outcome, Fails, ok_of}
use Rattle.pgv_value.specs.declared.error.CodecError.{CodecError}

-- what an addition answers
abbrev pub Answered : Type 0
Answered = Result (Unit {0}) CodecError

-- one outcome for each value, in order, with what holds for the two
module _ {X : Type 0} (said : X → Answered → Type 0) where
  abbrev pub EachOutcome : List X → List Answered → Type 0
  EachOutcome [] [] = ⊤
  EachOutcome [] (r ∷ rs) = ⊥
  EachOutcome (x ∷ xs) [] = ⊥
  EachOutcome (x ∷ xs) (r ∷ rs) = said x r × EachOutcome xs rs

module _ {X : Type 0} (framed_as : X → Outcome (List Token)) (typed_as : X → Ty) where
  -- the outcome of one value
  abbrev pub IsOutcome : X → Answered → Type 0
  IsOutcome x (Ok u) = (ts : List Token) × ((framed_as x).answer ≡ Ok ts)
  IsOutcome x (Err e) = Fails e (framed_as x)

  abbrev pub AreOutcomes : List X → List Answered → Type 0
  AreOutcomes = EachOutcome IsOutcome

  abbrev pub argument_by : Ty → Option (List Token) → List Argument
  argument_by t None = []
  argument_by t (Some ts) = (t, blank ts) ∷ []

  -- what an outcome adds
  abbrev pub added_by : X → Answered → List Argument
  added_by x (Ok u) = argument_by (typed_as x) (ok_of (framed_as x).answer)
  added_by x (Err e) = []

  -- what the accepted ones add, in order
  abbrev pub accepted : List X → List Answered → List Argument
  accepted [] rs = []
  accepted (x ∷ xs) [] = []
  accepted (x ∷ xs) (r ∷ rs) = added_by x r ++ accepted xs rs
