-- The main sentence, over every list of calls. What a call's contract says is one step of `after_calls`: an accepted
-- addition appends the frame that its value has (`call_of`), a refused one changes nothing, each outcome of a list is a
-- step of its own (`calls_of`), and a filling shows each argument as it is written early. So a list of calls leaves
-- what `after_calls` leaves of it. Of any such list (`MainSentence`): the bytes are the accepted frames, written
-- directly with what the last filling was given, and zeros and defaults for those added since; they are read as frames,
-- a part for each accepted addition and nothing after them; and the part of an argument is read back as what its value
-- keeps, under every type that fits.
use Rattle.std.specs.Prelude.{◌≡◌, ◌≢◌, ℕ, List, [], ◌∷◌, ◌++◌, length, Option, Some, None, Ok, Err}
use Rattle.std.specs.List.{slice_get}
use Rattle.pgv_types.specs.Ty.{Ty}
use Rattle.pgv_types.specs.declared.oid.Oid.{Oid}
use Rattle.pgv_buf.specs.Proper.{Proper}
use Rattle.pgv_buf.specs.Tokens.{Token, shown}
use Rattle.pgv_value.specs.FrameBinary.{Part}
use Rattle.pgv_value.specs.Outcome.{Outcome, Fails, ok_of}
use Rattle.pgv_value.specs.Reading.{Reading}
use Rattle.pgv_value.specs.declared.error.CodecError.{CodecError}
use Rattle.pgv_value.specs.declared.error.CodecError.TheVariants.{Memory}
use Rattle.pgv_value.specs.declared.value.PgValueFormat.TheVariants.{Binary}
use Rattle.pgv_codec.specs.Back.{AreOids}
use Rattle.pgv_codec.specs.Encoding.{Encoding, Image, frame, value_type}
use Rattle.pgv_wire.specs.Arguments.{Argument, Framed, framed, Added, argument_frame, all_cells, filled_arguments}
use Rattle.pgv_wire.specs.EachAddition.{Answered, accepted}
use Rattle.pgv_wire.specs.Given.{LastGiven, given_in}
use Rattle.pgv_wire.specs.History.{Call, adds, fills, is_refused, added_in, after_calls, bytes_by, last_filling}
use Rattle.pgv_wire.specs.ArgumentParts.{AreImages, ReadAs}

-- ---- steps

-- an addition of a value of this type and with this frame, where memory is there
abbrev pub call_by : Ty → Option (List Token) → Call
call_by t None = is_refused
call_by t (Some ts) = adds (t, ts)

abbrev pub call_of : Ty → Outcome (List Token) → Call
call_of t f = call_by t (ok_of f.answer)

abbrev pub AdditionIsAStep : Type 0
AdditionIsAStep = (f : Outcome (List Token)) (t : Ty) (was now : List Argument) → Added f t was now → now ≡ after_calls was (call_of t f ∷ [])

abbrev pub RefusalIsAStep : Type 0
RefusalIsAStep =
    (e : CodecError) (f : Outcome (List Token)) (t : Ty) (was now : List Argument) → Fails e f → e ≢ Memory → now ≡ was → now ≡ after_calls was (call_of t f ∷ [])

abbrev pub UnchangedIsAStep : Type 0
UnchangedIsAStep = (was now : List Argument) → now ≡ was → now ≡ after_calls was (is_refused ∷ [])

abbrev pub FillingIsAStep : Type 0
FillingIsAStep = (was : List Argument) (ps : List Ty) (os : List Oid) → filled_arguments (framed was) ps os ≡ after_calls was (fills ps os ∷ [])

module _ {X : Type 0} (framed_as : X → Outcome (List Token)) (typed_as : X → Ty) where
  -- an addition of each value, with its outcome
  abbrev pub calls_of : List X → List Answered → List Call
  calls_of [] rs = []
  calls_of (x ∷ xs) [] = []
  calls_of (x ∷ xs) (Ok u ∷ rs) = call_of (typed_as x) (framed_as x) ∷ calls_of xs rs
  calls_of (x ∷ xs) (Err e ∷ rs) = is_refused ∷ calls_of xs rs

  abbrev pub EachOutcomeIsAStep : Type 0
  EachOutcomeIsAStep = (xs : List X) (rs : List Answered) (was : List Argument) → was ++ accepted framed_as typed_as xs rs ≡ after_calls was (calls_of xs rs)

-- the same by what a type states of its values
abbrev pub EachAdditionIsAStep : {X : Type 0} → Ty → (X → Encoding) → Type 0
EachAdditionIsAStep info encoding = EachOutcomeIsAStep (λ x. argument_frame (encoding x)) (λ x. value_type info (encoding x))

abbrev pub CallsAreJoined : Type 0
CallsAreJoined = (was : List Argument) (calls more : List Call) → after_calls (after_calls was calls) more ≡ after_calls was (calls ++ more)

-- ---- what any list of calls leaves

module _ {A M : Type 0} (encoding : A → Encoding) (reading : Reading M) (kept : A → M) (fits : A → Ty → List Oid → Type 0) where
  -- the part of the argument that was added for a value, among these, is read as what the value keeps, under each type
  -- that fits with the OIDs that the argument was given
  abbrev pub ComeBackIn : List Call → List Part → Type 0
  ComeBackIn calls parts =
      (place : ℕ) (a : Framed) (g : LastGiven) (v : A) (t : Ty) → slice_get (added_in calls) place ≡ Some a → (frame (encoding v)).answer ≡ Ok a.1 →
      slice_get (given_in (last_filling calls)) place ≡ Some g → fits v t g.oids →
      (part : Part) × (slice_get parts place ≡ Some part) × (reading t Binary part ≡ Some (kept v))

  pub record HoldsAfter (calls : List Call) : Type 0 where
    pub written : shown (all_cells (after_calls [] calls)) ≡ bytes_by (last_filling calls)
    pub parts : List Part
    pub read : ReadAs (shown (all_cells (after_calls [] calls))) parts []
    pub as_many : length parts ≡ length (added_in calls)
    pub come_back : ComeBackIn calls parts

  -- That the accepted frames are frames of images, that the cells are proper and that OIDs are numbers of 32 bits is
  -- what running calls say.
  unfoldable pub MainSentence : Type 0
  MainSentence =
      (calls : List Call) (is : List Image) → AreImages is (added_in calls) → Proper (all_cells (after_calls [] calls)) → AreOids (last_filling calls).oids → HoldsAfter calls
