-- What a call's contract says is a step.
use Rattle.std.proofs.Common.{◌≡◌, List, [], ◌∷◌, ◌++◌, Option, Some, None, Ok, Err, inl, inr, refl, sym, ◌∙◌, ap, append_assoc, append-nil}
use Rattle.pgv_types.specs.Ty.{Ty}
use Rattle.pgv_buf.specs.Tokens.{Token, blank}
use Rattle.pgv_value.specs.Outcome.{Outcome, ok_of}
use Rattle.pgv_value.specs.declared.error.CodecError.{CodecError}
use Rattle.pgv_wire.specs.Arguments.{Argument, framed, filled_arguments}
use Rattle.pgv_wire.specs.EachAddition.{argument_by, added_by, accepted}
use Rattle.pgv_wire.specs.History.{Call, adds, fills, is_refused, after_calls}
use Rattle.pgv_wire.specs.MainSentence.{call_by, call_of, calls_of, AdditionIsAStep, RefusalIsAStep, EachOutcomeIsAStep, CallsAreJoined}

pub addition_step : AdditionIsAStep
addition_step f t was now a = a.2 ∙ sym (ap (λ r. after_calls was (call_by t (ok_of r) ∷ [])) a.1)

refused_step : (f : Outcome (List Token)) (why : Option CodecError) (t : Ty) (was now : List Argument) → f.answer ≡ Err why → now ≡ was → now ≡ after_calls was (call_of t f ∷ [])
refused_step f why t was now is same = same ∙ sym (ap (λ r. after_calls was (call_by t (ok_of r) ∷ [])) is)

pub refusal_step : RefusalIsAStep
refusal_step e f t was now (inl h) n same = refused_step f (Some e) t was now h same
refusal_step e f t was now (inr (inl h)) n same = refused_step f None t was now h.0 same
refusal_step e f t was now (inr (inr h)) n same = absurd (n h.0)

pub calls_joined : CallsAreJoined
calls_joined was [] more = refl
calls_joined was (adds f ∷ calls) more = calls_joined (was ++ (f.0, blank f.1) ∷ []) calls more
calls_joined was (fills ps os ∷ calls) more = calls_joined (filled_arguments (framed was) ps os) calls more
calls_joined was (is_refused ∷ calls) more = calls_joined was calls more

module _ {X : Type 0} (framed_as : X → Outcome (List Token)) (typed_as : X → Ty) where
  call_step : (t : Ty) (f : Option (List Token)) (calls : List Call) (was : List Argument) → after_calls was (call_by t f ∷ calls) ≡ after_calls (was ++ argument_by framed_as typed_as t f) calls
  call_step t None calls was = ap (λ (args : List Argument). after_calls args calls) (sym (append-nil was))
  call_step t (Some ts) calls was = refl

  pub each_step : EachOutcomeIsAStep framed_as typed_as
  each_step [] rs was = append-nil was
  each_step (x ∷ xs) [] was = append-nil was
  each_step (x ∷ xs) (Ok u ∷ rs) was =
      sym (append_assoc was (added_by framed_as typed_as x (Ok u)) (accepted framed_as typed_as xs rs))
      ∙ (each_step xs rs (was ++ added_by framed_as typed_as x (Ok u)) ∙ sym (call_step (typed_as x) (ok_of (framed_as x).answer) (calls_of framed_as typed_as xs rs) was))
  each_step (x ∷ xs) (Err e ∷ rs) was = each_step xs rs was
