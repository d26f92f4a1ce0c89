use Rattle.std.proofs.Common.{◌≡◌, ℕ, List, Ok, refl}
use Rattle.std.proofs.lemmas.Result.{err_from_is_err_and}
use Rattle.std.specs.declared.ops.Bound.{Bound}
use Rattle.pgv_types.specs.Ty.{Ty}
use Rattle.pgv_value.specs.Outcome.{Outcome, Fails}
use Rattle.pgv_value.specs.ValueView.{Given}
use Rattle.pgv_value.specs.declared.error.CodecError.{CodecError}
use Rattle.pgv_codec.proofs.StepOutcomes.{fails_here, fails_then}
use Rattle.pgv_range.specs.RangeGrammar.{bound_in, bounds_in}
use Rattle.pgv_range.specs.RangeOf.{bounds}
use Rattle.pgv_range.specs.declared.flags.Side.{Side}
use Rattle.pgv_range.proofs.codec.read_bounds.Goals as goal

module _ {M : Type 0} (parse : Given → Outcome M) (u : Ty) (below above : Side) (bytes : List ℕ) where
  start_fails : (e : CodecError) → Fails e (bound_in parse u below bytes) → Fails e (bounds_in parse u below above bytes)
  unfolding bounds_in
  start_fails e h = fails_here (bound_in parse u below bytes) _ e h

  -- after a lower bound that is read
  end_fails : (lower : Bound M) (later : List ℕ) (e : CodecError) → (bound_in parse u below bytes).answer ≡ Ok (lower, later) → Fails e (bound_in parse u above later) → Fails e (bounds_in parse u below above bytes)
  unfolding bounds_in
  end_fails lower later e found h = fails_then (bound_in parse u below bytes) _ (lower, later) e found (fails_here (bound_in parse u above later) _ e h)

  both_read : (lower upper : Bound M) (later rest : List ℕ) → (bound_in parse u below bytes).answer ≡ Ok (lower, later) → (bound_in parse u above later).answer ≡ Ok (upper, rest) → (bounds_in parse u below above bytes).answer ≡ Ok (bounds lower upper)
  unfolding bounds_in
  both_read lower upper later rest found then_found = rw (found, then_found) refl

pub returns-in_err-start : goal.returns-in_err-start
returns-in_err-start g c =
    let p = err_from_is_err_and c.from_residual.result c.from_residual.ensures.1 in
    rw (p.1, p.2) (start_fails g.T.Decode.parse c.args.element.now c.args.below c.args.above c.args.bytes.now c.in_err-start.field-0.0 c.in_err-start.ensures)

pub returns-in_err-end : goal.returns-in_err-end
returns-in_err-end g c =
    let p = err_from_is_err_and c.from_residual-in_err-end.result c.from_residual-in_err-end.ensures.1 in
    rw (p.1, p.2)
    (end_fails g.T.Decode.parse c.args.element.now c.args.below c.args.above c.args.bytes.now _ _ c.in_err-end.field-0.0 c.in_ok-start.ensures c.in_err-end.ensures)

pub returns : goal.returns
returns g c = both_read g.T.Decode.parse c.args.element.now c.args.below c.args.above c.args.bytes.now _ _ _ _ c.in_ok-start.ensures c.in_ok-end.ensures
