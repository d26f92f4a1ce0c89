use Rattle.std.proofs.Common.{◌+◌, sym, ◌∙◌, ap, arith, append-nil, refl}
use Rattle.std.proofs.lemmas.List.{take_all}
use Rattle.std.proofs.lemmas.Result.{err_from_is_err_and}
use Rattle.pgv_codec.proofs.Extensions.{on_err}
use Rattle.pgv_codec.specs.Encoding.{value_type}
use Rattle.pgv_wire.specs.Arguments.{argument_frame}
use Rattle.pgv_wire.proofs.Eaches.{more, outcome_is, not_err}
use Rattle.pgv_wire.proofs.arguments.PgArguments.add_each.Goals as goal

pub loop-value-init : goal.loop-value-init
loop-value-init g c = (rw c.in_ok-outcomes.ensures.items (tt, sym (append-nil c.args.self.now)), c.in_ok-outcomes.ensures.capacity, c.in_ok-outcomes.ensures.len)

-- there is room for it
pub returns-in_err-push-clause-unchanged : goal.returns-in_err-push-clause-unchanged
returns-in_err-push-clause-unchanged g c =
    absurd (not_err c.push.result _ (c.push.ensures.succeeds (omega (arith, c.loop-value.invariant.1, c.loop-value.invariant.2, c.loop-value-test.true))) c.in_err-push.was)

pub returns-in_err-push-clause-succeeds : goal.returns-in_err-push-clause-succeeds
returns-in_err-push-clause-succeeds g c = λ _.
    absurd (not_err c.push.result _ (c.push.ensures.succeeds (omega (arith, c.loop-value.invariant.1, c.loop-value.invariant.2, c.loop-value-test.true))) c.in_err-push.was)

pub loop-value-preserved : goal.loop-value-preserved
loop-value-preserved g c =
    let r = c.add_by_ref-outcome.result in
    let o = outcome_is (λ x. argument_frame (g.T.Encode.encoding x)) (λ x. value_type g.T.Type.info (g.T.Encode.encoding x)) c.value-item.result r c.loop-value.self c.add_by_ref-outcome.new.self c.add_by_ref-outcome.ensures.exact c.add_by_ref-outcome.ensures.unchanged in (
      more (λ x. argument_frame (g.T.Encode.encoding x)) (λ x. value_type g.T.Type.info (g.T.Encode.encoding x)) c.args.values.now c.loop-value.value-index c.value-item.result c.loop-value.outcomes.items c.push.new.self.items r c.args.self.now c.loop-value.self c.add_by_ref-outcome.new.self
          c.loop-value-test.true c.value-item.is c.loop-value.invariant.0 o.0 o.1 c.in_ok-push.ensures.items,
      omega (arith, c.loop-value.invariant.1, c.in_ok-push.ensures.capacity),
      c.in_ok-push.ensures.len ∙ ap (λ n. n + 1) c.loop-value.invariant.2,
    )

-- ---- an error

pub returns-in_err-outcomes-clause-outcomes : goal.returns-in_err-outcomes-clause-outcomes
returns-in_err-outcomes-clause-outcomes g c =
    let p = err_from_is_err_and c.from_residual.result c.from_residual.ensures.1 in
    rw p.1 tt

pub returns-in_err-outcomes-clause-added : goal.returns-in_err-outcomes-clause-added
returns-in_err-outcomes-clause-added g c =
    let p = err_from_is_err_and c.from_residual.result c.from_residual.ensures.1 in
    rw p.1 tt

pub returns-in_err-outcomes-clause-err : goal.returns-in_err-outcomes-clause-err
returns-in_err-outcomes-clause-err g c =
    let p = err_from_is_err_and c.from_residual.result c.from_residual.ensures.1 in
    rw p.1 p.2

pub returns-in_err-outcomes-clause-unchanged : goal.returns-in_err-outcomes-clause-unchanged
returns-in_err-outcomes-clause-unchanged g c = on_err c.from_residual.result refl

pub returns-in_err-push-clause-outcomes : goal.returns-in_err-push-clause-outcomes
returns-in_err-push-clause-outcomes g c =
    let p = err_from_is_err_and c.from_residual-in_err-push.result c.from_residual-in_err-push.ensures.1 in
    rw p.1 tt

pub returns-in_err-push-clause-added : goal.returns-in_err-push-clause-added
returns-in_err-push-clause-added g c =
    let p = err_from_is_err_and c.from_residual-in_err-push.result c.from_residual-in_err-push.ensures.1 in
    rw p.1 tt

pub returns-in_err-push-clause-err : goal.returns-in_err-push-clause-err
returns-in_err-push-clause-err g c =
    let p = err_from_is_err_and c.from_residual-in_err-push.result c.from_residual-in_err-push.ensures.1 in
    rw p.1 p.2

-- ---- after the last value

pub returns-clause-outcomes : goal.returns-clause-outcomes
returns-clause-outcomes g c = (rw (take_all c.loop-value.value-index c.args.values.now (omega arith)) at c.loop-value.invariant.0).0

pub returns-clause-added : goal.returns-clause-added
returns-clause-added g c = (rw (take_all c.loop-value.value-index c.args.values.now (omega arith)) at c.loop-value.invariant.0).1
