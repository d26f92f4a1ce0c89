use Rattle.std.proofs.Common.{◌<◌, ◌-◌, suc, true, List, refl, ap, ◌∙◌, add-one}
use Rattle.std.proofs.lemmas.Result.{err_from_is_err_and}
use Rattle.pgv_types.specs.declared.oid.Oid.{Oid}
use Rattle.pgv_value.specs.Outcome.{after}
use Rattle.pgv_value.specs.Several.{several}
use Rattle.pgv_value.proofs.Several.{with_front, is_done, goes_on, ends_with}
use Rattle.pgv_message.specs.Counted.{oid_front}
use Rattle.pgv_message.proofs.parameter_description.oids_in_front.Goals as goal

pub loop-preserved : goal.loop-preserved
loop-preserved c =
    let lt : c.loop.counter < c.args.count = c.loop-test.true in
    rw add-one
    (ap (λ (os : List Oid). with_front os (several oid_front (c.args.count - suc c.loop.counter) c.in_ok-oid.after.now).answer) c.in_ok-push.ensures.items
    ∙ goes_on oid_front c.loop.oids.items c.args.count c.loop.counter c.loop.rest.now c.in_ok-oid.oid c.in_ok-oid.after.now _ lt c.in_ok-oid.ensures c.loop.invariant)

pub returns-in_err-oid : goal.returns-in_err-oid
returns-in_err-oid c =
    let p = err_from_is_err_and c.from_residual.result c.from_residual.ensures.1 in
    let lt : c.loop.counter < c.args.count = c.loop-test.true in
    rw (p.1, p.2)
    (ends_with oid_front c.loop.oids.items c.args.count c.loop.counter c.loop.rest.now c.in_err-oid.field-0.0 (after true (several oid_front c.args.count c.args.bytes.now)) lt c.in_err-oid.ensures c.loop.invariant refl)

pub returns : goal.returns
returns c = is_done oid_front c.loop.oids.items c.args.count c.loop.counter c.loop.rest.now _ c.loop-test.false c.loop.invariant
