use Rattle.std.proofs.Common.{[], ◌++◌, add-one, refl, sym, append-nil}
use Rattle.std.proofs.lemmas.Result.{err_from_is_err_and}
use Rattle.pgv_value.specs.Outcome.{after}
use Rattle.std.proofs.Common.{true}
use Rattle.pgv_codec.proofs.Lists.{both, frames_done, frames_fail, frames_more, nothing_before, still}
use Rattle.pgv_codec.proofs.types.array.write_each.Goals as goal

pub loop-value-init : goal.loop-value-init
loop-value-init g c = ([], sym (append-nil c.args.out.now), nothing_before (still g.T.Encode.encoding c.args.values.now).answer)

pub returns-in_err-encode-clause-exact : goal.returns-in_err-encode-clause-exact
returns-in_err-encode-clause-exact g c =
    let encoding = g.T.Encode.encoding in
    let was = c.loop-value.invariant in
    let p = err_from_is_err_and c.from_residual.result c.from_residual.ensures.1 in
    rw (p.1, p.2)
    (frames_fail encoding was.0 c.args.values.now c.loop-value.value-index c.value-item.result c.in_err-encode.field-0.0 (after true (still encoding c.args.values.now))
    c.loop-value-test.true c.value-item.is c.in_err-encode.ensures.exact was.2 refl)

pub loop-value-preserved : goal.loop-value-preserved
loop-value-preserved g c =
    let was = c.loop-value.invariant in
    let f = c.in_ok-encode.ensures.exact in
    rw add-one (
      was.0 ++ f.0,
      both c.args.out.now c.loop-value.out c.encode.new.self was.0 f.0 was.1 f.2,
      frames_more g.T.Encode.encoding was.0 c.args.values.now c.loop-value.value-index c.value-item.result f.0 _ c.loop-value-test.true c.value-item.is f.1 was.2,
    )

pub returns-clause-exact : goal.returns-clause-exact
returns-clause-exact g c =
    let was = c.loop-value.invariant in
    (was.0, frames_done g.T.Encode.encoding was.0 c.args.values.now c.loop-value.value-index _ c.loop-value-test.false was.2, was.1)
