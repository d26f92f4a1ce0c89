use Rattle.std.proofs.Common.{rules, ◌≡◌, Some, Ok, Err, refl, inl, add-one, arith}
use Rattle.std.specs.Option.{option_copied}
use Rattle.pgv_value.specs.Fronts.{one_part}
use Rattle.pgv_row.proofs.OnePass.{goes_on, is_done, ends}
use Rattle.pgv_row.proofs.reader.pass_over.Goals as goal

pub returns-in-Err : goal.returns-in-Err
returns-in-Err c =
    let missing : (one_part c.loop-at.rest.now).answer ≡ Err (Some c.in-Err.source) = rw (c.in-Err.ensures.exact.0, c.in-Err.ensures.exact.1) refl in
    record { exact = (inl (ends c.args.width c.loop-at.at c.loop-at.rest.now _ c.loop-at.invariant.0 _ c.loop-at-test.true missing), search rules); shorter = tt }

pub loop-at-preserved : goal.loop-at-preserved
loop-at-preserved c =
    let found : (one_part c.loop-at.rest.now).answer ≡ Ok (option_copied c.in-Ok._part, c.in-Ok.after.now) = rw c.in-Ok.ensures.exact refl in
    (rw add-one (goes_on c.args.width c.loop-at.at c.loop-at.rest.now _ c.loop-at.invariant.0 _ _ c.loop-at-test.true found), omega (arith, c.in-Ok.ensures.shorter, c.loop-at.invariant.1))

pub returns : goal.returns
returns c = record { exact = is_done c.args.width c.loop-at.at c.loop-at.rest.now _ c.loop-at.invariant.0 c.loop-at-test.false; shorter = c.loop-at.invariant.1 }
