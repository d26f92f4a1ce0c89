use Rattle.std.proofs.Common.{◌++◌}
use Rattle.std.specs.Fmt.{decimal}
use Rattle.std.proofs.lemmas.Result.{on_ok_weaker}
use Rattle.pgv_ltree.proofs.Printed.{taken_as}
use Rattle.pgv_ltree.proofs.level.print.print_count.Goals as goal

pub returns-clause-ok : goal.returns-clause-ok
returns-clause-ok g c =
    let both = g.met.S.Sink.took_both in
    let digits = taken_as g.S.Sink.took c.put.new.self c.put-2.new.self c.format.result.now (decimal c.args.count) c.format.ensures.text c.in_ok-put-2.ensures.ok in
    let front = both c.args.out.now c.put.new.self c.put-2.new.self c.args.before.now (decimal c.args.count) c.in_ok-put.ensures.ok digits in
    on_ok_weaker c.put-3.result (λ e. both c.args.out.now c.put-2.new.self c.put-3.new.self (c.args.before.now ++ decimal c.args.count) c.args.after.now front e) c.put-3.ensures.ok
