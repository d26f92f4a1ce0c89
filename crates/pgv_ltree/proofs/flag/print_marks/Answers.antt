use Rattle.std.proofs.Common.{◌++◌}
use Rattle.std.specs.Prelude.{codes}
use Rattle.std.proofs.lemmas.Result.{on_ok_weaker}
use Rattle.pgv_ltree.proofs.Printed.{taken_as}
use Rattle.pgv_ltree.specs.QueryPrinted.{mark}
use Rattle.pgv_ltree.proofs.flag.print_marks.Goals as goal

pub returns-clause-ok : goal.returns-clause-ok
returns-clause-ok g c =
    let took = g.S.Sink.took in
    let both = g.met.S.Sink.took_both in
    let a = mark c.args.any_end (codes "*") in
    let b = mark c.args.in_case (codes "@") in
    let d = mark c.args.sublexeme (codes "%") in
    let first = taken_as took c.args.out.now c.put.new.self c.sign.result.now a c.sign.ensures c.in_ok-put.ensures.ok in
    let second = taken_as took c.put.new.self c.put-2.new.self c.sign-2.result.now b c.sign-2.ensures c.in_ok-put-2.ensures.ok in
    let front = both c.args.out.now c.put.new.self c.put-2.new.self a b first second in
    on_ok_weaker c.put-3.result (λ e. both c.args.out.now c.put-2.new.self c.put-3.new.self (a ++ b) d front (taken_as took c.put-2.new.self c.put-3.new.self c.sign-3.result.now d c.sign-3.ensures e)) c.put-3.ensures.ok
