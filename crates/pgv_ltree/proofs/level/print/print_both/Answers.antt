use Rattle.std.proofs.Common.{◌++◌, append_assoc}
use Rattle.std.specs.Prelude.{codes}
use Rattle.std.specs.Fmt.{decimal}
use Rattle.std.proofs.lemmas.Result.{on_ok_weaker}
use Rattle.pgv_ltree.proofs.Printed.{taken_two}
use Rattle.pgv_ltree.proofs.level.print.print_both.Goals as goal

pub returns-clause-ok : goal.returns-clause-ok
returns-clause-ok g c =
    let low = codes "*{" ++ decimal c.args.low ++ codes "," in
    let high = decimal c.args.high in
    on_ok_weaker c.print_count-2.result
    (λ e. taken_two g.S.Sink.took g.met.S.Sink.took_both c.args.out.now c.print_count.new.out c.print_count-2.new.out low (high ++ codes "}") _ c.in_ok-print_count.ensures.ok e (append_assoc low high (codes "}")))
    c.print_count-2.ensures.ok
