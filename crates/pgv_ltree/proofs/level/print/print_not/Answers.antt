use Rattle.std.proofs.Common.{sym, ◌∙◌}
use Rattle.std.specs.Prelude.{codes}
use Rattle.std.proofs.lemmas.Result.{on_ok_weaker}
use Rattle.pgv_ltree.proofs.Printed.{taken_two, printed_not}
use Rattle.pgv_ltree.specs.QueryPrinted.{printed_variants}
use Rattle.pgv_ltree.proofs.level.print.print_not.Goals as goal

pub returns-clause-ok : goal.returns-clause-ok
returns-clause-ok g c =
    on_ok_weaker c.print_variants.result
    (λ e. taken_two g.S.Sink.took g.met.S.Sink.took_both c.args.out.now c.put.new.self c.print_variants.new.out (codes "!") (printed_variants c.args.variants.now) _ c.in_ok-put.ensures.ok e (printed_not c.args.variants.now (sym c.is_empty.ensures ∙ c.if-is_empty.false)))
    c.print_variants.ensures.ok
