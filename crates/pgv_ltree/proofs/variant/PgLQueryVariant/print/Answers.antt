use Rattle.std.proofs.lemmas.Result.{on_ok_weaker}
use Rattle.pgv_ltree.proofs.Printed.{taken_as}
use Rattle.pgv_ltree.specs.QueryPrinted.{printed_marks}
use Rattle.pgv_ltree.proofs.variant.PgLQueryVariant.print.Goals as goal

pub returns-clause-ok : goal.returns-clause-ok
returns-clause-ok g c =
    let fields = c.self.inside in
    let marks = printed_marks fields.any_end fields.in_case fields.sublexeme in
    let label = taken_as g.S.Sink.took c.args.out.now c.put.new.self c.as_str.result.now fields.label c.as_str.ensures.text c.in_ok-put.ensures.ok in
    rw (← c.self.view_is) (on_ok_weaker c.print_marks.result (λ e. g.met.S.Sink.took_both c.args.out.now c.put.new.self c.print_marks.new.out fields.label marks label e) c.print_marks.ensures.ok)
