use Rattle.std.proofs.Common.{◌<◌, ◌-◌, suc, true, List, refl, ap, ◌∙◌, add-one}
use Rattle.std.proofs.lemmas.Result.{err_from_is_err_and}
use Rattle.pgv_row.specs.ColumnView.{Column}
use Rattle.pgv_row.specs.Description.{column_front}
use Rattle.pgv_value.specs.Outcome.{after}
use Rattle.pgv_value.specs.Several.{several}
use Rattle.pgv_value.proofs.Several.{with_front, is_done, goes_on, ends_with}
use Rattle.pgv_row.proofs.column.columns_in_front.Goals as goal

pub loop-preserved : goal.loop-preserved
loop-preserved g c =
    let one = column_front (g.C.PgCatalog.known c.args.catalog.now) in
    let lt : c.loop.counter < c.args.count = c.loop-test.true in
    rw add-one
    (ap (λ (cs : List Column). with_front cs (several one (c.args.count - suc c.loop.counter) c.in_ok-column.after.now).answer) c.in_ok-push.ensures.items
    ∙ goes_on one c.loop.columns.items c.args.count c.loop.counter c.loop.rest.now c.in_ok-column.column c.in_ok-column.after.now _ lt c.in_ok-column.ensures c.loop.invariant)

pub returns-in_err-column : goal.returns-in_err-column
returns-in_err-column g c =
    let one = column_front (g.C.PgCatalog.known c.args.catalog.now) in
    let p = err_from_is_err_and c.from_residual.result c.from_residual.ensures.1 in
    let lt : c.loop.counter < c.args.count = c.loop-test.true in
    rw (p.1, p.2)
    (ends_with one c.loop.columns.items c.args.count c.loop.counter c.loop.rest.now c.in_err-column.field-0.0 (after true (several one c.args.count c.args.bytes.now)) lt c.in_err-column.ensures c.loop.invariant refl)

pub returns : goal.returns
returns g c = is_done (column_front (g.C.PgCatalog.known c.args.catalog.now)) c.loop.columns.items c.args.count c.loop.counter c.loop.rest.now _ c.loop-test.false c.loop.invariant
