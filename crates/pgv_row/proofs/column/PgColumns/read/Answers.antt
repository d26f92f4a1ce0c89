use Rattle.std.proofs.Common.{List, Ok, Err, arith}
use Rattle.std.proofs.lemmas.Result.{err_from_is_err_and}
use Rattle.pgv_row.specs.ColumnView.{Column}
use Rattle.pgv_row.proofs.Descriptions.{columns_read}
use Rattle.pgv_value.proofs.ReadFronts.{are_bytes}
use Rattle.pgv_row.proofs.column.PgColumns.read.Goals as goal

pub returns : goal.returns
returns g c =
    let h = are_bytes c.args.body.now (λ i. omega (arith, c.type_inv.body i)) in
    columns_read (λ (xs : List Column). xs) (g.C.PgCatalog.known c.args.catalog.now) c.args.body.now (Ok c.in_ok-list.list.items) h c.in_ok-list.ensures

pub returns-in_err-list : goal.returns-in_err-list
returns-in_err-list g c =
    let h = are_bytes c.args.body.now (λ i. omega (arith, c.type_inv.body i)) in
    let p = err_from_is_err_and c.from_residual.result c.from_residual.ensures.1 in
    rw (p.1, p.2) (columns_read (λ (xs : List Column). xs) (g.C.PgCatalog.known c.args.catalog.now) c.args.body.now (Err c.in_err-list.field-0.0) h c.in_err-list.ensures)
