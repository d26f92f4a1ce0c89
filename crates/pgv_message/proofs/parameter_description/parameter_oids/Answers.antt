use Rattle.std.proofs.Common.{List, Ok, Err, arith}
use Rattle.std.proofs.lemmas.Result.{err_from_is_err_and}
use Rattle.pgv_types.specs.declared.oid.Oid.{Oid}
use Rattle.pgv_value.proofs.ReadFronts.{are_bytes}
use Rattle.pgv_message.specs.Pieces.{oid_bytes}
use Rattle.pgv_message.specs.Counted.{oid_front, IsOid}
use Rattle.pgv_message.proofs.Counted.{reads_counted, reads_oid}
use Rattle.pgv_message.proofs.parameter_description.parameter_oids.Goals as goal

pub returns : goal.returns
returns c =
    let h = are_bytes c.args.body.now (λ i. omega (arith, c.type_inv.body i)) in
    reads_counted IsOid oid_bytes oid_front reads_oid (λ (xs : List Oid). xs) c.args.body.now (Ok c.in_ok-oids.oids.items) h c.in_ok-oids.ensures

pub returns-in_err-oids : goal.returns-in_err-oids
returns-in_err-oids c =
    let h = are_bytes c.args.body.now (λ i. omega (arith, c.type_inv.body i)) in
    let p = err_from_is_err_and c.from_residual.result c.from_residual.ensures.1 in
    rw (p.1, p.2) (reads_counted IsOid oid_bytes oid_front reads_oid (λ (xs : List Oid). xs) c.args.body.now (Err c.in_err-oids.field-0.0) h c.in_err-oids.ensures)
