use Rattle.std.proofs.Common.{List, map, Ok, Err}
use Rattle.std.proofs.lemmas.Result.{err_from_is_err_and}
use Rattle.pgv_message.specs.Notice.{Field, field_view}
use Rattle.pgv_message.proofs.Notices.{reads_fields}
use Rattle.pgv_message.proofs.response.PgNotice.read.Goals as goal

pub returns : goal.returns
returns c = reads_fields (λ (xs : List Field). xs) c.args.body.now (Ok (map field_view c.in_ok-fields.fields.items)) c.in_ok-fields.ensures

pub returns-in_err-fields : goal.returns-in_err-fields
returns-in_err-fields c =
    let p = err_from_is_err_and c.from_residual.result c.from_residual.ensures.1 in
    rw (p.1, p.2) (reads_fields (λ (xs : List Field). xs) c.args.body.now (Err c.in_err-fields.field-0.0) c.in_err-fields.ensures)
