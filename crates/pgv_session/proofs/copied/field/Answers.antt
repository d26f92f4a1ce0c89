use Rattle.pgv_session.specs.Types.{row_of}
use Rattle.pgv_session.proofs.CopySteps.{field_shows}
use Rattle.pgv_session.proofs.copied.field.Goals as goal

pub returns-in-Ok : goal.returns-in-Ok
returns-in-Ok c = field_shows (row_of c.args.column) _ c.in-Ok.bytes.now c.show.result c.in-Ok.ensures c.show.ensures
