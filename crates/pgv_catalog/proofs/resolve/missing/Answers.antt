use Rattle.std.proofs.Common.{refl}
use Rattle.pgv_catalog.proofs.Waiting.{is_there}
use Rattle.pgv_catalog.proofs.resolve.missing.Goals as goal

pub returns-then-is_none-clause-there : goal.returns-then-is_none-clause-there
returns-then-is_none-clause-there c = (c.row-item.result, is_there c.args.rows.now c.loop-row.row-index c.row-item.result c.loop-row-test.true c.row-item.is, refl)
