use Rattle.std.proofs.Common.{[]}
use Rattle.pgquery.proofs.Talking.{converses_on, silent}
use Rattle.pgquery.proofs.statement.server_types.Goals as goal

pub loop-place-init : goal.loop-place-init
loop-place-init g c = ([], [], silent g.R.Read.remaining g.W.Write.contents c.args.connection.now)

pub loop-place-preserved : goal.loop-place-preserved
loop-place-preserved g c = converses_on g.R.Read.remaining g.W.Write.contents c.args.connection.now c.loop-place.connection c.keep_rows.new.connection c.loop-place.invariant c.in_ok-keep_rows.ensures
