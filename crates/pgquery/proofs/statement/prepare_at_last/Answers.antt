use Rattle.pgquery.proofs.Talking.{converses_on, silent}
use Rattle.std.proofs.Common.{[]}
use Rattle.pgquery.proofs.statement.prepare_at_last.Goals as goal

pub returns-then-are_built_in : goal.returns-then-are_built_in
returns-then-are_built_in g c = (c.args.connection.now, ([], [], silent g.R.Read.remaining g.W.Write.contents c.args.connection.now), c.in_ok-described.ensures)

pub returns : goal.returns
returns g c =
    let p = c.in_ok-described.ensures in
    let begun = c.server_types.new.connection in (
      begun,
      converses_on g.R.Read.remaining g.W.Write.contents c.args.connection.now c.prepare.new.connection begun (p.sent, p.answers, p.talks) c.in_ok-known.ensures,
      c.in_ok-described-2.ensures,
    )
