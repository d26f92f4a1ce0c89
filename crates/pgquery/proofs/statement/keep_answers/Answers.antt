use Rattle.std.proofs.Common.{[]}
use Rattle.pgquery.proofs.Talking.{converses_on, silent}
use Rattle.pgquery.proofs.statement.keep_answers.Goals as goal

pub loop-init : goal.loop-init
loop-init g c = ([], [], silent g.R.Read.remaining g.W.Write.contents c.args.connection.now)

pub loop-preserved : goal.loop-preserved
loop-preserved g c = converses_on g.R.Read.remaining g.W.Write.contents c.args.connection.now c.loop.connection c.answer.new.self c.loop.invariant ([], _, c.in_ok-tag.ensures.2)

pub returns-then-tag-eq90 : goal.returns-then-tag-eq90
returns-then-tag-eq90 g c = converses_on g.R.Read.remaining g.W.Write.contents c.args.connection.now c.loop.connection c.answer.new.self c.loop.invariant ([], _, c.in_ok-tag.ensures.2)
