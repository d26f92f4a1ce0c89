use Rattle.pgquery.specs.Talks.{Converses}
use Rattle.pgquery.proofs.statement.server_types.Given as goal

abbrev pub invariant-loop-place : goal.invariant-loop-place
invariant-loop-place g l = Converses g.R.Read.remaining g.W.Write.contents l.fn.connection l.connection
