use Rattle.pgquery.specs.Talks.{Converses}
use Rattle.pgquery.proofs.statement.keep_answers.Given as goal

abbrev pub invariant-loop : goal.invariant-loop
invariant-loop g l = Converses g.R.Read.remaining g.W.Write.contents l.fn.connection l.connection
