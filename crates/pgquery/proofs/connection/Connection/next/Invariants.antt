use Rattle.std.proofs.Common.{[]}
use Rattle.pgquery.specs.Talks.{Talks}
use Rattle.pgquery.proofs.connection.Connection.next.Given as goal

-- what came so far is passed over
abbrev pub invariant-loop : goal.invariant-loop
invariant-loop g l = Talks g.R.Read.remaining g.W.Write.contents l.fn.self l.self [] []
