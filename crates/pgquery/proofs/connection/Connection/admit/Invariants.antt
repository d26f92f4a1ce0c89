use Rattle.std.proofs.Common.{List, []}
use Rattle.pgquery.specs.Incoming.{Incoming}
use Rattle.pgquery.specs.Talks.{Talks}
use Rattle.pgquery.proofs.connection.Connection.admit.Given as goal

abbrev pub invariant-loop : goal.invariant-loop
invariant-loop g l = (answers : List Incoming) × Talks g.R.Read.remaining g.W.Write.contents l.fn.self l.self [] answers
