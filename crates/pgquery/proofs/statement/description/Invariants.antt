use Rattle.std.proofs.Common.{◌≡◌, List, [], ◌∷◌}
use Rattle.pgquery.specs.Incoming.{Incoming}
use Rattle.pgquery.specs.Statement.{description_among}
use Rattle.pgquery.specs.Talks.{Talks}
use Rattle.pgquery.proofs.Talking.{NoneReady}
use Rattle.pgquery.proofs.statement.description.Given as goal

-- what was answered so far, and what it describes
abbrev pub invariant-loop : goal.invariant-loop
invariant-loop g l =
    (answers : List Incoming) × NoneReady answers × Talks g.R.Read.remaining g.W.Write.contents l.fn.connection l.connection [] answers ×
    (description_among (0 ∷ 0 ∷ []) answers ≡ l.described.rows.items)
