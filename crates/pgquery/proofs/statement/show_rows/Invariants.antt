use Rattle.std.proofs.Common.{ℕ, List, []}
use Rattle.std.specs.Io.KnownBytes.{Appends}
use Rattle.pgquery.specs.Incoming.{Incoming}
use Rattle.pgquery.specs.RowLines.{ShowsRows}
use Rattle.pgquery.specs.Talks.{Talks}
use Rattle.pgquery.proofs.Talking.{NoneReady}
use Rattle.pgquery.proofs.statement.show_rows.Given as goal

-- what was answered so far, and its text
abbrev pub invariant-loop : goal.invariant-loop
invariant-loop g l =
    (answers : List Incoming) × (text : List ℕ) × NoneReady answers × Talks g.R.Read.remaining g.W.Write.contents l.fn.connection l.connection [] answers ×
    Appends (g.S.Write.contents l.fn.lines) (g.S.Write.contents l.lines) text × ShowsRows l.fn.shown l.fn.columns answers text
