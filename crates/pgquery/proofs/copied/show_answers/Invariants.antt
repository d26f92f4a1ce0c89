use Rattle.std.proofs.Common.{ℕ, List, []}
use Rattle.std.specs.Io.KnownBytes.{Appends}
use Rattle.pgv_copy.specs.CopyPieces.{nothing_came}
use Rattle.pgquery.specs.Copying.{CopiesAnswers}
use Rattle.pgquery.specs.Incoming.{Incoming}
use Rattle.pgquery.specs.Talks.{Talks}
use Rattle.pgquery.proofs.Talking.{NoneReady}
use Rattle.pgquery.proofs.copied.show_answers.Given as goal

-- what was answered so far, and its text
abbrev pub invariant-loop : goal.invariant-loop
invariant-loop g l =
    (answers : List Incoming) × (text : List ℕ) × NoneReady answers × Talks g.R.Read.remaining g.W.Write.contents l.fn.connection l.connection [] answers ×
    Appends (g.S.Write.contents l.fn.lines) (g.S.Write.contents l.lines) text × CopiesAnswers (nothing_came []) answers l.reader text
