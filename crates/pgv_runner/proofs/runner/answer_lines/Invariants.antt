use Rattle.pgv_runner.proofs.SoFar.{IsSoFar}
use Rattle.pgv_runner.proofs.runner.answer_lines.Given as goal

abbrev pub invariant-loop : goal.invariant-loop
invariant-loop g l = IsSoFar (g.R.Read.remaining l.fn.reader) (g.R.Read.remaining l.reader) (g.W.Write.contents l.fn.writer) (g.W.Write.contents l.writer) l.arguments
