use Rattle.std.proofs.Common.{◌≤◌, ◌<◌, length}
use Rattle.pgv.specs.Words.{capacity}
use Rattle.pgv_examples.proofs.statement.check_rows.Given as goal

-- the room is no smaller than before, and after a row holds one
abbrev pub invariant-loop-body : goal.invariant-loop-body
invariant-loop-body l = (capacity l.fn.room ≤ capacity l.room) × (0 < l.body-index → length l.columns ≤ capacity l.room)
