use Rattle.std.proofs.Common.{◌≡◌, ◌++◌}
use Rattle.pgquery.specs.RowLines.{values_shown}
use Rattle.pgquery.proofs.show.push_values.Given as goal

-- the values so far
abbrev pub invariant-loop-place : goal.invariant-loop-place
invariant-loop-place l = l.line.items ≡ l.fn.line.items ++ values_shown l.row l.place
