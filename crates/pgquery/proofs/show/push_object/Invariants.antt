use Rattle.std.proofs.Common.{◌≡◌, ◌++◌, ◌∷◌}
use Rattle.pgquery.specs.RowLines.{members}
use Rattle.pgquery.proofs.show.push_object.Given as goal

-- the columns so far
abbrev pub invariant-loop-place : goal.invariant-loop-place
invariant-loop-place l = l.line.items ≡ l.fn.line.items ++ 123 ∷ members l.row l.place
