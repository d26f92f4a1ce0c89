use Rattle.std.proofs.Common.{length}
use Rattle.pgv_calls.proofs.pieces.read_rows.Given as goal

-- each row takes bytes of those that have come
abbrev pub decreases-loop-text : goal.decreases-loop-text
decreases-loop-text l = length l.reader.left
