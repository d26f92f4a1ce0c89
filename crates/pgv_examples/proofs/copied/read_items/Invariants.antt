use Rattle.pgv.specs.Words.{bytes_left}
use Rattle.pgv_examples.proofs.copied.read_items.Given as goal

-- each row takes bytes
abbrev pub decreases-loop-items : goal.decreases-loop-items
decreases-loop-items l = bytes_left l.reader
