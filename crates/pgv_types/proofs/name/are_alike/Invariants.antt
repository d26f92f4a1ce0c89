use Rattle.std.proofs.Common.{◌≡◌, length}
use Rattle.pgv_types.specs.Names.{all_alike}
use Rattle.pgv_types.specs.Left.{left}
use Rattle.pgv_types.proofs.name.are_alike.Given as goal

abbrev pub invariant-loop-a : goal.invariant-loop-a
invariant-loop-a l = all_alike (left l.fn.first) (left l.fn.second) ≡ all_alike (left l.left) (left l.right)

abbrev pub decreases-loop-a : goal.decreases-loop-a
decreases-loop-a l = length (left l.left)
