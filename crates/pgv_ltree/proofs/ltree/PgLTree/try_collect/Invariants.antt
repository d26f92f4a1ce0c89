use Rattle.std.proofs.Common.{◌≡◌}
use Rattle.pgv_ltree.proofs.ltree.PgLTree.try_collect.Given as goal

abbrev pub invariant-loop-label : goal.invariant-loop-label
invariant-loop-label g l = l.tree ≡ l.yielded
