use Rattle.std.proofs.Common.{◌≡◌, map, string_bytes}
use Rattle.std.specs.Prelude.{Ok}
use Rattle.pgv_ltree.specs.TextsInTurn.{read_each}
use Rattle.pgv_ltree.specs.Labels.{label_read}
use Rattle.pgv_ltree.proofs.ltree.PgLTree.try_from_iter.Given as goal

abbrev pub invariant-loop-label : goal.invariant-loop-label
invariant-loop-label g l = read_each label_read (map string_bytes l.yielded) ≡ Ok l.tree
