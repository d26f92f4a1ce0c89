use Rattle.std.proofs.Common.{◌≡◌, map}
use Rattle.std.specs.Prelude.{Ok}
use Rattle.pgv_ltree.specs.TextsInTurn.{read_each}
use Rattle.pgv_ltree.specs.Labels.{label_read}
use Rattle.pgv_ltree.proofs.ltree.PgLTree.from_str.Given as goal

abbrev pub invariant-loop-label : goal.invariant-loop-label
invariant-loop-label l =
    (goal.iterator-loop-label).can_next l.label-iterator ×
    (goal.iterator-loop-label).is_finite l.label-iterator ×
    (read_each label_read (map (λ x. x.now) l.yielded) ≡ Ok l.labels.items)
