use Rattle.std.proofs.Common.{◌≡◌, map}
use Rattle.std.specs.Prelude.{Ok}
use Rattle.pgv_ltree.specs.TextsInTurn.{read_each}
use Rattle.pgv_ltree.specs.QueryRead.{variant_read}
use Rattle.pgv_ltree.proofs.level.variants_of.Given as goal

abbrev pub invariant-loop-variant : goal.invariant-loop-variant
invariant-loop-variant l =
    (goal.iterator-loop-variant).can_next l.variant-iterator ×
    (goal.iterator-loop-variant).is_finite l.variant-iterator ×
    (read_each variant_read (map (λ x. x.now) l.yielded) ≡ Ok l.variants.items)
