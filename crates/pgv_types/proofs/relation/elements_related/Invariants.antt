use Rattle.std.proofs.Common.{◌≡◌}
use Rattle.pgv_types.specs.Facts.{type_size}
use Rattle.pgv_types.specs.LentParts.{ref_type, IsHeld}
use Rattle.pgv_types.specs.Relations.{related, levels}
use Rattle.pgv_types.proofs.relation.elements_related.Given as goal

-- the two types are related as their elements so far are
abbrev pub invariant-loop-same : goal.invariant-loop-same
invariant-loop-same l =
    IsHeld l.left × IsHeld l.right × (related l.soft (levels (ref_type l.left)) (levels (ref_type l.right)) ≡ related l.fn.soft (levels (ref_type l.fn.first)) (levels (ref_type l.fn.second)))

abbrev pub decreases-loop-same : goal.decreases-loop-same
decreases-loop-same l = type_size (ref_type l.left)
