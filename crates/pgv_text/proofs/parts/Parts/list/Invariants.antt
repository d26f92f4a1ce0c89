use Rattle.std.proofs.Common.{◌≡◌, ◌++◌, length, map}
use Rattle.pgv_text.specs.PartsView.{nest}
use Rattle.pgv_text.specs.Values.{part_bytes}
use Rattle.pgv_text.proofs.parts.Parts.list.Given as goal

abbrev pub invariant-loop-list : goal.invariant-loop-list
invariant-loop-list l = map part_bytes l.list.items ++ (nest l.parts).values ≡ (nest l.fn.self).values

abbrev pub decreases-loop-list : goal.decreases-loop-list
decreases-loop-list l = length (nest l.parts).values
