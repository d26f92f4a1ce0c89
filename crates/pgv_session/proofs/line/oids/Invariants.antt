use Rattle.std.proofs.Common.{◌≡◌, ◌++◌}
use Rattle.std.specs.Prelude.{option_map}
use Rattle.std.specs.Option.{option_copied}
use Rattle.pgv_session.specs.Lines.{oids_named, words}
use Rattle.pgv_session.proofs.Wording.{words_after, size_left}
use Rattle.pgv_session.proofs.line.oids.Given as goal

abbrev pub invariant-loop-left : goal.invariant-loop-left
invariant-loop-left l = option_map (λ os. l.oids.items ++ os) (oids_named (words_after (option_copied l.left))) ≡ oids_named (words l.fn.text)

abbrev pub decreases-loop-left : goal.decreases-loop-left
decreases-loop-left l = size_left (option_copied l.left)
