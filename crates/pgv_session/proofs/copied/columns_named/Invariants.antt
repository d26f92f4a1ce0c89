use Rattle.std.proofs.Common.{◌≡◌, ◌++◌}
use Rattle.std.specs.Prelude.{option_map}
use Rattle.std.specs.Option.{option_copied}
use Rattle.pgv_session.specs.CopiedView.{rows_of}
use Rattle.pgv_session.specs.Lines.{words}
use Rattle.pgv_session.specs.Session.{rows_named}
use Rattle.pgv_session.proofs.Wording.{words_after, size_left}
use Rattle.pgv_session.proofs.copied.columns_named.Given as goal

abbrev pub invariant-loop-left : goal.invariant-loop-left
invariant-loop-left l = option_map (λ rs. rows_of l.columns.items ++ rs) (rows_named (words_after (option_copied l.left))) ≡ rows_named (words l.fn.names)

abbrev pub decreases-loop-left : goal.decreases-loop-left
decreases-loop-left l = size_left (option_copied l.left)
