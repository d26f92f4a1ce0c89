use Rattle.std.proofs.Common.{◌≡◌, length}
use Rattle.std.specs.Prelude.{option_map}
use Rattle.pgv_message.specs.RowCounts.{or_else, after_last_space}
use Rattle.pgv_message.proofs.command_complete.last_word.Given as goal

abbrev pub invariant-loop-byte : goal.invariant-loop-byte
invariant-loop-byte l = or_else (after_last_space l.rest) (option_map (λ word. word.now) l.word) ≡ after_last_space l.text

abbrev pub decreases-loop-byte : goal.decreases-loop-byte
decreases-loop-byte l = length l.rest
