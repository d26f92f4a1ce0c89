use Rattle.std.proofs.Common.{◌≡◌, ◌+◌, length}
use Rattle.pgv_examples.proofs.in_list.push_in.Given as goal

-- one argument for each key so far
abbrev pub invariant-loop-key : goal.invariant-loop-key
invariant-loop-key l = length l.arguments ≡ length l.fn.arguments + l.key-index
