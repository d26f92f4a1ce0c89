use Rattle.std.proofs.Common.{◌≡◌, ◌-◌, ◌≤◌, length}
use Rattle.pgv_row.specs.OnePass.{passed_over}
use Rattle.pgv_row.proofs.reader.pass_over.Given as goal

-- what is still passed over leaves the rest, and that is no longer than the bytes
abbrev pub invariant-loop-at : goal.invariant-loop-at
invariant-loop-at l = ((passed_over (l.width - l.at) l.rest).answer ≡ (passed_over (l.width - l.place) l.bytes).answer) × (length l.rest ≤ length l.bytes)
