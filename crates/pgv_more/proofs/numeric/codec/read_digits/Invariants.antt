use Rattle.std.proofs.Common.{◌≡◌}
use Rattle.pgv_more.specs.Numeric.{digits}
use Rattle.pgv_more.proofs.numeric.codec.read_digits.Given as goal

-- the digits so far
abbrev pub invariant-loop-place : goal.invariant-loop-place
invariant-loop-place l = l.digits.items ≡ digits l.place l.form
