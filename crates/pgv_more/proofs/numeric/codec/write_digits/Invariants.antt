use Rattle.pgv_more.proofs.NumericWritten.{DigitsSoFar}
use Rattle.pgv_more.proofs.numeric.codec.write_digits.Given as goal

-- the digits so far
abbrev pub invariant-loop-digit : goal.invariant-loop-digit
invariant-loop-digit l = DigitsSoFar l.digits l.digit-index l.initial.out l.out
