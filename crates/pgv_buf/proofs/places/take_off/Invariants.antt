use Rattle.std.proofs.Common.{◌≡◌, ◌+◌, sum, drop}
use Rattle.pgv_buf.proofs.places.take_off.Given as goal

abbrev pub invariant-loop-gap : goal.invariant-loop-gap
invariant-loop-gap l = l.place + sum l.gaps ≡ l.last + sum (drop l.gap-index l.gaps)
