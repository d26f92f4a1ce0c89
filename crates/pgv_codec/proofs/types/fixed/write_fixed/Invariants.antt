use Rattle.std.proofs.Common.{◌-◌, length}
use Rattle.pgv_codec.specs.AtOnce.{WritesFirst}
use Rattle.pgv_codec.proofs.types.fixed.write_fixed.Given as goal

-- the first frames were written
abbrev pub invariant-loop-written : goal.invariant-loop-written
invariant-loop-written g l = WritesFirst g.T.Fixed.encoding l.values l.written l.initial.out l.out

abbrev pub decreases-loop-written : goal.decreases-loop-written
decreases-loop-written g l = length l.values - l.written
