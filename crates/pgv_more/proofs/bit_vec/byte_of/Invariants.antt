use Rattle.std.proofs.Common.{◌≡◌, take}
use Rattle.std.specs.Prelude.{map}
use Rattle.pgv_more.specs.Bits.{number_of}
use Rattle.pgv_more.proofs.bit_vec.byte_of.Given as goal

abbrev pub invariant-loop-place : goal.invariant-loop-place
invariant-loop-place g l = l.byte ≡ number_of 8 (map g.B.Bit.set (take l.place l.bits))
