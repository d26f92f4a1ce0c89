use Rattle.std.proofs.Common.{take}
use Rattle.pgv_codec.specs.Back.{AreOids}
use Rattle.pgv_codec.proofs.laws.oids_fit.Given as goal

-- those that were seen are
abbrev pub invariant-loop-oid : goal.invariant-loop-oid
invariant-loop-oid l = AreOids (take l.oid-index l.oids)
