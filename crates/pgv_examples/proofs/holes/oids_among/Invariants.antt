use Rattle.std.proofs.Common.{take}
use Rattle.pgv_examples.specs.Known.{AreKnownOids}
use Rattle.pgv_examples.proofs.holes.oids_among.Given as goal

-- those so far
abbrev pub invariant-loop-hole : goal.invariant-loop-hole
invariant-loop-hole l = AreKnownOids l.known (take l.hole-index l.holes) l.oids.items
