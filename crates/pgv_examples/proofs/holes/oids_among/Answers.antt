use Rattle.std.proofs.Common.{take}
use Rattle.std.proofs.lemmas.List.{take_more}
use Rattle.pgv_examples.specs.Known.{one_more_known}
use Rattle.pgv_examples.proofs.holes.oids_among.Goals as goal

pub loop-hole-preserved : goal.loop-hole-preserved
loop-hole-preserved c =
    let hole = c.hole-item.result in
    rw (take_more c.args.holes.now c.loop-hole.hole-index hole c.loop-hole-test.true, ← c.hole-item.is, c.in_ok-push.ensures.items)
    (one_more_known c.args.known.now (take c.loop-hole.hole-index c.args.holes.now) c.loop-hole.oids.items hole c.in_ok-oid_among.field-0 c.loop-hole.invariant c.in_ok-oid_among.ensures)
