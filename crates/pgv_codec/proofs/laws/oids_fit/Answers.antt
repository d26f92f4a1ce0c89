use Rattle.std.proofs.Common.{subst, sym}
use Rattle.std.proofs.lemmas.List.{take_more}
use Rattle.pgv_codec.specs.Back.{AreOids}
use Rattle.pgv_codec.specs.PartBackLemmas.{AreOids-more}
use Rattle.pgv_codec.proofs.laws.oids_fit.Goals as goal

pub loop-oid-preserved : goal.loop-oid-preserved
loop-oid-preserved c =
    subst AreOids (sym (take_more c.args.oids.now c.loop-oid.oid-index _ c.loop-oid-test.true)) (AreOids-more _ _ c.loop-oid.invariant c.oid_fits.ensures)
