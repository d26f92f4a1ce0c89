use Rattle.std.proofs.Common.{◌+◌, take, ap, sym, ◌∙◌}
use Rattle.std.specs.Prelude.{option_map}
use Rattle.std.proofs.lemmas.List.{take_more}
use Rattle.pgv_catalog.proofs.Holes.{one_more}
use Rattle.pgv_catalog.proofs.filling.oids_of.Goals as goal

pub loop-hole-preserved : goal.loop-hole-preserved
loop-hole-preserved g c =
    let hole = c.hole-item.result in
    rw (take_more c.args.holes.now c.loop-hole.hole-index hole c.loop-hole-test.true, ← c.hole-item.is, c.in_ok-push.ensures.items) (record {
      found = one_more (g.N.PgNames.named c.args.catalog.now) (take c.loop-hole.hole-index c.args.holes.now) c.loop-hole.oids.items hole c.in-Some.oid c.loop-hole.invariant.found (sym c.oid_for.ensures ∙ ap (option_map (λ o. o.0)) c.in-Some.is);
      place = ap (λ n. n + 1) c.loop-hole.invariant.place;
    })
