use Rattle.std.proofs.Common.{◌≡◌, take}
use Rattle.pgv_catalog.specs.Filling.{AreNamed}
use Rattle.pgv_catalog.proofs.filling.oids_of.Given as goal

-- the OIDs so far
abbrev pub invariant-loop-hole : goal.invariant-loop-hole
invariant-loop-hole g l = record {
  found : AreNamed (g.N.PgNames.named l.catalog) (take l.hole-index l.holes) l.oids.items;
  place : l.place ≡ l.hole-index;
}
