use Rattle.std.proofs.Common.{rules, ap, length}
use Rattle.pgv_buf.specs.Proper.{length-hole_types_of}
use Rattle.pgv_wire.specs.Arguments.{all_cells}
use Rattle.pgv_catalog.proofs.Holes.{as_many}
use Rattle.pgv_catalog.proofs.filling.fill.Goals as goal

pub returns-in_err-apply_patches-clause-refused : goal.returns-in_err-apply_patches-clause-refused
returns-in_err-apply_patches-clause-refused g c =
    let holes = all_cells c.args.arguments.now in
    let many = as_many (g.N.PgNames.named c.args.catalog.now) c.hole_types.result.now c.in_ok-oids.oids.items c.in_ok-oids.ensures in
    let types = ap length c.hole_types.ensures in
    let oids = ap length c.as_slice.ensures.value in
    absurd (search (rules, c.apply_patches.ensures.ok, c.in_err-apply_patches.is, many, types, oids, length-hole_types_of holes))
