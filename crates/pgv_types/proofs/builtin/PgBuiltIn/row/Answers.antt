use Rattle.std.proofs.Common.{arith}
use Rattle.pgv_types.specs.Shown.{oid_of_variant}
use Rattle.pgv_types.proofs.TableRows.{place_within, row_found, row_within}
use Rattle.pgv_types.proofs.builtin.PgBuiltIn.row.Goals as goal

pub offset_bounds-rows-place : goal.offset_bounds-rows-place
offset_bounds-rows-place c = omega (arith, place_within c.place.result (oid_of_variant c.args.self) c.place.ensures)

pub bounds-rows-place : goal.bounds-rows-place
bounds-rows-place c = row_within c.rows.result.now c.place.result (oid_of_variant c.args.self) c.rows.ensures c.place.ensures

pub returns : goal.returns
returns c = row_found c.rows.result.now c.place.result (oid_of_variant c.args.self) _ c.rows.ensures c.place.ensures
