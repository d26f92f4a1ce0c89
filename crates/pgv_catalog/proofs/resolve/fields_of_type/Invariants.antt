use Rattle.std.proofs.Common.{◌≡◌, drop, map}
use Rattle.pgv_catalog.specs.Rows.{composite_fields, named_type}
use Rattle.pgv_catalog.proofs.MadeTypes.{with_before}
use Rattle.pgv_catalog.proofs.resolve.fields_of_type.Given as goal

-- the fields so far, before those of the rows that are left, are all fields
abbrev pub invariant-loop-row : goal.invariant-loop-row
invariant-loop-row l =
    with_before (map named_type l.fields.items) (composite_fields l.rows.types.items l.known l.oid.0 (drop l.row-index l.row-items))
    ≡ composite_fields l.rows.types.items l.known l.oid.0 l.row-items
