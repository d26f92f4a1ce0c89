use Rattle.std.proofs.Common.{◌≡◌, map, take}
use Rattle.std.specs.Rc.{rc_str_bytes}
use Rattle.pgv_catalog.specs.Rows.{label_rows}
use Rattle.pgv_catalog.proofs.resolve.labels_of_type.Given as goal

-- the labels so far
abbrev pub invariant-loop-row : goal.invariant-loop-row
invariant-loop-row l = map rc_str_bytes l.labels.items ≡ label_rows l.oid.0 (take l.row-index l.rows)
