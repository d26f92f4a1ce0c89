use Rattle.std.proofs.Common.{◌≡◌, ◌++◌, map, take, drop}
use Rattle.pgv_row.specs.Description.{in_format}
use Rattle.pgv_row.proofs.column.PgColumns.set_format.Given as goal

-- the columns so far are in the format
abbrev pub invariant-loop-column : goal.invariant-loop-column
invariant-loop-column l = l.column-items ≡ map (in_format l.format) (take l.column-index l.fn.self) ++ drop l.column-index l.fn.self
