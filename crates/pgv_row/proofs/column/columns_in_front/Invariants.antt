use Rattle.std.proofs.Common.{◌≡◌, ◌-◌}
use Rattle.pgv_row.specs.Description.{column_front}
use Rattle.pgv_value.specs.Several.{several}
use Rattle.pgv_value.proofs.Several.{with_front}
use Rattle.pgv_row.proofs.column.columns_in_front.Given as goal

-- what was read and what is left to read are the columns
abbrev pub invariant-loop : goal.invariant-loop
invariant-loop g l =
    with_front l.columns.items (several (column_front (g.C.PgCatalog.known l.catalog)) (l.count - l.counter) l.rest).answer ≡ (several (column_front (g.C.PgCatalog.known l.catalog)) l.count l.bytes).answer
