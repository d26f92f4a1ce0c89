use Rattle.std.proofs.Common.{◌≡◌, ◌<◌, ◌≤◌, [], true, false, take}
use Rattle.pgv_catalog.specs.Rows.{AllAwait, AreMade, unmade}
use Rattle.pgv_catalog.proofs.resolve.add_ready.Given as goal

-- Each type is made of a row. Where one was added, fewer are left; where none was, each row so far has its type or
-- waits for a part.
abbrev pub invariant-loop-row : goal.invariant-loop-row
invariant-loop-row l = record {
  each : AreMade l.rows [] l.known;
  left : unmade l.known l.rows.types.items ≤ unmade l.fn.known l.rows.types.items;
  fewer : l.added ≡ true → unmade l.known l.rows.types.items < unmade l.fn.known l.rows.types.items;
  waiting : l.added ≡ false → AllAwait l.rows l.known (take l.row-index l.rows.types.items);
}
