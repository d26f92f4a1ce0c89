use Rattle.std.proofs.Common.{◌≡◌, take}
use Rattle.pgv_session.specs.CopiedView.{infos, rows_of}
use Rattle.pgv_session.proofs.copied.types_of.Given as goal

-- the types so far
abbrev pub invariant-loop-column : goal.invariant-loop-column
invariant-loop-column l = l.types.items ≡ infos (rows_of (take l.column-index l.columns))
