use Rattle.std.proofs.Common.{take}
use Rattle.pgv_catalog.specs.Rows.{AreAllKnown}
use Rattle.pgv_catalog.proofs.resolve.missing.Given as goal

-- the types of the rows so far are there
abbrev pub invariant-loop-row : goal.invariant-loop-row
invariant-loop-row l = AreAllKnown (take l.row-index l.rows) l.known
