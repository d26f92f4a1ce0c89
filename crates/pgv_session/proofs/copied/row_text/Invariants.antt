use Rattle.std.proofs.Common.{drop}
use Rattle.std.specs.Prelude.{map, string_bytes}
use Rattle.pgv_session.specs.CopiedView.{rows_of}
use Rattle.pgv_session.proofs.CopySteps.{AreSoFar}
use Rattle.pgv_session.proofs.copied.row_text.Given as goal

-- the columns so far are shown as these texts
abbrev pub invariant-loop-place : goal.invariant-loop-place
invariant-loop-place l = AreSoFar (rows_of l.columns) l.row (map (λ t. string_bytes t) l.texts.items) (rows_of (drop l.place l.columns)) (drop l.place l.row)
