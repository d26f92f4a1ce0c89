use Rattle.std.proofs.Common.{◌≡◌, List, ℕ}
use Rattle.std.specs.Prelude.{map, string_bytes, Ok}
use Rattle.pgv_copy.specs.CopyBinary.{after_header, bytes_left, reader_before}
use Rattle.pgv_session.specs.CopiedView.{infos, rows_of}
use Rattle.pgv_session.specs.Session.{Yields}
use Rattle.pgv_session.proofs.copied.rows.Given as goal

-- the rows so far are shown as these texts
abbrev pub invariant-loop-row : goal.invariant-loop-row
invariant-loop-row l =
    (rest : List ℕ) × (after_header l.fn.bytes ≡ Ok rest)
    × Yields (rows_of l.columns) (reader_before (infos (rows_of l.columns)) rest) (map (λ t. string_bytes t) l.texts.items) l.reader

abbrev pub decreases-loop-row : goal.decreases-loop-row
decreases-loop-row l = bytes_left l.reader
