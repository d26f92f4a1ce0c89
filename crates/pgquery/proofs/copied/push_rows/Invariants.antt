use Rattle.std.proofs.Common.{◌≡◌, ◌++◌, List}
use Rattle.std.specs.List.{flat_map}
use Rattle.pgv.specs.Words.{Given}
use Rattle.pgv_copy.specs.CopyPieces.{with_more}
use Rattle.pgquery.specs.Copying.{ReadsPieces, copied_line}
use Rattle.pgquery.proofs.copied.push_rows.Given as goal

-- the rows so far
abbrev pub invariant-loop : goal.invariant-loop
invariant-loop l = (rows : List (List Given)) × ReadsPieces (with_more l.fn.reader l.fn.piece) rows l.reader × (l.line.items ≡ l.fn.line.items ++ flat_map copied_line rows)
