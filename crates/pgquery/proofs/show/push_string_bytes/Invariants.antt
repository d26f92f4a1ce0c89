use Rattle.std.proofs.Common.{◌≡◌, ◌++◌, take}
use Rattle.pgquery.specs.RowLines.{json_escaped}
use Rattle.pgquery.proofs.show.push_string_bytes.Given as goal

abbrev pub invariant-loop-byte : goal.invariant-loop-byte
invariant-loop-byte l = l.line.items ≡ l.fn.line.items ++ json_escaped (take l.byte-index l.text)
