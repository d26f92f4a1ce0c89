use Rattle.std.proofs.Common.{◌≡◌, ◌++◌}
use Rattle.pgquery.specs.Copying.{fields_in_hex}
use Rattle.pgquery.proofs.copied.push_fields.Given as goal

-- the fields so far
abbrev pub invariant-loop-place : goal.invariant-loop-place
invariant-loop-place l = l.line.items ≡ l.fn.line.items ++ fields_in_hex l.row l.place
