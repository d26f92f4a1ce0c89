use Rattle.std.proofs.Common.{◌≡◌}
use Rattle.std.specs.Prelude.{replicate}
use Rattle.pgv_types.specs.Ty.{by_oid}
use Rattle.pgquery.proofs.copied.reader_of.Given as goal

-- the types so far
abbrev pub invariant-loop : goal.invariant-loop
invariant-loop l = l.types.items ≡ replicate l.counter (by_oid 0)
