use Rattle.std.proofs.Common.{[]}
use Rattle.pgv_catalog.specs.Rows.{AreMade, unmade}
use Rattle.pgv_catalog.proofs.resolve.make_all.Given as goal

-- the types so far are made of rows
abbrev pub invariant-loop-known : goal.invariant-loop-known
invariant-loop-known l = AreMade l.rows [] l.known

abbrev pub decreases-loop-known : goal.decreases-loop-known
decreases-loop-known l = unmade l.known l.rows.types.items
