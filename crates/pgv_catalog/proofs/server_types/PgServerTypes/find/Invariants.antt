use Rattle.std.proofs.Common.{◌≡◌, drop}
use Rattle.pgv_catalog.specs.Entries.{with_name}
use Rattle.pgv_catalog.proofs.server_types.PgServerTypes.find.Given as goal

-- the types so far are others
abbrev pub invariant-loop-entry : goal.invariant-loop-entry
invariant-loop-entry l = with_name l.name l.entry-items ≡ with_name l.name (drop l.entry-index l.entry-items)
