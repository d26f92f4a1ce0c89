use Rattle.std.proofs.Common.{◌≡◌, drop}
use Rattle.pgv_catalog.specs.Entries.{type_with_oid}
use Rattle.pgv_catalog.proofs.server_types.PgServerTypesPgCatalog.type_of.Given as goal

-- the types so far are others
abbrev pub invariant-loop-entry : goal.invariant-loop-entry
invariant-loop-entry l = type_with_oid l.oid.0 l.entry-items ≡ type_with_oid l.oid.0 (drop l.entry-index l.entry-items)
