use Rattle.std.proofs.Common.{◌≡◌, drop}
use Rattle.pgv_catalog.specs.Entries.{with_element}
use Rattle.pgv_catalog.proofs.server_types.PgServerTypes.array_of.Given as goal

-- the types so far are others
abbrev pub invariant-loop-entry : goal.invariant-loop-entry
invariant-loop-entry l = with_element l.element.0 l.entry-items ≡ with_element l.element.0 (drop l.entry-index l.entry-items)
