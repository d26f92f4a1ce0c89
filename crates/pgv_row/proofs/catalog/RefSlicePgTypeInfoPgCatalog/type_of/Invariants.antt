use Rattle.std.proofs.Common.{◌≡◌, drop}
use Rattle.pgv_row.specs.Catalog.{with_oid}
use Rattle.pgv_row.proofs.catalog.RefSlicePgTypeInfoPgCatalog.type_of.Given as goal

-- the types so far don't have it
abbrev pub invariant-loop-type_info : goal.invariant-loop-type_info
invariant-loop-type_info l = with_oid l.oid.0 l.types ≡ with_oid l.oid.0 (drop l.type_info-index l.types)
