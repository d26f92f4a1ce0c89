-- What the table of types promises: laws of its rows and their OIDs.
use Rattle.std.specs.Prelude.{◌≡◌, ◌↔◌, ℕ, Option, Some}
use Rattle.pgv_types.specs.Ty.{Ty, builtin}
use Rattle.pgv_types.specs.Table.{TypeEntry, entries, entry_of, IsAmong}
use Rattle.pgv_types.specs.Facts.{built_in, HasOid32}

-- a row has this OID, and this is its type
abbrev pub IsTypeOfRow : ℕ → Ty → Type 0
IsTypeOfRow o t = (e : TypeEntry) × IsAmong e entries × (t ≡ builtin e.oid) × (e.oid ≡ o)

-- The built-in type of an OID is found iff a row has this OID, and it is the type of that row.
unfoldable pub BuiltInIsItsRow : Type 0
BuiltInIsItsRow = (o : ℕ) (t : Ty) → (built_in o ≡ Some t) ↔ IsTypeOfRow o t

-- The OID of a row finds that row.
unfoldable pub OidFindsItsRow : Type 0
OidFindsItsRow = (e : TypeEntry) → IsAmong e entries → entry_of e.oid ≡ Some e

-- The OID of each row has 32 bits.
unfoldable pub RowsHaveOid32 : Type 0
RowsHaveOid32 = (e : TypeEntry) → IsAmong e entries → HasOid32 (builtin e.oid)
