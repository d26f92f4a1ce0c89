-- The rows of the running table, as entries.
use Rattle.std.specs.Prelude.{◌≡◌, ℕ, Option, Some, None}
use Rattle.pgv_types.specs.declared.builtin.Row.{Row}
use Rattle.pgv_types.specs.declared.builtin.RowKind.{RowKind}
use Rattle.pgv_types.specs.declared.builtin.RowKind.TheVariants.{Simple, Pseudo, Array, Range}
use Rattle.pgv_types.specs.Shown.{oid_of_variant}
use Rattle.pgv_types.specs.Table.{TypeEntry, RowKind as EntryKind, a_simple, a_pseudo, range_of, entry_of}

abbrev pub element_in_row : RowKind → Option ℕ
element_in_row Simple = None
element_in_row Pseudo = None
element_in_row (Array element) = Some (oid_of_variant element)
element_in_row (Range element) = None

abbrev pub kind_in_row : RowKind → EntryKind
kind_in_row Simple = a_simple
kind_in_row Pseudo = a_pseudo
kind_in_row (Array element) = a_simple
kind_in_row (Range element) = range_of (oid_of_variant element)

abbrev pub entry_in_row : Row → TypeEntry
entry_in_row r = record { oid = r.oid.0; name = r.name.now; display = r.display.now; element = element_in_row r.kind; kind = kind_in_row r.kind }

-- The row has this OID, and is its entry.
pub record IsTableRow (oid : ℕ) (r : Row) : Type 0 where
  pub number : r.oid.0 ≡ oid
  pub entry : entry_of oid ≡ Some (entry_in_row r)
