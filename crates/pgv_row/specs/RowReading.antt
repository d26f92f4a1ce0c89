-- What reading a row gives, and what room it leaves.
use Rattle.std.specs.Prelude.{◌≡◌, ℕ, ◌≤◌, List, length, Result, IfOk, OnOk, ⊤}
use Rattle.std.specs.Borrow.{follows_so, Fml, MutBor}
use mathlib.Core.Option.{none}
use Rattle.pgv_value.specs.declared.error.CodecError.{CodecError}
use Rattle.pgv_row.specs.ColumnView.{Column}
use Rattle.pgv_row.specs.Noting.{FindsParts}
use Rattle.pgv_row.specs.Places.{parts_at}
use Rattle.pgv_row.specs.RowParts.{body_of, capacity}
use Rattle.pgv_row.specs.RowView.{Row}
use Rattle.pgv_row.specs.declared.row.PgFoundRow.{PgFoundRow}
use Rattle.pgv_row.specs.declared.row.PgPlaces.{PgPlaces}
use Rattle.pgv_row.specs.contracts.row.PgPlaces.{the_row}

-- a row whose parts were found
abbrev pub found_row : PgFoundRow → Row
found_row found = record { columns = found.columns.now; parts = parts_at (body_of found.bytes) found.places.now }

-- What was returned is the row that the body is, under these columns, and nothing but memory keeps such a row from
-- being returned.
pub record ReadsRow {V : Type 0} (view : V → Row) (columns : List Column) (body : List ℕ) (room : ℕ) (result : Result V CodecError) : Type 0 where
  pub columns_are : IfOk result (λ v. (view v).columns ≡ columns)
  pub parts_are : FindsParts (λ v. (view v).parts) room (length columns) body result

-- When the row is gone, there is no less room than before, and after a row that was read enough for its places.
abbrev pub HasRoomThen : {V : Type 0} → MutBor PgPlaces → ℕ → Result V CodecError → Fml
HasRoomThen room width result = follows_so the_row the_row room.ghost_name none (λ _ _. ⊤) (λ then. (capacity room.now ≤ capacity then) × OnOk result (width ≤ capacity then))
