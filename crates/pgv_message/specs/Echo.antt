-- The law that ties both ends: what was added as an argument is the parameter at its place, and a server that sends the
-- parameters back as a row sends a DataRow, whose column at that place is read as what the value keeps, under each type
-- that fits.
use Rattle.std.specs.Prelude.{◌≡◌, ℕ, Bool, true, List, [], length, Ok, Some}
use Rattle.std.specs.List.{slice_get}
use Rattle.pgv_types.specs.Ty.{Ty}
use Rattle.pgv_types.specs.declared.oid.Oid.{Oid}
use Rattle.pgv_value.specs.FrameBinary.{Part, row_bytes}
use Rattle.pgv_value.specs.Outcome.{Outcome}
use Rattle.pgv_value.specs.ValueView.{Given as Value}
use Rattle.pgv_value.specs.declared.value.PgValueFormat.{PgValueFormat}
use Rattle.pgv_value.specs.declared.value.PgValueFormat.TheVariants.{Binary}
use Rattle.pgv_codec.specs.Back.{AreOids}
use Rattle.pgv_codec.specs.Encoding.{Encoding, frame}
use Rattle.pgv_row.specs.ColumnView.{Column}
use Rattle.pgv_row.specs.DataRow.{IsDataRow}
use Rattle.pgv_row.specs.RowValues.{column_value}
use Rattle.pgv_wire.specs.Arguments.{Argument, Framed}
use Rattle.pgv_wire.specs.Given.{LastGiven, given_in}
use Rattle.pgv_wire.specs.History.{Call, added_in, after_calls, last_filling}
use Rattle.pgv_message.specs.Frames.{bind_of}
use Rattle.pgv_message.specs.Messages.{bind}

module _ {A M : Type 0} (encoding : A → Encoding) (accepts : Ty → Bool) (parse : Value → Outcome M) (kept : A → M) (fits : A → Ty → List Oid → Type 0) where
  -- The argument that was added for a value at a place comes back from the column at that place of a row of these
  -- parts.
  abbrev pub ColumnsComeBack : List Call → List Part → Type 0
  ColumnsComeBack calls parts =
      (columns : List Column) (c : Column) (place : ℕ) (a : Framed) (g : LastGiven) (v : A) →
      slice_get (added_in calls) place ≡ Some a → (frame (encoding v)).answer ≡ Ok a.1 → slice_get (given_in (last_filling calls)) place ≡ Some g →
      slice_get columns place ≡ Some c → c.format ≡ Binary → accepts c.type_info ≡ true → fits v c.type_info g.oids →
      (column_value accepts parse (record { columns = columns; parts = parts }) place).answer ≡ Ok (kept v)

  -- What Bind sends are parts, one for each argument; as a row they are a DataRow, and each is read back from it.
  pub record Echoes (calls : List Call) (portal statement sent : List ℕ) (results : List PgValueFormat) : Type 0 where
    pub parts : List Part
    pub sent_is : sent ≡ bind_of portal statement parts results
    pub as_many : length parts ≡ length (added_in calls)
    pub row : IsDataRow (length parts) (row_bytes parts) parts
    pub come_back : ColumnsComeBack calls parts

  -- Whatever was added to the arguments, refused and filled, in any order.
  abbrev pub ComeBack : List Argument → Type 0
  ComeBack arguments =
      (calls : List Call) (portal statement sent : List ℕ) (results : List PgValueFormat) →
      arguments ≡ after_calls [] calls → AreOids (last_filling calls).oids → bind portal statement arguments results ≡ Ok sent →
      Echoes calls portal statement sent results
