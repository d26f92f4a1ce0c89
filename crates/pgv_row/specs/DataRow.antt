-- The body of a DataRow (PostgreSQL: "Message Formats", DataRow): the number of columns in two bytes, unsigned, and for
-- each a frame; nothing comes after them. A body is a row (`IsDataRow`) of as many columns as the description has. How
-- it is read (`data_row`): a number of columns that isn't there is C15, another than the description's C12, a frame
-- that isn't there C15 or C16, and bytes after the last frame C17. Memory is asked for only where the room for places
-- is smaller than the row.
use Rattle.std.specs.Prelude.{◌≡◌, ◌↔◌, ℕ, ◌<◌, ◌^◌, ◌==◌, nat_lt, not, List, length, Ok, Err, if◌then◌else◌}
use Rattle.std.specs.List.{AllByRecursion}
use Rattle.pgv_value.specs.FrameBinary.{Part, row_bytes, FitsLength}
use Rattle.pgv_value.specs.FrameLaws.{AreBytes}
use Rattle.pgv_value.specs.declared.error.CodecError.TheVariants.{FieldCount, WrongLength}
use Rattle.pgv_value.specs.Fronts.{u16_front, one_part}
use Rattle.pgv_value.specs.Outcome.{Outcome, in_place, allocates, fails_if, done, ◌>>=◌, ◌>>◌}
use Rattle.pgv_value.specs.Parsed.{Parsed, ◌>>=◌ as ◌and_then◌}
use Rattle.pgv_value.specs.Several.{several}

-- ---- what a body is

-- the number of columns, and a frame for each
pub record IsDataRow (width : ℕ) (bytes : List ℕ) (row : List Part) : Type 0 where
  pub whole : bytes ≡ row_bytes row
  pub wide : length row ≡ width
  pub width_fits : width < 2 ^ 16
  pub each : AllByRecursion FitsLength row

-- ---- how it is read

-- the frames of a row, where there are as many as columns, else C12
unfoldable pub frames_front : ℕ → List ℕ → Parsed (List ℕ)
frames_front width bytes = u16_front bytes and_then λ count. if count.0 == width then Ok count.1 else Err FieldCount

-- the parts of a row, where there is room for as many places
unfoldable pub data_row : ℕ → ℕ → List ℕ → Outcome (List Part)
data_row room width bytes = do
  frames ← in_place (frames_front width bytes)
  allocates (nat_lt room width)
  row ← several one_part width frames
  fails_if (not (length row.1 == 0)) (WrongLength (length bytes))
  done row.0

-- ---- laws

-- A body is read as a row exactly where it is that row.
unfoldable pub DataRowIsRead : Type 0
DataRowIsRead = (room width : ℕ) (bytes : List ℕ) (row : List Part) → AreBytes bytes → ((data_row room width bytes).answer ≡ Ok row) ↔ IsDataRow width bytes row
