-- How the body of a DataRow is read in one pass. The columns are tested before, once for all rows: that they are there,
-- and that each field is read under its column's type (`Fit`). Then each value is read as its frame is found, under the
-- type and in the format of its column, null included (`one_pass`): a number of columns that isn't there is C15,
-- another than the description's C12, a frame that isn't there C15 or C16, and bytes after the last frame C17. Further
-- columns than there are fields are passed over, a frame each.
use Rattle.std.specs.Prelude.{◌≡◌, ◌⊎◌, ◌≤◌, ℕ, ◌+◌, ◌-◌, ◌==◌, not, Bool, List, [], length, drop, slice_get, Option, Some, None, Result, Ok, Err, IsOkAnd, ⊤, if◌then◌else◌}
use Rattle.pgv_types.specs.Ty.{Ty}
use Rattle.pgv_types.specs.Facts.{is_custom}
use Rattle.pgv_value.specs.FrameBinary.{Part}
use Rattle.pgv_value.specs.FrameLaws.{AreBytes}
use Rattle.pgv_value.specs.Fronts.{one_part}
use Rattle.pgv_value.specs.Outcome.{Outcome, Fails, in_place, or_fail, fails_if, allocates, done, ◌>>=◌, ◌>>◌}
use Rattle.pgv_value.specs.Several.{several}
use Rattle.pgv_value.specs.ValueView.{Given, given}
use Rattle.pgv_value.specs.declared.error.CodecError.TheVariants.{NoField, MismatchedTypes, WrongLength}
use Rattle.pgv_row.specs.ColumnView.{Column}
use Rattle.pgv_row.specs.DataRow.{frames_front, IsDataRow}
use Rattle.pgv_row.specs.Errors.{codec_error}
use Rattle.pgv_row.specs.RowView.{Row}
use Rattle.pgv_row.specs.Tuples.{index_of}
use Rattle.pgv_row.specs.declared.error.ColumnError.{ColumnError}
use Rattle.pgv_row.specs.declared.error.ColumnError.TheVariants.{NotFound, Decode}

-- ---- the types of columns

-- columns fit, or why they don't
abbrev pub Fit : Type 0
Fit = Result ⊤ (ColumnError ℕ)

-- the result is that they fit, or exactly why they don't
abbrev pub Fits : {V : Type 0} → Fit → Result V (ColumnError ℕ) → Type 0
Fits fit (Ok v) = fit ≡ Ok tt
Fits fit (Err e) = fit ≡ Err e

-- the same of the column at a place, and the place after it
abbrev pub FitsAt : Fit → ℕ → Result ℕ (ColumnError ℕ) → Type 0
FitsAt fit place (Ok next) = (fit ≡ Ok tt) × (next ≡ place + 1)
FitsAt fit place (Err e) = fit ≡ Err e

abbrev pub type_fits : (Ty → Bool) → ℕ → Option Column → Fit
type_fits accepts place None = Err (NotFound place place)
type_fits accepts place (Some c) = if accepts c.type_info then Ok tt else Err (Decode place place MismatchedTypes)

-- the column at a place
unfoldable pub column_fits : (Ty → Bool) → List Column → ℕ → Fit
column_fits accepts columns place = type_fits accepts place (slice_get columns place)

abbrev pub both_fit : Fit → Fit → Fit
both_fit (Ok _) more = more
both_fit (Err e) more = Err e

-- the column at a place, and those after it
unfoldable pub columns_fit : (List Column → ℕ → Fit) → (List Column → ℕ → Fit) → List Column → ℕ → Fit
columns_fit first more columns place = both_fit (first columns place) (more columns (place + 1))

-- ---- how values are read

-- what is left after some columns: the place of the next one, and the bytes from its frame on
abbrev pub ColumnsLeft : Type 0
ColumnsLeft = ℕ × List ℕ

-- what is read from a part under the type and in the format of its column
unfoldable pub value_of_part : {M : Type 0} → (Given → Outcome M) → Column → Part → Outcome M
value_of_part parse c part = do
  allocates (is_custom c.type_info)
  parse (given c.type_info c.format part)

-- the value of a column whose frame is in front, and the rest
unfoldable pub value_in_front : {M : Type 0} → (Given → Outcome M) → Column → List ℕ → Outcome (M × List ℕ)
value_in_front parse c bytes = do
  frame ← one_part bytes
  m ← value_of_part parse c frame.0
  done (m, frame.1)

-- the value of the column at a place
unfoldable pub column_in_front : {M : Type 0} → (Given → Outcome M) → List Column → ℕ → List ℕ → Outcome (M × ColumnsLeft)
column_in_front parse columns place bytes = do
  c ← or_fail (slice_get columns place) (NoField place)
  value ← value_in_front parse c bytes
  done (value.0, (place + 1, value.1))

-- the column at a place, and those after it
unfoldable pub columns_in_front : {M N : Type 0} → (List Column → ℕ → List ℕ → Outcome (M × ColumnsLeft)) → (List Column → ℕ → List ℕ → Outcome (N × ColumnsLeft)) → List Column → ℕ → List ℕ → Outcome ((M × N) × ColumnsLeft)
columns_in_front first more columns place bytes = do
  m ← first columns place bytes
  n ← more columns m.1.0 m.1.1
  done ((m.0, n.0), n.1)

-- the rest after as many frames as n
unfoldable pub passed_over : ℕ → List ℕ → Outcome (List ℕ)
passed_over n bytes = do
  frames ← several one_part n bytes
  done frames.1

-- a row, whose first columns are read in one way and whose further ones are passed over
unfoldable pub one_pass : {M : Type 0} → (List Column → List ℕ → Outcome (M × ColumnsLeft)) → List Column → List ℕ → Outcome M
one_pass read columns body = do
  frames ← in_place (frames_front (length columns) body)
  first ← read columns frames
  rest ← passed_over (length columns - first.1.0) first.1.1
  fails_if (not (length rest == 0)) (WrongLength (length body))
  done first.0

-- ---- which column is refused

-- the error is that of the column at a place, whose frame is in front
abbrev pub IsRefusedInFront : {M : Type 0} → (List Column → ℕ → List ℕ → Outcome (M × ColumnsLeft)) → List Column → ℕ → List ℕ → ColumnError ℕ → Type 0
IsRefusedInFront read columns place bytes e = (index_of e ≡ place) × Fails (codec_error e) (read columns place bytes)

-- it is that, or of a column after it, where this one is read
abbrev pub IsFirstInFront : {M : Type 0} → (List Column → ℕ → List ℕ → Outcome (M × ColumnsLeft)) → (List Column → ℕ → List ℕ → ColumnError ℕ → Type 0) → List Column → ℕ → List ℕ → ColumnError ℕ → Type 0
IsFirstInFront first more columns place bytes e = IsRefusedInFront first columns place bytes e ⊎ IsOkAnd (first columns place bytes).answer (λ x. more columns x.1.0 x.1.1 e)

-- it is that of a further column from a place on, or of the bytes after the last one
abbrev pub IsRestRefused : ℕ → ℕ → ColumnsLeft → ColumnError ℕ → Type 0
IsRestRefused width size left e =
    ((left.0 ≤ index_of e) × Fails (codec_error e) (passed_over (width - left.0) left.1)) ⊎ ((index_of e ≡ width) × IsOkAnd (passed_over (width - left.0) left.1).answer (λ rest. Fails (codec_error e) (fails_if (not (length rest == 0)) (WrongLength size))))

-- it is that of the number of columns, of one of the first columns, or of what comes after them
abbrev pub IsRowRefused : {M : Type 0} → (List Column → List ℕ → Outcome (M × ColumnsLeft)) → (List Column → List ℕ → ColumnError ℕ → Type 0) → List Column → List ℕ → ColumnError ℕ → Type 0
IsRowRefused read refused columns body e =
    ((index_of e ≡ 0) × (frames_front (length columns) body ≡ Err (codec_error e))) ⊎ IsOkAnd (frames_front (length columns) body) (λ frames. refused columns frames e ⊎ IsOkAnd (read columns frames).answer (λ first. IsRestRefused (length columns) (length body) first.1 e))

-- ---- what is read from a DataRow

-- the body is a DataRow of these columns
abbrev pub IsRowOf : List Column → List ℕ → Type 0
IsRowOf columns body = (parts : List Part) × IsDataRow (length columns) body parts

-- ---- the law of columns that are read in one pass

-- bytes are the frames of a row's parts from a place on
abbrev pub AreFramesFrom : Row → ℕ → List ℕ → Type 0
AreFramesFrom row place bytes = (several one_part (length row.columns - place) bytes).answer ≡ Ok (drop place row.parts, [])

-- Of the frames of a row from a place on the same is read as of the row, and the same column is refused, where the
-- columns fit; and what is read from bytes whose rest is frames is read from frames.
pub record InOnePass {M : Type 0} (place : ℕ) (fits : List Column → Fit) (parse : Row → Outcome M) (refused : Row → ColumnError ℕ → Type 0) (read : List Column → List ℕ → Outcome (M × ColumnsLeft)) (refused_in_front : List Column → List ℕ → ColumnError ℕ → Type 0) : Type 0 where
  pub as_row : (row : Row) (bytes : List ℕ) → fits row.columns ≡ Ok tt → AreFramesFrom row place bytes →
      (left : ColumnsLeft) × AreFramesFrom row left.0 left.1 × (read row.columns bytes ≡ (parse row >>= λ m. done (m, left)))
  pub refused_as_row : (row : Row) (bytes : List ℕ) (e : ColumnError ℕ) → fits row.columns ≡ Ok tt → AreFramesFrom row place bytes → refused_in_front row.columns bytes e → refused row e
  pub of_frames : (columns : List Column) (bytes : List ℕ) (m : M) (left : ColumnsLeft) (further : List Part) → (read columns bytes).answer ≡ Ok (m, left) →
      (several one_part (length columns - left.0) left.1).answer ≡ Ok (further, []) → (parts : List Part) × ((several one_part (length columns - place) bytes).answer ≡ Ok (parts, []))

-- Only a DataRow is read in one pass. Where the columns fit, the same is read from it as from the row of its parts, and
-- the same column is refused.
pub record RowsInOnePass {M : Type 0} (fits : List Column → Fit) (parse : Row → Outcome M) (refused : Row → ColumnError ℕ → Type 0) (read : List Column → List ℕ → Outcome (M × ColumnsLeft)) (refused_in_front : List Column → List ℕ → ColumnError ℕ → Type 0) : Type 0 where
  pub of_row : (columns : List Column) (body : List ℕ) (m : M) → AreBytes body → (one_pass read columns body).answer ≡ Ok m → IsRowOf columns body
  pub as_row : (columns : List Column) (parts : List Part) (body : List ℕ) → AreBytes body → fits columns ≡ Ok tt → IsDataRow (length columns) body parts → one_pass read columns body ≡ parse (record { columns = columns; parts = parts })
  pub refused_as_row : (columns : List Column) (parts : List Part) (body : List ℕ) (e : ColumnError ℕ) → AreBytes body → fits columns ≡ Ok tt → IsDataRow (length columns) body parts → IsRowRefused read refused_in_front columns body e →
      refused (record { columns = columns; parts = parts }) e

unfoldable pub ReadsRows : {M : Type 0} → (List Column → Fit) → (Row → Outcome M) → (Row → ColumnError ℕ → Type 0) → (List Column → List ℕ → Outcome (M × ColumnsLeft)) → (List Column → List ℕ → ColumnError ℕ → Type 0) → Type 0
ReadsRows fits parse refused read refused_in_front = RowsInOnePass fits parse refused read refused_in_front
