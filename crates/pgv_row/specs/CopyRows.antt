-- How a row of a COPY stream in binary is read straight into a tuple (PostgreSQL: "COPY", "Binary Format"): the number
-- of fields, which has to be that of the columns, or -1, the trailer, after which there is no row; then each value as
-- its frame is found, under the type and in the format of its column, null included; further columns than there are
-- fields are passed over, a frame each.
use Rattle.std.specs.Prelude.{◌⊎◌, ◌≡◌, ℕ, ◌-◌, List, length, Option, Some, None, Err, IsOkAnd, IsSomeAnd, Ok, refl}
use Rattle.std.specs.Coded.{Coded, code_by, coded×, coded_ℕ, coded_list, coded_option}
use Rattle.pgv_copy.specs.CopyBinary.{after_header, after_count, length_left}
use Rattle.pgv_value.specs.Outcome.{Outcome, Fails, in_place, done, ◌>>=◌}
use Rattle.pgv_value.specs.Parsed.{Parsed, ◌>>=◌ as ◌and_then◌}
use Rattle.pgv_row.specs.ColumnView.{Column, column_code}
use Rattle.pgv_row.specs.Errors.{codec_error}
use Rattle.pgv_row.specs.OnePass.{ColumnsLeft, passed_over}
use Rattle.pgv_row.specs.Tuples.{index_of}
use Rattle.pgv_row.specs.declared.error.ColumnError.{ColumnError}

-- the columns of a row, and the bytes that are still to be read, or none after the trailer
pub record CopyRows : Type 0 where
  pub columns : List Column
  pub left : Option (List ℕ)

abbrev pub rows_before : List Column → List ℕ → CopyRows
rows_before columns bytes = record { columns = columns; left = Some bytes }

abbrev pub rows_ended : List Column → CopyRows
rows_ended columns = record { columns = columns; left = None }

-- a reader of a stream, after its header
abbrev pub copy_opened : List Column → List ℕ → Parsed CopyRows
copy_opened columns bytes = after_header bytes and_then λ rest. Ok (rows_before columns rest)

-- how many bytes are still to be read
abbrev pub bytes_left : CopyRows → ℕ
bytes_left rows = length_left rows.left

-- ---- how rows are read

-- a row whose frames are in front: its first columns are read in one way, and its further ones are passed over
unfoldable pub frames_read : {M : Type 0} → (List Column → List ℕ → Outcome (M × ColumnsLeft)) → List Column → List ℕ → Outcome (M × List ℕ)
frames_read read columns frames = do
  first ← read columns frames
  rest ← passed_over (length columns - first.1.0) first.1.1
  done (first.0, rest)

-- a row, and the reader after it; or that there is none
unfoldable pub row_or_end : {M : Type 0} → (List Column → List ℕ → Outcome (M × ColumnsLeft)) → List Column → Option (List ℕ) → Outcome (Option M × CopyRows)
row_or_end read columns None = done (None, rows_ended columns)
row_or_end read columns (Some frames) = do
  row ← frames_read read columns frames
  done (Some row.0, rows_before columns row.1)

-- the next row of these bytes, or of none
unfoldable pub row_from : {M : Type 0} → (List Column → List ℕ → Outcome (M × ColumnsLeft)) → List Column → Option (List ℕ) → Outcome (Option M × CopyRows)
row_from read columns None = done (None, rows_ended columns)
row_from read columns (Some bytes) = do
  frames ← in_place (after_count (length columns) bytes)
  row_or_end read columns frames

-- the next row, or none at the trailer and after it
abbrev pub copy_row : {M : Type 0} → (List Column → List ℕ → Outcome (M × ColumnsLeft)) → CopyRows → Outcome (Option M × CopyRows)
copy_row read rows = row_from read rows.columns rows.left

-- ---- which column is refused

-- the error is that of one of the first columns, or of a further one
abbrev pub AreFramesRefused : {M : Type 0} → (List Column → List ℕ → Outcome (M × ColumnsLeft)) → (List Column → List ℕ → ColumnError ℕ → Type 0) → List Column → List ℕ → ColumnError ℕ → Type 0
AreFramesRefused read refused columns frames e =
    refused columns frames e ⊎ IsOkAnd (read columns frames).answer (λ first. Fails (codec_error e) (passed_over (length columns - first.1.0) first.1.1))

-- it is that of the number of fields, or of a column
abbrev pub IsCopyRowRefused : {M : Type 0} → (List Column → List ℕ → Outcome (M × ColumnsLeft)) → (List Column → List ℕ → ColumnError ℕ → Type 0) → CopyRows → ColumnError ℕ → Type 0
IsCopyRowRefused read refused rows e =
    IsSomeAnd rows.left (λ bytes.
    ((index_of e ≡ 0) × (after_count (length rows.columns) bytes ≡ Err (codec_error e)))
    ⊎ IsOkAnd (after_count (length rows.columns) bytes) (λ found. IsSomeAnd found (λ frames. AreFramesRefused read refused rows.columns frames e)))

-- ---- how the logic stores it

abbrev pub copy_rows_code : Coded CopyRows
copy_rows_code = code_by (List Column × Option (List ℕ))
    (coded× (coded_list column_code) (coded_option (coded_list coded_ℕ)))
    (λ c. (c.columns, c.left))
    (λ p. record { columns = p.0; left = p.1 })
    (λ _. refl)
