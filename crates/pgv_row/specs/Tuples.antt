-- What is read from the columns of a row one after another, from a place on. The first column that is refused refuses
-- them all.
use Rattle.std.specs.Prelude.{◌≡◌, ◌⊎◌, ℕ, ◌+◌, Bool, Result, Ok, Err, IsOk}
use Rattle.pgv_types.specs.Ty.{Ty}
use Rattle.pgv_value.specs.ValueView.{Given}
use Rattle.pgv_value.specs.declared.error.CodecError.TheVariants.{NoField}
use Rattle.pgv_row.specs.declared.error.ColumnError.{ColumnError}
use Rattle.pgv_row.specs.declared.error.ColumnError.TheVariants.{NotFound, Decode}
use Rattle.pgv_row.specs.Errors.{codec_error}
use Rattle.pgv_value.specs.Outcome.{Outcome, Fails, or_fail, done, ◌>>=◌}
use Rattle.pgv_row.specs.RowView.{Row, place_at}
use Rattle.pgv_row.specs.RowValues.{column_value}

-- what was returned, seen by view, is the outcome; or the error is the outcome's by its number, and one of these
abbrev pub GivesFields : {I V M : Type 0} → (V → M) → Outcome M → (ColumnError I → Type 0) → Result V (ColumnError I) → Type 0
GivesFields view o Refused (Ok v) = o.answer ≡ Ok (view v)
GivesFields view o Refused (Err e) = Fails (codec_error e) o × Refused e

-- the same of the column at a place, and of the place after it
abbrev pub GivesField : {I V M : Type 0} → (V → M) → Outcome M → (ColumnError I → Type 0) → ℕ → Result (V × ℕ) (ColumnError I) → Type 0
GivesField view o Refused place (Ok v) = (o.answer ≡ Ok (view v.0)) × (v.1 ≡ place + 1)
GivesField view o Refused place (Err e) = Fails (codec_error e) o × Refused e

-- what was asked for
abbrev pub index_of : {I : Type 0} → ColumnError I → I
index_of (NotFound index place) = index
index_of (Decode index place source) = index

-- the column at a place
unfoldable pub column_parse : {M : Type 0} → (Ty → Bool) → (Given → Outcome M) → Row → ℕ → Outcome M
column_parse accepts parse row place = do
  there ← or_fail (place_at place row.columns) (NoField place)
  column_value accepts parse row there

-- the column at a place, and those after it
unfoldable pub columns_parse : {M N : Type 0} → (Row → ℕ → Outcome M) → (Row → ℕ → Outcome N) → Row → ℕ → Outcome (M × N)
columns_parse first more row place = do
  m ← first row place
  n ← more row (place + 1)
  done (m, n)

-- the error is that of the column at a place
abbrev pub IsRefused : {M : Type 0} → (Row → ℕ → Outcome M) → Row → ℕ → ColumnError ℕ → Type 0
IsRefused parse row place e = (index_of e ≡ place) × Fails (codec_error e) (parse row place)

-- it is that of the column at a place, or of one after it, where this one is read
abbrev pub IsFirstRefused : {M : Type 0} → (Row → ℕ → Outcome M) → (Row → ℕ → ColumnError ℕ → Type 0) → Row → ℕ → ColumnError ℕ → Type 0
IsFirstRefused first more row place e = IsRefused first row place e ⊎ (IsOk (first row place).answer × more row (place + 1) e)
