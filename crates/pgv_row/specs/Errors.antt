-- Why a column was not read, and what a call gives that is asked for a column by an index.
use Rattle.std.specs.Prelude.{◌≡◌, ℕ, List, Option, Some, None, Result, Ok, Err}
use Rattle.pgv_value.specs.declared.error.CodecError.{CodecError}
use Rattle.pgv_value.specs.declared.error.CodecError.TheVariants.{NoField as NoSuchField}
use Rattle.pgv_row.specs.ColumnView.{Column}
use Rattle.pgv_value.specs.Outcome.{Outcome, Fails}
use Rattle.pgv_row.specs.RowView.{Row}
use Rattle.pgv_row.specs.declared.error.ColumnError.{ColumnError}
use Rattle.pgv_row.specs.declared.error.ColumnError.TheVariants.{NotFound, Decode}

-- the refusal by its number: a column that isn't there is C25
abbrev pub codec_error : {I : Type 0} → ColumnError I → CodecError
codec_error (NotFound index place) = NoSuchField place
codec_error (Decode index place source) = source

-- The outcome at the place of an index, or an error that names the index: there is no such column, or the outcome
-- fails.
abbrev pub GivesAt : {I V M : Type 0} → (V → M) → I → Option ℕ → ℕ → (ℕ → Outcome M) → Result V (ColumnError I) → Type 0
GivesAt view index (Some place) missing outcome (Ok v) = (outcome place).answer ≡ Ok (view v)
GivesAt view index (Some place) missing outcome (Err (Decode i p source)) = (i ≡ index) × (p ≡ place) × Fails source (outcome place)
GivesAt view index (Some place) missing outcome (Err (NotFound i p)) = ⊥
GivesAt view index None missing outcome (Ok v) = ⊥
GivesAt view index None missing outcome (Err (Decode i p source)) = ⊥
GivesAt view index None missing outcome (Err (NotFound i p)) = (i ≡ index) × (p ≡ missing)

-- the same of a column of a row, where the index says its place and what a refusal has for a place
abbrev pub GivesColumn : {I V M : Type 0} → (V → M) → (I → List Column → Option ℕ) → (I → List Column → ℕ) → I → Row → (Row → ℕ → Outcome M) → Result V (ColumnError I) → Type 0
GivesColumn view place missing index row outcome result = GivesAt view index (place index row.columns) (missing index row.columns) (outcome row) result
