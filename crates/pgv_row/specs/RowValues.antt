-- What is read from a value of a row. Null is read whatever the type of its column is; any other value only where the
-- column's type is one that the values of the Rust type are read under, else it is C27. There is no value, C25, where
-- the row has no such column. A custom type is copied, and so may ask for memory.
use Rattle.std.specs.Prelude.{ℕ, Bool, ◌||◌, not, is_none}
use Rattle.pgv_types.specs.Ty.{Ty}
use Rattle.pgv_types.specs.Facts.{is_custom}
use Rattle.pgv_value.specs.ValueView.{Given}
use Rattle.pgv_value.specs.declared.error.CodecError.TheVariants.{NoField, MismatchedTypes}
use Rattle.pgv_value.specs.Outcome.{Outcome, or_fail, fails_if, allocates, done, ◌>>=◌, ◌>>◌}
use Rattle.pgv_row.specs.RowView.{Row, value_at_column}

-- whether a value may be read
abbrev pub may_read : (Ty → Bool) → Given → Bool
may_read accepts v = is_none v.bytes || accepts v.type_info

-- the value of the column at a place
unfoldable pub raw_value : Row → ℕ → Outcome Given
raw_value row place = do
  value ← or_fail (value_at_column row place) (NoField place)
  allocates (is_custom value.type_info)
  done value

-- what is read from it, whatever the column's type is
unfoldable pub unchecked_value : {M : Type 0} → (Given → Outcome M) → Row → ℕ → Outcome M
unchecked_value parse row place = do
  value ← raw_value row place
  parse value

-- what is read from it under the column's type
unfoldable pub column_value : {M : Type 0} → (Ty → Bool) → (Given → Outcome M) → Row → ℕ → Outcome M
column_value accepts parse row place = do
  value ← raw_value row place
  fails_if (not (may_read accepts value)) MismatchedTypes
  parse value
