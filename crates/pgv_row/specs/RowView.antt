-- What contracts see of a row: its columns, and a part for each.
use Rattle.std.specs.Prelude.{ℕ, nat_lt, List, length, bytes_eq, Option, Some, None, refl, if◌then◌else◌}
use Rattle.std.specs.List.{slice_get, position}
use Rattle.std.specs.Coded.{Coded, code_by, coded×, coded_ℕ, coded_list, coded_option}
use Rattle.pgv_value.specs.FrameBinary.{Part}
use Rattle.pgv_value.specs.ValueView.{Given}
use Rattle.pgv_value.specs.declared.error.CodecError.TheVariants.{NoField}
use Rattle.pgv_row.specs.ColumnView.{Column, column_code}
use Rattle.pgv_value.specs.Outcome.{Outcome, or_fail}

pub record Row : Type 0 where
  pub columns : List Column
  pub parts : List Part

-- the place of a column, where there is one
abbrev pub place_at : ℕ → List Column → Option ℕ
place_at place columns = if nat_lt place (length columns) then Some place else None

-- the place of the first column that has a name
abbrev pub place_named : List ℕ → List Column → Option ℕ
place_named name columns = position (λ c. bytes_eq c.name name) columns

-- the column at the place of an index
abbrev pub column_at : List Column → Option ℕ → Option Column
column_at columns None = None
column_at columns (Some place) = slice_get columns place

-- the column at a place, else C25
abbrev pub column_there : Row → ℕ → Outcome Column
column_there row place = or_fail (slice_get row.columns place) (NoField place)

-- the value of a column: its part, under its type and in its format
abbrev pub value_of : Option Column → Option Part → Option Given
value_of (Some c) (Some part) = Some (record { bytes = part; type_info = c.type_info; format = c.format })
value_of _ _ = None

abbrev pub value_at_column : Row → ℕ → Option Given
value_at_column row place = value_of (slice_get row.columns place) (slice_get row.parts place)

-- ---- how the logic stores it

abbrev pub row_code : Coded Row
row_code = code_by (List Column × List Part)
    (coded× (coded_list column_code) (coded_list (coded_option (coded_list coded_ℕ))))
    (λ r. (r.columns, r.parts))
    (λ p. record { columns = p.0; parts = p.1 })
    (λ _. refl)
