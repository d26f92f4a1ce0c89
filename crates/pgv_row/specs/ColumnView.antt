-- What contracts see of a column.
use Rattle.std.specs.Prelude.{ℕ, ℤ, List, refl}
use Rattle.std.specs.Coded.{Coded, code_by, coded×, coded_ℕ, coded_ℤ, coded_list}
use Rattle.pgv_types.specs.Ty.{Ty, ty_code}
use Rattle.pgv_value.specs.ValueView.{format_code}
use Rattle.pgv_value.specs.declared.value.PgValueFormat.{PgValueFormat}

-- as a description has it, and its type
pub record Column : Type 0 where
  pub name : List ℕ
  pub table : ℕ
  pub attribute : ℤ
  pub type_oid : ℕ
  pub size : ℤ
  pub modifier : ℤ
  pub format : PgValueFormat
  pub type_info : Ty

-- ---- how the logic stores it

abbrev pub column_code : Coded Column
column_code = code_by (List ℕ × (ℕ × (ℤ × (ℕ × (ℤ × (ℤ × (PgValueFormat × Ty)))))))
    (coded× (coded_list coded_ℕ) (coded× coded_ℕ (coded× coded_ℤ (coded× coded_ℕ (coded× coded_ℤ (coded× coded_ℤ (coded× format_code ty_code)))))))
    (λ c. (c.name, (c.table, (c.attribute, (c.type_oid, (c.size, (c.modifier, (c.format, c.type_info))))))))
    (λ p. record { name = p.0; table = p.1.0; attribute = p.1.1.0; type_oid = p.1.1.1.0; size = p.1.1.1.1.0; modifier = p.1.1.1.1.1.0; format = p.1.1.1.1.1.1.0; type_info = p.1.1.1.1.1.1.1 })
    (λ _. refl)
