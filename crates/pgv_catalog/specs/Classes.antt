-- What the columns of the three statements are read as.
use Rattle.std.specs.Prelude.{◌≡◌, ℕ, ℤ, pos, Bool, List, Ok, string_bytes, if◌then◌else◌}
use Rattle.std.specs.Ordering.{int_eq}
use Rattle.pgv_characters.specs.Characters.{lower_a, lower_c, lower_d, lower_e, lower_p, lower_r}
use Rattle.pgv_value.specs.Outcome.{Outcome}
use Rattle.pgv_catalog.specs.declared.rows.PgFieldRow.{PgFieldRow}
use Rattle.pgv_catalog.specs.declared.rows.PgLabelRow.{PgLabelRow}
use Rattle.pgv_catalog.specs.declared.rows.PgTypeClass.{PgTypeClass}
use Rattle.pgv_catalog.specs.declared.rows.PgTypeClass.TheVariants.{Simple, Pseudo, Domain, Composite, Array, Enum, Range}
use Rattle.pgv_catalog.specs.declared.rows.PgTypeRow.{PgTypeRow}

-- what kind of type a letter says
abbrev pub class_of : ℤ → PgTypeClass
class_of letter =
    if int_eq letter (pos lower_a) then Array else
    if int_eq letter (pos lower_c) then Composite else
    if int_eq letter (pos lower_d) then Domain else
    if int_eq letter (pos lower_e) then Enum else
    if int_eq letter (pos lower_p) then Pseudo else
    if int_eq letter (pos lower_r) then Range else Simple

-- a row of types is what its columns are read as
abbrev pub ReadsType : Outcome (ℕ × (List ℕ × (List ℕ × (Bool × (ℤ × ℕ))))) → PgTypeRow → Type 0
ReadsType read row =
    (letter : ℤ) × (read.answer ≡ Ok (row.oid.0, (string_bytes row.schema, (string_bytes row.name, (row.is_visible, (letter, row.part.0))))))
    × (row.class ≡ class_of letter)

-- a row of fields
abbrev pub ReadsField : Outcome (ℕ × (List ℕ × ℕ)) → PgFieldRow → Type 0
ReadsField read row = read.answer ≡ Ok (row.of.0, (string_bytes row.name, row.field_type.0))

-- a row of labels
abbrev pub ReadsLabel : Outcome (ℕ × List ℕ) → PgLabelRow → Type 0
ReadsLabel read row = read.answer ≡ Ok (row.of.0, string_bytes row.label)
