-- What contracts see of the steps of the line `copy`.
use Rattle.std.specs.Prelude.{◌≡◌, List, map, None, Some, string_bytes}
use Rattle.pgv_types.specs.Ty.{Ty}
use Rattle.pgv_value.specs.ValueView.{Given}
use Rattle.pgv_value.specs.FrameBinary.{Part}
use Rattle.pgv_value.specs.declared.value.PgValueFormat.TheVariants.{Binary as InBinary}
use Rattle.pgv_session.specs.Session.{field_shown, row_shown, row_refused, RefusedAs}
use Rattle.pgv_session.specs.Types.{LineType, row_of}
use Rattle.pgv_session.specs.declared.type_name.TypeName.{TypeName}
use Rattle.pgv_session.specs.declared.value.Told.{Told}
use Rattle.pgv_session.specs.declared.value.Told.TheVariants.{Said, Refused}

-- the rows of TYPEs, and their types
abbrev pub rows_of : List TypeName → List LineType
rows_of columns = map row_of columns

abbrev pub infos : List LineType → List Ty
infos columns = map (λ c. c.info) columns

-- what a field is shown as, or why it is not
abbrev pub ShowsField : LineType → Part → Told → Type 0
ShowsField row part (Said text) = field_shown row part ≡ Some (string_bytes text)
ShowsField row part (Refused text) = (field_shown row part ≡ None) × RefusedAs (row.refusal InBinary part) (string_bytes text)

-- the same of a row
abbrev pub ShowsRow : List LineType → List Given → Told → Type 0
ShowsRow columns row (Said text) = row_shown columns row ≡ Some (string_bytes text)
ShowsRow columns row (Refused text) = (row_shown columns row ≡ None) × RefusedAs (row_refused columns row) (string_bytes text)
