-- A value as it is in a row (PostgreSQL: "Message Formats", DataRow; "Formats and Format Codes").
use Rattle.std.specs.Prelude.{◌≡◌, ℕ, List, Option, Bool, true, false, refl}
use Rattle.std.specs.Coded.{Coded, code_by, coded×, coded_ℕ, coded_list, coded_option, coded_bool}
use Rattle.pgv_types.specs.Ty.{Ty, ty_code}
use Rattle.pgv_value.specs.declared.value.PgValueFormat.{PgValueFormat}
use Rattle.pgv_value.specs.declared.value.PgValueFormat.TheVariants.{Text, Binary}

-- null or bytes, their type and their format
pub record Given : Type 0 where
  pub bytes : Option (List ℕ)
  pub type_info : Ty
  pub format : PgValueFormat

abbrev pub given : Ty → PgValueFormat → Option (List ℕ) → Given
given t format bytes = record { bytes = bytes; type_info = t; format = format }

-- ---- how the logic stores it

abbrev pub is_binary : PgValueFormat → Bool
is_binary Text = false
is_binary Binary = true

abbrev pub format_of : Bool → PgValueFormat
format_of false = Text
format_of true = Binary

pub format_of-is_binary : (f : PgValueFormat) → format_of (is_binary f) ≡ f
format_of-is_binary Text = refl
format_of-is_binary Binary = refl

abbrev pub format_code : Coded PgValueFormat
format_code = code_by Bool coded_bool is_binary format_of format_of-is_binary

abbrev pub given_code : Coded Given
given_code = code_by (Option (List ℕ) × (Ty × PgValueFormat))
    (coded× (coded_option (coded_list coded_ℕ)) (coded× ty_code format_code))
    (λ g. (g.bytes, (g.type_info, g.format)))
    (λ p. record { bytes = p.0; type_info = p.1.0; format = p.1.1 })
    (λ _. refl)
