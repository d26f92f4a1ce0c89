-- Values by their format, where reading them may ask for memory. Null is C13.
use Rattle.std.specs.Prelude.{ℕ, List, Option, Some, None}
use Rattle.pgv_value.specs.Outcome.{Outcome, in_place, fails, ◌>>=◌}
use Rattle.pgv_value.specs.Text.{utf8_part}
use Rattle.pgv_value.specs.ValueView.{Given}
use Rattle.pgv_value.specs.declared.error.CodecError.TheVariants.{UnexpectedNull, TextUnsupported}
use Rattle.pgv_value.specs.declared.value.PgValueFormat.{PgValueFormat}
use Rattle.pgv_value.specs.declared.value.PgValueFormat.TheVariants.{Text, Binary}

abbrev pub outcome_by_format : {M : Type 0} → (List ℕ → Outcome M) → (List ℕ → Outcome M) → PgValueFormat → Option (List ℕ) → Outcome M
outcome_by_format binary text format None = fails UnexpectedNull
outcome_by_format binary text Binary (Some bytes) = binary bytes
outcome_by_format binary text Text (Some bytes) = in_place (utf8_part (Some bytes)) >>= text

-- in either format; a text that isn't UTF-8 is C14
abbrev pub in_both_formats : {M : Type 0} → (List ℕ → Outcome M) → (List ℕ → Outcome M) → Given → Outcome M
in_both_formats binary text v = outcome_by_format binary text v.format v.bytes

abbrev pub outcome_by_binary : {M : Type 0} → (List ℕ → Outcome M) → PgValueFormat → Option (List ℕ) → Outcome M
outcome_by_binary binary format None = fails UnexpectedNull
outcome_by_binary binary Binary (Some bytes) = binary bytes
outcome_by_binary binary Text (Some bytes) = fails TextUnsupported

-- in binary; any text is C18
abbrev pub in_binary_alone : {M : Type 0} → (List ℕ → Outcome M) → Given → Outcome M
in_binary_alone binary v = outcome_by_binary binary v.format v.bytes
