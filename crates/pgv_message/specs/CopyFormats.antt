-- The body of a CopyOutResponse or a CopyInResponse (PostgreSQL: "Message Formats", CopyInResponse): a format for all
-- in one byte, the number of columns in two, and a format for each column in two; nothing comes after them.
use Rattle.std.specs.Prelude.{ℕ, true, List, [], ◌∷◌}
use Rattle.pgv_value.specs.declared.error.CodecError.TheVariants.{Short}
use Rattle.pgv_value.specs.declared.value.PgValueFormat.{PgValueFormat}
use Rattle.pgv_value.specs.Fronts.{u16_front, format_of_code}
use Rattle.pgv_value.specs.Outcome.{Outcome, after, in_place, fails, allocates, done, ◌>>=◌, ◌>>◌}
use Rattle.pgv_value.specs.Several.{several}
use Rattle.pgv_message.specs.Bodies.{whole_body}

unfoldable pub format_front : List ℕ → Outcome (PgValueFormat × List ℕ)
format_front bytes = do
  code ← in_place (u16_front bytes)
  format ← in_place (format_of_code code.0)
  done (format, code.1)

-- as many formats, where memory may have been asked for
abbrev pub formats_front : ℕ → List ℕ → Outcome (List PgValueFormat × List ℕ)
formats_front count bytes = after true (several format_front count bytes)

unfoldable pub copy_formats : List ℕ → Outcome (PgValueFormat × List PgValueFormat)
copy_formats [] = fails Short
copy_formats (code ∷ rest) = do
  format ← in_place (format_of_code code)
  count ← in_place (u16_front rest)
  allocates true
  columns ← several format_front count.0 count.1
  in_place (whole_body (code ∷ rest) (format, columns.0) columns.1)
