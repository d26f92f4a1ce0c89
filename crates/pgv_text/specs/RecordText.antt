-- The text of a record (PostgreSQL: "Composite Type Input and Output Syntax", 8.16.6): `(`, fields separated by `,`,
-- `)`. Plain is all but `"`, `\`, `,`, `(` and `)`. Quotes are doubled, and no quoted piece directly follows another. A
-- field without pieces is null; `()` has one null field.
use Rattle.std.specs.Prelude.{ℕ, true, false, ◌==◌, List, [], Option}
use Rattle.pgv_characters.specs.Characters.{left_parenthesis, right_parenthesis}
use Rattle.pgv_text.specs.NestPieces.{Form, some, IsNestText}

-- `(` and `)`; a field without pieces is null.
abbrev pub record_form : Form
record_form = record { opens = λ c. c == left_parenthesis; closes = λ c. c == right_parenthesis; doubles = true; nothing = []; count = some }

-- These characters are a record of these values.
abbrev pub IsRecordText : List ℕ → List (Option (List ℕ)) → Type 0
IsRecordText text values = IsNestText record_form text record { values = values; lower = false; upper = false }
