-- The text of an array of one dimension (PostgreSQL: "Array Input and Output Syntax", 8.15.6): `{`, elements separated
-- by `,`, `}`. An element is a list of pieces. Plain is all but `"`, `\`, `,`, `{` and `}`; quotes are not doubled. An
-- element is null exactly where it is the four plain pieces NULL. Nothing at all between the braces is no element.
use Rattle.std.specs.Prelude.{ℕ, false, ◌==◌, List, [], ◌∷◌, Option}
use Rattle.pgv_characters.specs.Characters.{left_brace, right_brace}
use Rattle.pgv_text.specs.NestPieces.{Piece, plain, Form, any, IsNestText}

-- The four plain pieces NULL.
abbrev pub null_pieces : List Piece
null_pieces = plain 78 ∷ plain 85 ∷ plain 76 ∷ plain 76 ∷ []

-- `{` and `}`
abbrev pub array_form : Form
array_form = record { opens = λ c. c == left_brace; closes = λ c. c == right_brace; doubles = false; nothing = null_pieces; count = any }

-- These characters are an array of these values.
abbrev pub IsArrayText : List ℕ → List (Option (List ℕ)) → Type 0
IsArrayText text values = IsNestText array_form text record { values = values; lower = false; upper = false }
