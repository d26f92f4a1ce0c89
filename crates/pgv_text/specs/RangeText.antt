-- The text of a range (PostgreSQL: "Range Types", 8.17.5): `[` or `(`, two bounds separated by `,`, `]` or `)`. A
-- square bracket includes its bound. Pieces are as in records, but all four brackets are excluded from plain. A bound
-- without pieces is unbounded.
use Rattle.std.specs.Prelude.{ℕ, Bool, true, ◌==◌, ◌||◌, List, [], ◌∷◌, Option}
use Rattle.pgv_characters.specs.Characters.{left_parenthesis, right_parenthesis, left_bracket, right_bracket}
use Rattle.pgv_text.specs.NestPieces.{Form, two, IsNestText}

-- `[` or `(`, and `]` or `)`; a part without pieces is unbounded.
abbrev pub range_form : Form
range_form = record { opens = λ c. c == left_parenthesis || c == left_bracket; closes = λ c. c == right_parenthesis || c == right_bracket; doubles = true; nothing = []; count = two }

-- These characters are a range of these bounds, each included or not by its bracket.
abbrev pub IsRangeText : List ℕ → Option (List ℕ) → Option (List ℕ) → Bool → Bool → Type 0
IsRangeText text lower upper lower_included upper_included =
    IsNestText range_form text record { values = lower ∷ upper ∷ []; lower = lower_included; upper = upper_included }
