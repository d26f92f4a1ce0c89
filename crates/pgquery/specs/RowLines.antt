-- The line that is printed for a row. As texts (PostgreSQL, "COPY", "Text Format"): its values in order, a tab between
-- two; null as `\N`, and in a text tabs, line feeds, carriage returns and backslashes escaped. As an object of JSON
-- (RFC 8259): the name of each column, and its value as a string or null; in a string quotes and backslashes escaped,
-- and controls by their number.
use Rattle.std.specs.Prelude.{◌≡◌, ℕ, Bool, true, false, zero, suc, ◌+◌, ◌-◌, ◌/◌, ◌%◌, ◌==◌, nat_lt, if◌then◌else◌, codes, List, [], ◌∷◌, ◌++◌, length, Option, Some, None, ⊤}
use Rattle.std.specs.List.{flat_map, slice_get}
use Rattle.std.specs.Io.KnownBytes.{Appends}
use Rattle.pgv_characters.specs.Characters.{tab, line_feed, carriage_return, space, double_quote, comma, digit_zero, colon, upper_d, lower_a, backslash, left_brace, right_brace}
use Rattle.pgv.specs.Words.{Given, Part}
use Rattle.pgv_row.specs.ColumnView.{Column}
use Rattle.pgv_row.specs.DataRow.{IsDataRow}
use Rattle.pgv_row.specs.RowView.{Row, value_at_column}
use Rattle.pgquery.specs.Incoming.{Incoming}
use Rattle.pgquery.specs.declared.options.Shown.{Shown}
use Rattle.pgquery.specs.declared.options.Shown.TheVariants.{Texts, Objects, Frames, Copied}

-- ---- as texts

abbrev pub escape : ℕ → List ℕ
escape byte =
    if byte == tab then codes "\\t" else
    if byte == line_feed then codes "\\n" else
    if byte == carriage_return then codes "\\r" else
    if byte == backslash then codes "\\\\" else
    byte ∷ []

abbrev pub escaped : List ℕ → List ℕ
escaped text = flat_map escape text

abbrev pub part_shown : Part → List ℕ
part_shown None = codes "\\N"
part_shown (Some text) = escaped text

abbrev pub value_shown : Option Given → List ℕ
value_shown None = []
value_shown (Some value) = part_shown value.bytes

-- this byte, but before the first value
abbrev pub byte_between : ℕ → ℕ → List ℕ
byte_between byte zero = []
byte_between byte (suc n) = byte ∷ []

-- the first n values
abbrev pub values_shown : Row → ℕ → List ℕ
values_shown row zero = []
values_shown row (suc n) = values_shown row n ++ (byte_between tab n ++ value_shown (value_at_column row n))

abbrev pub line_of : Row → List ℕ
line_of row = values_shown row (length row.columns) ++ line_feed ∷ []

-- ---- as an object

abbrev pub hex_digit : ℕ → ℕ
hex_digit n = if nat_lt n 10 then digit_zero + n else lower_a + (n - 10)

-- a control, which is a byte below the space, is `\u00` and two digits
abbrev pub json_escape : ℕ → List ℕ
json_escape byte =
    if byte == double_quote then codes "\\\"" else
    if byte == backslash then codes "\\\\" else
    if nat_lt byte space then codes "\\u00" ++ hex_digit (byte / 16) ∷ hex_digit (byte % 16) ∷ [] else
    byte ∷ []

abbrev pub json_escaped : List ℕ → List ℕ
json_escaped text = flat_map json_escape text

abbrev pub string_of : List ℕ → List ℕ
string_of text = double_quote ∷ (json_escaped text ++ double_quote ∷ [])

-- `null`, or a string
abbrev pub json_part : Part → List ℕ
json_part None = codes "null"
json_part (Some text) = string_of text

abbrev pub json_value : Option Given → List ℕ
json_value None = []
json_value (Some value) = json_part value.bytes

abbrev pub column_name : Option Column → List ℕ
column_name None = []
column_name (Some column) = string_of column.name

-- the name, a colon and the value of a column
abbrev pub member : Row → ℕ → List ℕ
member row place = column_name (slice_get row.columns place) ++ colon ∷ json_value (value_at_column row place)

-- the first n columns, a comma between two
abbrev pub members : Row → ℕ → List ℕ
members row zero = []
members row (suc n) = members row n ++ (byte_between comma n ++ member row n)

abbrev pub object_of : Row → List ℕ
object_of row = left_brace ∷ (members row (length row.columns) ++ right_brace ∷ line_feed ∷ [])

-- ---- of a body

-- after these bytes comes the line of a row; of frames nothing is said
abbrev pub PrintsRow : Shown → Row → List ℕ → List ℕ → Type 0
PrintsRow Texts row was now = now ≡ was ++ line_of row
PrintsRow Objects row was now = now ≡ was ++ object_of row
PrintsRow Frames row was now = ⊤
PrintsRow Copied row was now = now ≡ was ++ line_of row

-- the same of the row that the body of a DataRow is
abbrev pub ShowsBody : Shown → List Column → List ℕ → List ℕ → List ℕ → Type 0
ShowsBody shown columns body was now =
    (row : Row) × (row.columns ≡ columns) × IsDataRow (length columns) body row.parts × PrintsRow shown row was now

-- ---- of messages

-- the line of a DataRow, whose tag is `D`; of any other message nothing
abbrev pub ShowsAnswer : Bool → Shown → List Column → List ℕ → List ℕ → Type 0
ShowsAnswer true shown columns body text = ShowsBody shown columns body [] text
ShowsAnswer false shown columns body text = text ≡ []

-- This text is the line of each DataRow among answers, in order.
abbrev pub ShowsRows : Shown → List Column → List Incoming → List ℕ → Type 0
ShowsRows shown columns [] text = text ≡ []
ShowsRows shown columns (m ∷ ms) text =
    (line : List ℕ) × (rest : List ℕ) × (text ≡ line ++ rest) × ShowsAnswer (m.tag == upper_d) shown columns m.body line × ShowsRows shown columns ms rest

-- A writer was given a text of which this holds.
abbrev pub Writes : Option (List ℕ) → Option (List ℕ) → (List ℕ → Type 0) → Type 0
Writes old new Is = (text : List ℕ) × Appends old new text × Is text
