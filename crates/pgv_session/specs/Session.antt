-- A session of the program: what each line does to the arguments, and what it answers. What a line asks for is answered
-- from the arguments and changes them (`AnswersLine`). `IsSession` relates the lines of an input with the bytes of the
-- answers. The lines of an input are those that it is put together of, each with its line feed, which the last may lack
-- (`AreLines`); `lines_of` computes them (law: `input_is_its_lines`). A stream of COPY is answered by its rows, ` / `
-- between two, and each by its fields, a space between two: null is `null`, and bytes are what `read` answers of them
-- (`Copies`). Where there are no rows it is `none`. The first refusal is answered alone: of the stream itself, or of
-- the first field of a row that is not read or has no frame. A name that is not in the table is answered before a byte
-- is read. Which number a refusal has is what the row of its TYPE says (`Types`): of what is not read, and of what is
-- read and has no frame.
use Rattle.std.specs.Prelude.{◌≡◌, ◌≢◌, ℕ, ◌≤◌, ◌==◌, Bool, true, false, codes, decimal, List, [], ◌∷◌, ◌++◌, map, length, Option, Some, None, IfSome, option_map, Ok, Err, zip, if◌then◌else◌}
use Rattle.std.specs.List.{AllByRecursion}
use Rattle.hex.specs.Hex.{encode_lower}
use Rattle.pgv_characters.specs.Characters.{space, dollar_sign}
use Rattle.pgv_types.specs.Ty.{Ty}
use Rattle.pgv_types.specs.Facts.{display_of}
use Rattle.pgv_types.specs.declared.oid.Oid.{Oid}
use Rattle.pgv_buf.specs.Tokens.{bytes, be4, blank, shown, hole_count, hole_types_of}
use Rattle.pgv_value.specs.FrameBinary.{null_length}
use Rattle.pgv_value.specs.Codes.{code_of}
use Rattle.pgv_value.specs.ValueView.{Given}
use Rattle.pgv_value.specs.declared.error.CodecError.{CodecError}
use Rattle.pgv_value.specs.Parsed.{Parsed}
use Rattle.pgv_copy.specs.CopyBinary.{Step, after_header, reader_before, step}
use Rattle.pgv_copy.specs.CopyView.{Copying}
use Rattle.pgv_value.specs.declared.value.PgValueFormat.TheVariants.{Text as InText, Binary as InBinary}
use Rattle.pgv_wire.specs.Arguments.{Argument, Framed, framed, all_cells, types_in, filled_arguments}
use Rattle.pgv_session.specs.Spelled.{Ask, to_add, to_add_null, to_read, Request, asks, asks_holes, resolves, asks_wire, copies, Asks}
use Rattle.pgv_session.specs.Lines.{each_named, with_first}
use Rattle.pgv_session.specs.Types.{LineType, types, row_named}

-- ---- answers

abbrev pub State : Type 0
State = List Argument

-- `$` and the number of arguments
abbrev pub placeholder : State → List ℕ
placeholder args = dollar_sign ∷ decimal (length args)

-- `refused Cn`
abbrev pub refused : ℕ → List ℕ
refused n = codes "refused C" ++ decimal n

-- `refused Cn`, n from 2 to 38
abbrev pub IsRefusal : List ℕ → Type 0
IsRefusal answer = (n : ℕ) × (2 ≤ n) × (n ≤ 38) × (answer ≡ refused n)

-- the same, and where a refusal is stated, n is its number
abbrev pub RefusedAs : Option CodecError → List ℕ → Type 0
RefusedAs why answer = IsRefusal answer × IfSome why (λ stated. answer ≡ refused (code_of stated))

-- what is accepted is added, and what is refused changes nothing
abbrev pub AddsLine : Option Framed → Option CodecError → State → List ℕ → State → Type 0
AddsLine None why was answer now = RefusedAs why answer × (now ≡ was)
AddsLine (Some f) why was answer now = (answer ≡ placeholder now) × (now ≡ was ++ (f.0, blank f.1) ∷ [])

-- the value that a text is, under a TYPE
abbrev pub AddsText : LineType → List ℕ → State → List ℕ → State → Type 0
AddsText row text was answer now = AddsLine (row.value InText (Some text)) (row.refusal InText (Some text)) was answer now

-- null, which every TYPE has
abbrev pub AddsNull : LineType → State → List ℕ → State → Type 0
AddsNull row was answer now = AddsLine (Some (row.info, bytes (be4 null_length))) None was answer now

-- the display names, with one space before each
abbrev pub names_after : List Ty → List ℕ
names_after [] = []
names_after (t ∷ ts) = space ∷ (display_of t ++ names_after ts)

-- the display names with one space between them, or `none`
abbrev pub names_shown : List Ty → List ℕ
names_shown [] = codes "none"
names_shown (t ∷ ts) = display_of t ++ names_after ts

-- each argument's parameter type is its own
abbrev pub Resolves : Bool → List Oid → State → List ℕ → State → Type 0
Resolves false oids was answer now = (answer ≡ refused 11) × (now ≡ was)
Resolves true oids was answer now = (answer ≡ codes "ok") × (now ≡ filled_arguments (framed was) (types_in was) oids)

-- the frame that a value writes, its holes as zeros, or its refusal
abbrev pub Shows : Option Framed → Option CodecError → List ℕ → Type 0
Shows None why answer = RefusedAs why answer
Shows (Some f) why answer = answer ≡ encode_lower (shown (blank f.1))

-- the same of the value that null or bytes are; a null that is not read is C13
abbrev pub ReadsFrame : Option Framed → Option CodecError → Option (List ℕ) → List ℕ → Type 0
ReadsFrame (Some f) why part answer = Shows (Some f) why answer
ReadsFrame None why (Some bytes) answer = Shows None why answer
ReadsFrame None why None answer = answer ≡ refused 13

abbrev pub ReadsLinePart : LineType → Option (List ℕ) → List ℕ → Type 0
ReadsLinePart row part answer = ReadsFrame (row.value InBinary part) (row.refusal InBinary part) part answer

-- what is asked of a value, by the row of its TYPE, where that has one
abbrev pub RespondsBy : Option LineType → Ask → State → List ℕ → State → Type 0
RespondsBy None ask was answer now = (answer ≡ codes "refused line") × (now ≡ was)
RespondsBy (Some row) (to_add text) was answer now = AddsText row text was answer now
RespondsBy (Some row) to_add_null was answer now = AddsNull row was answer now
RespondsBy (Some row) (to_read part) was answer now = ReadsLinePart row part answer × (now ≡ was)

-- ---- streams of COPY

-- the rows of the TYPEs, where each name has one
abbrev pub rows_named : List (List ℕ) → Option (List LineType)
rows_named names = each_named (row_named types) names

-- a field: null as `null`, and bytes as `read` shows them, where they are read
abbrev pub field_shown : LineType → Option (List ℕ) → Option (List ℕ)
field_shown row None = Some (codes "null")
field_shown row (Some bytes) = option_map (λ f. encode_lower (shown (blank f.1))) (row.value InBinary (Some bytes))

-- fields, where each is read
abbrev pub fields_shown : List (LineType × Given) → Option (List (List ℕ))
fields_shown [] = Some []
fields_shown (f ∷ fs) = with_first (field_shown f.0 f.1.bytes) (fields_shown fs)

-- the reason that is given where nothing was read, else the reason of what comes after
abbrev pub refusal_or : {A B : Type 0} → B → Option A → (A → B) → B
refusal_or why None after = why
refusal_or why (Some read) after = after read

-- and else the refusal of the first that is not shown, where it is stated
abbrev pub fields_refused : List (LineType × Given) → Option CodecError
fields_refused [] = None
fields_refused (f ∷ fs) = refusal_or (f.0.refusal InBinary f.1.bytes) (field_shown f.0 f.1.bytes) (λ text. fields_refused fs)

-- texts with this between each two
abbrev pub more_after : List ℕ → List (List ℕ) → List ℕ
more_after between [] = []
more_after between (text ∷ texts) = between ++ (text ++ more_after between texts)

abbrev pub all_with : List ℕ → List (List ℕ) → List ℕ
all_with between [] = []
all_with between (text ∷ texts) = text ++ more_after between texts

abbrev pub row_shown : List LineType → List Given → Option (List ℕ)
row_shown columns row = option_map (all_with (codes " ")) (fields_shown (zip columns row))

abbrev pub row_refused : List LineType → List Given → Option CodecError
row_refused columns row = fields_refused (zip columns row)

abbrev pub rows_told : List (List ℕ) → List ℕ
rows_told [] = codes "none"
rows_told (text ∷ texts) = all_with (codes " / ") (text ∷ texts)

-- these rows are answered one after another, and shown as these texts; then the reader is this one
abbrev pub Yields : List LineType → Copying → List (List ℕ) → Copying → Type 0
Yields columns reader [] last = last ≡ reader
Yields columns reader (text ∷ texts) last =
    (row : List Given) × (next : Copying) × (step reader ≡ Ok (Some row, next)) × (row_shown columns row ≡ Some text) × Yields columns next texts last

-- what is answered after these rows: all of them at the end, and else the first refusal alone
abbrev pub EndsWith : List LineType → List (List ℕ) → Step → List ℕ → Type 0
EndsWith columns texts (Err e) answer = answer ≡ refused (code_of e)
EndsWith columns texts (Ok (None, next)) answer = answer ≡ rows_told texts
EndsWith columns texts (Ok (Some row, next)) answer = (row_shown columns row ≡ None) × RefusedAs (row_refused columns row) answer

abbrev pub CopiesFrom : List LineType → Parsed (List ℕ) → List ℕ → Type 0
CopiesFrom columns (Err e) answer = answer ≡ refused (code_of e)
CopiesFrom columns (Ok rest) answer =
    (texts : List (List ℕ)) × (last : Copying) × Yields columns (reader_before (map (λ c. c.info) columns) rest) texts last × EndsWith columns texts (step last) answer

abbrev pub Copies : Option (List LineType) → List ℕ → List ℕ → Type 0
Copies None bytes answer = answer ≡ codes "refused line"
Copies (Some columns) bytes answer = CopiesFrom columns (after_header bytes) answer

abbrev pub Responds : Request → State → List ℕ → State → Type 0
Responds (asks name ask) was answer now = RespondsBy (row_named types name) ask was answer now
Responds asks_holes was answer now = (answer ≡ names_shown (hole_types_of (all_cells was))) × (now ≡ was)
Responds (resolves oids) was answer now = Resolves (length oids == hole_count (all_cells was)) oids was answer now
Responds (copies bytes names) was answer now = Copies (rows_named names) bytes answer × (now ≡ was)
Responds asks_wire was answer now = (answer ≡ encode_lower (shown (all_cells was))) × (now ≡ was)

abbrev pub RespondsTo : Option Request → State → List ℕ → State → Type 0
RespondsTo None was answer now = (answer ≡ codes "refused line") × (now ≡ was)
RespondsTo (Some r) was answer now = Responds r was answer now

-- a line, from one state to the next: what it asks for is answered
abbrev pub AnswersLine : List ℕ → State → List ℕ → State → Type 0
AnswersLine line was answer now = (asked : Option Request) × Asks line asked × RespondsTo asked was answer now

-- ---- whole sessions

-- the lines of an input: each ends at a line feed, which the last may lack
abbrev pub line_more : List ℕ → List (List ℕ) → List (List ℕ)
line_more [] lines = lines
line_more (c ∷ cs) lines = (c ∷ cs) ∷ lines

abbrev pub lines_from : List ℕ → List ℕ → List (List ℕ)
lines_from begun [] = line_more begun []
lines_from begun (c ∷ cs) = if c == 10 then begun ∷ lines_from [] cs else lines_from (begun ++ c ∷ []) cs

abbrev pub lines_of : List ℕ → List (List ℕ)
lines_of input = lines_from [] input

-- The same by spellings: full lines, each with its line feed (10), and after them perhaps one without.
abbrev pub full_lines : List (List ℕ) → List ℕ
full_lines [] = []
full_lines (line ∷ lines) = line ++ 10 ∷ full_lines lines

abbrev pub HasNoLineFeed : List ℕ → Type 0
HasNoLineFeed line = AllByRecursion (λ c. c ≢ 10) line

pub record AreLines (input : List ℕ) (lines : List (List ℕ)) : Type 0 where
  pub full : List (List ℕ)
  pub last : List ℕ
  pub each : AllByRecursion HasNoLineFeed full
  pub unended : HasNoLineFeed last
  pub whole : input ≡ full_lines full ++ last
  pub lines_are : lines ≡ full ++ line_more last []

-- one answer, with its line feed, for each line
abbrev pub IsSession : State → List (List ℕ) → List ℕ → Type 0
IsSession was [] output = output ≡ []
IsSession was (line ∷ lines) output =
    (answer : List ℕ) × (now : State) × (rest : List ℕ) ×
    AnswersLine line was answer now × (output ≡ answer ++ 10 ∷ rest) × IsSession now lines rest
