-- The table of the scanner, and what it makes of bytes.
use Rattle.std.specs.Prelude.{ℕ, Bool, true, false, if◌then◌else◌, ◌&&◌, ◌==◌, ◌+◌, List, [], ◌∷◌, ◌++◌, length, Option, Some, None}
use Rattle.std.specs.Option.{option_and_then, option_map}
use Rattle.pgv_characters.specs.Characters.{double_quote, comma, left_bracket, backslash, right_bracket}
use Rattle.pgv_text.specs.declared.scanner.Class.{Class}
use Rattle.pgv_text.specs.declared.scanner.Class.TheVariants.{Quote, Backslash, Comma, Open, Close, Other}
use Rattle.pgv_text.specs.declared.scanner.Place.{Place}
use Rattle.pgv_text.specs.declared.scanner.Place.TheVariants.{Start, Outside, Quoted, AfterQuote, AfterBackslash, QuotedBackslash}
use Rattle.pgv_text.specs.declared.scanner.Cell.{Cell}
use Rattle.pgv_text.specs.declared.scanner.Cell.TheVariants.{Keep, Pass, Part, End, Refuse}
use Rattle.pgv_text.specs.NestPieces.{Form, Piece, plain, Count, any, some, two, Nest}

abbrev pub class : Form → ℕ → Class
class form c =
    if c == double_quote then Quote else if c == backslash then Backslash else if c == comma then Comma
    else if form.opens c then Open else if form.closes c then Close else Other

abbrev pub outside_cell : Class → Cell
outside_cell Quote = Pass Quoted
outside_cell Backslash = Pass AfterBackslash
outside_cell Comma = Part
outside_cell Open = Refuse
outside_cell Close = End
outside_cell Other = Keep Outside

abbrev pub quoted_cell : Class → Cell
quoted_cell Quote = Pass AfterQuote
quoted_cell Backslash = Pass QuotedBackslash
quoted_cell _ = Keep Quoted

-- Where quotes are doubled, a quote after a quote is kept.
abbrev pub after_quote_cell : Bool → Class → Cell
after_quote_cell true Quote = Keep Quoted
after_quote_cell _ k = outside_cell k

abbrev pub cell : Form → Place → Class → Cell
cell form Start k = outside_cell k
cell form Outside k = outside_cell k
cell form Quoted k = quoted_cell k
cell form AfterQuote k = after_quote_cell form.doubles k
cell form AfterBackslash k = Keep Outside
cell form QuotedBackslash k = Keep Quoted

-- a part ends here
abbrev pub ends : Class → Bool
ends Comma = true
ends Close = true
ends _ = false

-- the part that is null or absent is here, and ends
abbrev pub stands : Form → List Piece → List ℕ → Bool
stands form [] (c ∷ cs) = ends (class form c)
stands form (plain d ∷ pieces) (c ∷ cs) = c == d && stands form pieces cs
stands form _ _ = false

-- the value of the part that begins here and means this text
abbrev pub value_here : Form → List ℕ → List ℕ → Option (List ℕ)
value_here form cs text = if stands form form.nothing cs then None else Some text

-- the closing bracket is here
abbrev pub closes_here : Form → List ℕ → Bool
closes_here form [] = false
closes_here form (c ∷ cs) = form.closes c

-- as many values as the form has; the bracket may close at once
abbrev pub values_counted : Count → Bool → List (Option (List ℕ)) → Option (List (Option (List ℕ)))
values_counted any true values = Some []
values_counted any false values = Some values
values_counted some written_early values = Some values
values_counted two written_early values = if length values == 2 then Some values else None

-- after an opening bracket, with these values and this closing one
abbrev pub nest_between : Form → ℕ → List ℕ → List (Option (List ℕ)) → ℕ → Option Nest
nest_between form opening cs values closing =
    option_map (λ values. record { values = values; lower = opening == left_bracket; upper = closing == right_bracket }) (values_counted form.count (closes_here form cs) values)

-- What is read from a place in a part: the rest of its text, the values of the parts after it, and the bracket.
pub record Rest : Type 0 where
  pub text : List ℕ
  pub values : List (Option (List ℕ))
  pub closing : ℕ

abbrev pub kept : ℕ → Rest → Rest
kept b r = record r { text = b ∷ r.text }

abbrev pub next : Form → List ℕ → Rest → Rest
next form bs r = record r { text = []; values = value_here form bs r.text ∷ r.values }

abbrev pub at_end : ℕ → List ℕ → Option Rest
at_end b [] = Some (record { text = []; values = []; closing = b })
at_end b (c ∷ cs) = None

abbrev pub read_by : Form → ℕ → List ℕ → (Place → Option Rest) → Cell → Option Rest
read_by form b bs go (Keep place) = option_map (kept b) (go place)
read_by form b bs go (Pass place) = go place
read_by form b bs go Part = option_map (next form bs) (go Start)
read_by form b bs go End = at_end b bs
read_by form b bs go Refuse = None

abbrev pub read : Form → Place → List ℕ → Option Rest
read form place [] = None
read form place (b ∷ bs) = read_by form b bs (λ q. read form q bs) (cell form place (class form b))

-- the values from the start of a part on, and all that a text is of
abbrev pub values_from : Form → List ℕ → Rest → List (Option (List ℕ))
values_from form bs r = value_here form bs r.text ∷ r.values

abbrev pub nest_read : Form → List ℕ → Option Nest
nest_read form [] = None
nest_read form (b ∷ bs) = if form.opens b then (option_and_then (λ r. nest_between form b bs (values_from form bs r) r.closing) (read form Start bs)) else None

-- after these bytes of the text
abbrev pub after_text : List ℕ → Rest → Rest
after_text text r = record r { text = text ++ r.text }

abbrev pub grown : List ℕ → Option Rest → Option Rest
grown text r = option_map (after_text text) r

-- a cell that doesn't keep the byte
abbrev pub stops : Cell → Bool
stops (Keep place) = false
stops _ = true

-- how many parts there are with this many before, and the closing bracket
abbrev pub number_and_closing : ℕ → Rest → ℕ × ℕ
number_and_closing n r = (n + length r.values, r.closing)

abbrev pub numbered : ℕ → Option Rest → Option (ℕ × ℕ)
numbered n r = option_map (number_and_closing n) r
