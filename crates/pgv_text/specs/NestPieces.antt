-- Pieces of the texts of nests, and what they mean (PostgreSQL: "Array Input and Output Syntax", 8.15.6; "Composite
-- Type Input and Output Syntax", 8.16.6). Characters are their codes. A plain piece is one character that the form
-- allows. An escaped piece is `\` and any one character, which it means. A quoted piece is `"`, inner items, `"`. An
-- inner item is a character other than `"` and `\`, or `\` and a character, or, in ranges and records, `""`, which
-- means one quote. A list of pieces has one spelling and one text, both joined. A nest text of a form (`IsNestText`) is
-- an opening bracket, parts separated by `,`, and a closing bracket. A part is a list of pieces. Plain is all but `"`,
-- `\`, `,` and the form's brackets. Where quotes are doubled, no quoted piece directly follows another. A form has one
-- list of pieces that is null or absent (`nothing`), and says how many parts there may be. A nest is the values of the
-- parts and whether each bracket is square. Laws: no text is of two nests (`one_nest`). Each list that is long enough
-- has a text, with any brackets of the form (`every_list_has_a_text`), and it reads back in each usual spelling
-- (`spelled_reads_back`).
use Rattle.std.specs.Prelude.{◌≡◌, ◌≢◌, ℕ, Bool, true, List, [], ◌∷◌, ◌++◌, length, map, Option, Some, None, not, ◌||◌, ◌==◌}
use Rattle.std.specs.List.{flat_map, AllByRecursion}
use Rattle.std.specs.Str.{encode_utf8_all}
use Rattle.pgv_characters.specs.Characters.{double_quote, comma, left_bracket, backslash, right_bracket}

-- What is between quotes: a character, a character after a backslash, or a doubled quote.
pub data Item : Type 0 where
  inner : ℕ → Item
  inner_escaped : ℕ → Item
  doubled : Item

-- A character, a character after a backslash, or what is between quotes.
pub data Piece : Type 0 where
  plain : ℕ → Piece
  escaped : ℕ → Piece
  quoted : List Item → Piece

-- How many parts there may be.
pub data Count : Type 0 where
  any : Count
  some : Count
  two : Count

-- What the forms differ in: the brackets, whether a quote is doubled inside quotes, which part is null or
-- absent, and how many parts there are.
pub record Form : Type 0 where
  pub opens : ℕ → Bool
  pub closes : ℕ → Bool
  pub doubles : Bool
  pub nothing : List Piece
  pub count : Count

-- All but `"`, `\`, `,` and the brackets may be plain.
abbrev pub may_be_plain : Form → ℕ → Bool
may_be_plain form c = not (c == double_quote || c == backslash || c == comma || form.opens c || form.closes c)

abbrev pub item_spelling : Item → List ℕ
item_spelling (inner c) = c ∷ []
item_spelling (inner_escaped c) = backslash ∷ c ∷ []
item_spelling doubled = double_quote ∷ double_quote ∷ []

abbrev pub item_meaning : Item → ℕ
item_meaning (inner c) = c
item_meaning (inner_escaped c) = c
item_meaning doubled = double_quote

abbrev pub spelling : Piece → List ℕ
spelling (plain c) = c ∷ []
spelling (escaped c) = backslash ∷ c ∷ []
spelling (quoted items) = double_quote ∷ flat_map item_spelling items ++ double_quote ∷ []

abbrev pub meaning : Piece → List ℕ
meaning (plain c) = c ∷ []
meaning (escaped c) = c ∷ []
meaning (quoted items) = map item_meaning items

abbrev pub IsItem : Form → Item → Type 0
IsItem form (inner c) = (c ≢ double_quote) × (c ≢ backslash)
IsItem form (inner_escaped c) = Unit {0}
IsItem form doubled = form.doubles ≡ true

abbrev pub IsPiece : Form → Piece → Type 0
IsPiece form (plain c) = may_be_plain form c ≡ true
IsPiece form (escaped c) = Unit {0}
IsPiece form (quoted items) = AllByRecursion (IsItem form) items

-- Where quotes are doubled, no quoted piece directly follows another.
abbrev pub NotQuotedFirst : List Piece → Type 0
NotQuotedFirst [] = Unit {0}
NotQuotedFirst (plain c ∷ pieces) = Unit {0}
NotQuotedFirst (escaped c ∷ pieces) = Unit {0}
NotQuotedFirst (quoted items ∷ pieces) = ⊥

abbrev pub QuotedApart : List Piece → Type 0
QuotedApart [] = Unit {0}
QuotedApart (plain c ∷ pieces) = QuotedApart pieces
QuotedApart (escaped c ∷ pieces) = QuotedApart pieces
QuotedApart (quoted items ∷ pieces) = NotQuotedFirst pieces × QuotedApart pieces

pub record ArePieces (form : Form) (pieces : List Piece) : Type 0 where
  pub each : AllByRecursion (IsPiece form) pieces
  pub apart : form.doubles ≡ true → QuotedApart pieces

-- The spelling of a list of pieces, and its text.
abbrev pub spelled : List Piece → List ℕ
spelled pieces = flat_map spelling pieces

abbrev pub text_of : List Piece → List ℕ
text_of pieces = flat_map meaning pieces

-- Parts joined by commas.
abbrev pub comma_joined : List (List Piece) → List ℕ
comma_joined [] = []
comma_joined (part ∷ parts) = spelled part ++ flat_map (λ p. comma ∷ spelled p) parts

-- R holds of the elements of two lists in order, and the lists are as long.
abbrev pub Pairwise : {X Y : Type 0} → (X → Y → Type 0) → List X → List Y → Type 0
Pairwise R [] [] = Unit {0}
Pairwise R [] (y ∷ ys) = ⊥
Pairwise R (x ∷ xs) [] = ⊥
Pairwise R (x ∷ xs) (y ∷ ys) = R x y × Pairwise R xs ys

-- A part is null or absent where it is that list of pieces, and else the bytes of its text.
abbrev pub IsPart : Form → List Piece → Option (List ℕ) → Type 0
IsPart form pieces None = pieces ≡ form.nothing
IsPart form pieces (Some text) = (pieces ≢ form.nothing) × (text ≡ encode_utf8_all (text_of pieces))

-- Nothing at all between the brackets is no part, where there may be none, and else one.
abbrev pub AreCounted : Count → List (List Piece) → Type 0
AreCounted any parts = parts ≢ [] ∷ []
AreCounted some parts = parts ≢ []
AreCounted two parts = length parts ≡ 2

-- What a text is of: the values of its parts, and whether the brackets are square ones.
pub record Nest : Type 0 where
  pub values : List (Option (List ℕ))
  pub lower : Bool
  pub upper : Bool

-- These characters are a text of this form.
pub record IsNestText (form : Form) (text : List ℕ) (nest : Nest) : Type 0 where
  pub opening : ℕ
  pub closing : ℕ
  pub parts : List (List Piece)
  pub opens : form.opens opening ≡ true
  pub closes : form.closes closing ≡ true
  pub each : AllByRecursion (ArePieces form) parts
  pub counted : AreCounted form.count parts
  pub whole : text ≡ opening ∷ comma_joined parts ++ closing ∷ []
  pub values : Pairwise (IsPart form) parts nest.values
  pub lower : nest.lower ≡ (opening == left_bracket)
  pub upper : nest.upper ≡ (closing == right_bracket)
