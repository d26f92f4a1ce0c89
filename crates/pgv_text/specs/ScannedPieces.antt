-- The pieces of a text, computed from the left.
use Rattle.std.specs.Prelude.{ℕ, Bool, true, if◌then◌else◌, List, [], ◌∷◌, Option, Some, None}
use Rattle.std.specs.Option.{option_and_then, option_map}
use Rattle.std.specs.Str.{encode_utf8_all}
use Rattle.pgv_text.specs.declared.scanner.Class.{Class}
use Rattle.pgv_text.specs.declared.scanner.Class.TheVariants.{Quote, Backslash, Comma, Open, Close, Other}
use Rattle.pgv_text.specs.declared.scanner.Place.{Place}
use Rattle.pgv_text.specs.declared.scanner.Place.TheVariants.{Start, Outside, Quoted, AfterQuote, AfterBackslash, QuotedBackslash}
use Rattle.pgv_text.specs.NestPieces.{Form, Item, inner, inner_escaped, doubled, Piece, plain, escaped, quoted, text_of, Nest}
use Rattle.pgv_text.specs.Scan.{class, value_here, nest_between}

-- The rest of a part in pieces, an open quoted one first, the parts after it with their values, and the bracket.
pub record Found : Type 0 where
  pub first : List Piece
  pub more : List (List Piece)
  pub values : List (Option (List ℕ))
  pub closing : ℕ

abbrev pub with_piece : Piece → Found → Found
with_piece piece r = record r { first = piece ∷ r.first }

-- in the quoted piece that comes first
abbrev pub item_first : Item → List Piece → List Piece
item_first item [] = quoted (item ∷ []) ∷ []
item_first item (plain c ∷ pieces) = quoted (item ∷ []) ∷ plain c ∷ pieces
item_first item (escaped c ∷ pieces) = quoted (item ∷ []) ∷ escaped c ∷ pieces
item_first item (quoted items ∷ pieces) = quoted (item ∷ items) ∷ pieces

abbrev pub with_item : Item → Found → Found
with_item item r = record r { first = item_first item r.first }

abbrev pub with_part : Form → List ℕ → Found → Found
with_part form cs r = record r { first = []; more = r.first ∷ r.more; values = value_here form cs (encode_utf8_all (text_of r.first)) ∷ r.values }

abbrev pub closed : ℕ → List ℕ → Option Found
closed c [] = Some (record { first = []; more = []; values = []; closing = c })
closed c (d ∷ cs) = None

abbrev pub parse_outside : Form → ℕ → List ℕ → (Place → Option Found) → Class → Option Found
parse_outside form c cs go Quote = go Quoted
parse_outside form c cs go Backslash = go AfterBackslash
parse_outside form c cs go Comma = option_map (with_part form cs) (go Start)
parse_outside form c cs go Open = None
parse_outside form c cs go Close = closed c cs
parse_outside form c cs go Other = option_map (with_piece (plain c)) (go Outside)

abbrev pub parse_quoted : ℕ → (Place → Option Found) → Class → Option Found
parse_quoted c go Quote = go AfterQuote
parse_quoted c go Backslash = go QuotedBackslash
parse_quoted c go _ = option_map (with_item (inner c)) (go Quoted)

-- Where quotes are doubled, a second quote goes on with the quoted piece, which else ends.
abbrev pub parse_after_quote : Form → ℕ → List ℕ → (Place → Option Found) → Bool → Class → Option Found
parse_after_quote form c cs go true Quote = option_map (with_item doubled) (go Quoted)
parse_after_quote form c cs go _ k = option_map (with_piece (quoted [])) (parse_outside form c cs go k)

abbrev pub parse_at : Form → ℕ → List ℕ → (Place → Option Found) → Class → Place → Option Found
parse_at form c cs go k Start = parse_outside form c cs go k
parse_at form c cs go k Outside = parse_outside form c cs go k
parse_at form c cs go k Quoted = parse_quoted c go k
parse_at form c cs go k AfterQuote = parse_after_quote form c cs go form.doubles k
parse_at form c cs go k AfterBackslash = option_map (with_piece (escaped c)) (go Outside)
parse_at form c cs go k QuotedBackslash = option_map (with_item (inner_escaped c)) (go Quoted)

abbrev pub parse_pieces : Form → Place → List ℕ → Option Found
parse_pieces form place [] = None
parse_pieces form place (c ∷ cs) = parse_at form c cs (λ q. parse_pieces form q cs) (class form c) place

-- What a text of characters is of; the laws say that it is exactly this.
abbrev pub nest_of : Form → List ℕ → Option Nest
nest_of form [] = None
nest_of form (c ∷ cs) =
    if form.opens c
    then (option_and_then (λ r. nest_between form c cs (value_here form cs (encode_utf8_all (text_of r.first)) ∷ r.values) r.closing) (parse_pieces form Start cs))
    else None
