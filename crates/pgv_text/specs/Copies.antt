-- Which parts of a text are copied when they are read: each that isn't in the text as it is, alone or in quotes.
use Rattle.std.specs.Prelude.{◌≡◌, ℕ, Bool, true, false, not, ◌&&◌, ◌||◌, ◌==◌, if◌then◌else◌, is_some, List, [], ◌∷◌, Option, Some, None}
use Rattle.std.specs.Str.{IsUtf8, chars}
use Rattle.pgv_characters.specs.Characters.{double_quote, backslash}
use Rattle.pgv_text.specs.declared.scanner.Class.{Class}
use Rattle.pgv_text.specs.declared.scanner.Class.TheVariants.{Quote, Backslash, Other}
use Rattle.pgv_text.specs.declared.scanner.Place.{Place}
use Rattle.pgv_text.specs.declared.scanner.Place.TheVariants.{Start}
use Rattle.pgv_text.specs.declared.scanner.Cell.{Cell}
use Rattle.pgv_text.specs.declared.scanner.Cell.TheVariants.{Keep, Pass}
use Rattle.pgv_text.specs.declared.scanner.Stop.{Stop}
use Rattle.pgv_text.specs.declared.scanner.TextForm.{TextForm}
use Rattle.pgv_text.specs.declared.scanner.TextForm.TheVariants.{Array}
use Rattle.pgv_text.specs.ArrayText.{array_form}
use Rattle.pgv_text.specs.Forms.{form_of}
use Rattle.pgv_text.specs.NestPieces.{Form}
use Rattle.pgv_text.specs.ScannedPieces.{nest_of}
use Rattle.pgv_text.specs.Scan.{class, cell, closes_here, ends}

-- ---- the part in front

-- no quote and no backslash up to where the part ends
abbrev pub bare_by : Bool → Class → Bool
bare_by rest Other = rest
bare_by rest k = ends k

abbrev pub bare : Form → List ℕ → Bool
bare form [] = false
bare form (c ∷ cs) = bare_by (bare form cs) (class form c)

-- the part ends here
abbrev pub part_ends : Form → List ℕ → Bool
part_ends form [] = false
part_ends form (c ∷ cs) = ends (class form c)

-- after an opening quote no backslash up to the closing one, where the part ends
abbrev pub in_quotes_by : Bool → Bool → Class → Bool
in_quotes_by closed rest Quote = closed
in_quotes_by closed rest Backslash = false
in_quotes_by closed rest k = rest

abbrev pub in_quotes : Form → List ℕ → Bool
in_quotes form [] = false
in_quotes form (c ∷ cs) = in_quotes_by (part_ends form cs) (in_quotes form cs) (class form c)

-- The part in front is in the text as it is, alone or in quotes.
abbrev pub as_it_is_by : Bool → Bool → Class → Bool
as_it_is_by quoted alone Quote = quoted
as_it_is_by quoted alone k = alone

abbrev pub as_it_is : Form → List ℕ → Bool
as_it_is form [] = false
as_it_is form (c ∷ cs) = as_it_is_by (in_quotes form cs) (bare form (c ∷ cs)) (class form c)

-- ---- all parts

-- of these bytes, where there are any: whether the part in front is copied, and what comes after it
abbrev pub next_copies : Form → List ℕ → List Bool → List Bool
next_copies form [] later = []
next_copies form (b ∷ bs) later = not (as_it_is form (b ∷ bs)) ∷ later

-- of the parts after the one that this place is in (after the closing bracket there is nothing)
abbrev pub copies_by : Form → List ℕ → (Place → List Bool) → Cell → List Bool
copies_by form bs go (Keep place) = go place
copies_by form bs go (Pass place) = go place
copies_by form bs go _ = next_copies form bs (go Start)

abbrev pub copies_after : Form → Place → List ℕ → List Bool
copies_after form place [] = []
copies_after form place (b ∷ bs) = copies_by form bs (λ q. copies_after form q bs) (cell form place (class form b))

-- of the part in front and those after it
abbrev pub copies_from : Form → List ℕ → List Bool
copies_from form bs = next_copies form bs (copies_after form Start bs)

-- whether the part in front is copied
abbrev pub first_copied : List Bool → Bool
first_copied [] = false
first_copied (copied ∷ later) = copied

-- nothing at all between the brackets of an array is no part
abbrev pub closes_at_once : TextForm → List ℕ → Bool
closes_at_once Array bs = closes_here array_form bs
closes_at_once _ bs = false

-- Of each part of a text between brackets: whether it is copied.
abbrev pub copies_of : TextForm → List ℕ → List Bool
copies_of form [] = []
copies_of form (b ∷ bs) = if closes_at_once form bs then [] else copies_from (form_of form) bs

-- no part is copied
abbrev pub none_copied : List Bool → Bool
none_copied [] = true
none_copied (copied ∷ later) = not copied && none_copied later

-- no quote and no backslash
abbrev pub unquoted : List ℕ → Bool
unquoted [] = true
unquoted (c ∷ cs) = not (c == double_quote || c == backslash) && unquoted cs

-- Of a text of parts without quotes and backslashes no part is copied.
abbrev pub UnquotedIsNotCopied : Type 0
UnquotedIsNotCopied = (form : TextForm) (text : List ℕ) → IsUtf8 text → is_some (nest_of (form_of form) (chars text)) ≡ true → unquoted text ≡ true → none_copied (copies_of form text) ≡ true

-- ---- the bytes in front that are kept

-- the place in which the first byte is that isn't kept, and the bytes from it on
abbrev pub stop_by : Place → List ℕ → (Place → Option (Place × List ℕ)) → Cell → Option (Place × List ℕ)
stop_by place bs go (Keep next) = go next
stop_by place bs go _ = Some (place, bs)

abbrev pub stop_at : Form → Place → List ℕ → Option (Place × List ℕ)
stop_at form place [] = None
stop_at form place (b ∷ bs) = stop_by place (b ∷ bs) (λ q. stop_at form q bs) (cell form place (class form b))

-- it is this stop, and its byte does there what the stop says
abbrev pub IsStopFrom : Form → Place → List ℕ → Stop → Type 0
IsStopFrom form place text s = (q : Place) × (stop_at form place text ≡ Some (q, s.byte ∷ s.rest.now)) × (s.cell ≡ cell form q (class form s.byte))
