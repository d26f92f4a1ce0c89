-- What is still to come of a text, with its brackets.
use Rattle.std.specs.Prelude.{◌≡◌, ◌≢◌, ◌∷◌, [], Bool, true, false, ℕ, List, Option, Some, drop}
use Rattle.std.specs.Str.{chars}
use Rattle.pgv_text.specs.declared.parts.Parts.{Parts}
use Rattle.pgv_text.specs.declared.scanner.TextForm.{TextForm}
use Rattle.pgv_text.specs.declared.scanner.TextForm.TheVariants.{Array, Range, Record}
use Rattle.pgv_text.specs.ContentText.{Content, RangeContent, content_of, empty, is_empty_in, no_parts, parts}
use Rattle.pgv_text.specs.NestPieces.{Nest}
use Rattle.pgv_text.specs.Copies.{copies_from, copies_of}
use Rattle.pgv_text.specs.Forms.{form_of}
use Rattle.pgv_text.specs.PartsLeftView.{values_left}
use Rattle.pgv_text.specs.Scan.{nest_read}

abbrev pub nest : Parts → Nest
nest p = record { values = values_left p.form p.rest.now; lower = p.lower_included; upper = p.upper_included }

-- whether the text is that of the empty range
abbrev pub is_of_empty : Parts → Bool
is_of_empty p = p.of_empty

-- of each part that is to come, whether it is copied
abbrev pub copies : Parts → List Bool
copies p = copies_from (form_of p.form) p.rest.now

-- no value, where it is, and else these parts
abbrev pub empty_or : Bool → Nest → RangeContent
empty_or true nest = empty
empty_or false nest = parts nest

abbrev pub content : (form : TextForm) → Parts → Content form
content Array p = nest p
content Range p = empty_or (is_of_empty p) (nest p)
content Record p = nest p

-- These are the parts of a text, whose brackets they have, or those of the empty range, which are none; and which of
-- them are copied.
pub record ArePartsOf (form : TextForm) (text : List ℕ) (p : Parts) : Type 0 where
  pub denoted : content_of form (chars text) ≡ Some (content form p)
  pub of_empty : is_of_empty p ≡ is_empty_in form text
  pub nothing : is_of_empty p ≡ true → nest p ≡ no_parts
  pub copied : is_of_empty p ≡ false → copies p ≡ copies_of form text

-- These are the parts between the brackets of a text.
pub record AreBounded (form : TextForm) (text : List ℕ) (p : Parts) : Type 0 where
  pub found : nest_read (form_of form) text ≡ Some (nest p)
  pub bounded : is_of_empty p ≡ false
  pub copied : copies p ≡ copies_of form text

-- ---- taking a part

-- the next part has this value, and those after it are left
abbrev pub Takes : Option (List ℕ) → Parts → Parts → Type 0
Takes value was now = ((nest was).values ≡ value ∷ (nest now).values) × (copies now ≡ drop 1 (copies was))

-- no part was to come, and nothing moved
abbrev pub HasEnded : Parts → Parts → Type 0
HasEnded was now = ((nest was).values ≡ []) × (now ≡ was)

-- a part was to come, and it is still
abbrev pub StillComes : Parts → Parts → Type 0
StillComes was now = ((nest was).values ≢ []) × (now ≡ was)

-- what a taken part leaves as it is: the brackets, and whether it is the empty range
pub record HasBracketsOf (was now : Parts) : Type 0 where
  pub lower : (nest now).lower ≡ (nest was).lower
  pub upper : (nest now).upper ≡ (nest was).upper
  pub of_empty : is_of_empty now ≡ is_of_empty was
