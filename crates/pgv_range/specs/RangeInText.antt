-- Ranges in text, as what their characters are and not as how they are read (PostgreSQL: "Range Input/Output", 8.17.5).
-- `empty` is the empty range. Of the two parts of a range text, one without characters and quotes is no bound; else the
-- bracket includes or excludes it (`IsRangeInText`). Law: `range_text_is_its_bounds`.
use Rattle.std.specs.Prelude.{◌≡◌, ℕ, Bool, true, false, List, Some, None}
use Rattle.std.specs.Str.{chars}
use Rattle.std.specs.declared.ops.Bound.{Bound}
use Rattle.std.specs.declared.ops.Bound.TheVariants.{Included, Excluded, Unbounded}
use Rattle.pgv_text.specs.ContentText.{IsEmptyText}
use Rattle.pgv_text.specs.RangeText.{IsRangeText}
use Rattle.pgv_types.specs.Ty.{Ty}
use Rattle.pgv_value.specs.FrameBinary.{Part}
use Rattle.pgv_value.specs.Outcome.{Outcome, Reads}
use Rattle.pgv_value.specs.Text.{is_utf8}
use Rattle.pgv_value.specs.ValueView.{Given, given}
use Rattle.pgv_value.specs.declared.value.PgValueFormat.TheVariants.{Text}
use Rattle.pgv_range.specs.RangeOf.{RangeOf, empty, bounds}

-- The text is read as this value of a type.
abbrev pub IsValue : {M : Type 0} → (Given → Outcome M) → Ty → Part → M → Type 0
IsValue parse t part m = (text : List ℕ) × (part ≡ Some text) × Reads parse (given t Text part) m

-- This part, at a bracket that includes or doesn't, is this bound. An absent part is no bound, whatever the bracket.
abbrev pub IsTextBound : {M : Type 0} → (Given → Outcome M) → Ty → Bool → Part → Bound M → Type 0
IsTextBound parse t included part Unbounded = part ≡ None
IsTextBound parse t included part (Included m) = (included ≡ true) × IsValue parse t part m
IsTextBound parse t included part (Excluded m) = (included ≡ false) × IsValue parse t part m

-- The bytes are UTF-8, their characters the text of a range of two parts, and these are the bounds.
pub record AreBoundsInText {M : Type 0} (parse : Given → Outcome M) (t : Ty) (bytes : List ℕ) (below above : Bound M) : Type 0 where
  pub lower : Part
  pub upper : Part
  pub lower_included : Bool
  pub upper_included : Bool
  pub utf8 : is_utf8 bytes ≡ true
  pub whole : IsRangeText (chars bytes) lower upper lower_included upper_included
  pub start : IsTextBound parse t lower_included lower below
  pub end : IsTextBound parse t upper_included upper above

-- The bytes are UTF-8, and their characters this range: the text of the empty one, or one of these bounds.
abbrev pub IsRangeInText : {M : Type 0} → (Given → Outcome M) → Ty → List ℕ → RangeOf M → Type 0
IsRangeInText parse t bytes empty = (is_utf8 bytes ≡ true) × IsEmptyText (chars bytes)
IsRangeInText parse t bytes (bounds below above) = AreBoundsInText parse t bytes below above

-- no text is two ranges
abbrev pub OneRangeInText : {M : Type 0} → (Given → Outcome M) → Ty → Type 0
OneRangeInText {M} parse t = (bytes : List ℕ) (m other : RangeOf M) → IsRangeInText parse t bytes m → IsRangeInText parse t bytes other → m ≡ other
