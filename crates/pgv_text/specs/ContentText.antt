-- What a text is of: the parts of a nest, or the empty range (PostgreSQL: "Range Types", 8.17.5). The empty range is
-- `empty`, each letter in upper or lower case, and nothing beside it (`IsEmptyText`). A range text is of the empty
-- range or of the two bounds of a nest (`RangeContent`, `IsRangeOf`). An array or a record text is of a nest alone
-- (`Content`). Laws: what is computed is exactly this (`range_is_computed`), and no text is of two ranges
-- (`one_range`).
use Rattle.std.specs.Prelude.{◌≡◌, ℕ, Bool, false, List, [], Option, Some, codes, if◌then◌else◌}
use Rattle.std.specs.Option.{option_map}
use Rattle.std.specs.Str.{str_eq_ignore_ascii_case, str_to_ascii_lowercase}
use Rattle.pgv_text.specs.declared.scanner.TextForm.{TextForm}
use Rattle.pgv_text.specs.declared.scanner.TextForm.TheVariants.{Array, Range, Record}
use Rattle.pgv_text.specs.NestPieces.{Nest, IsNestText}
use Rattle.pgv_text.specs.ScannedPieces.{nest_of}
use Rattle.pgv_text.specs.ArrayText.{array_form}
use Rattle.pgv_text.specs.RangeText.{range_form}
use Rattle.pgv_text.specs.RecordText.{record_form}

-- ---- of ranges

-- These characters are `empty`, each in upper or lower case.
abbrev pub IsEmptyText : List ℕ → Type 0
IsEmptyText text = str_to_ascii_lowercase text ≡ codes "empty"

-- What a range text is of: no value at all, or two bounds.
pub data RangeContent : Type 0 where
  empty : RangeContent
  parts : Nest → RangeContent

-- These characters are the empty range, or a range of these bounds.
abbrev pub IsRangeOf : List ℕ → RangeContent → Type 0
IsRangeOf text empty = IsEmptyText text
IsRangeOf text (parts nest) = IsNestText range_form text nest

-- ---- computed; the laws say that a range text is of exactly this

abbrev pub is_empty_text : List ℕ → Bool
is_empty_text text = str_eq_ignore_ascii_case text (codes "empty")

abbrev pub range_content : List ℕ → Option RangeContent
range_content text = if is_empty_text text then Some empty else option_map parts (nest_of range_form text)

-- ---- of a text of any form: arrays and records have parts alone

abbrev pub Content : TextForm → Type 0
Content Array = Nest
Content Range = RangeContent
Content Record = Nest

abbrev pub content_of : (form : TextForm) → List ℕ → Option (Content form)
content_of Array text = nest_of array_form text
content_of Range text = range_content text
content_of Record text = nest_of record_form text

-- whether the text is that of the empty range, in the form of ranges
abbrev pub is_empty_in : TextForm → List ℕ → Bool
is_empty_in Array text = false
is_empty_in Range text = is_empty_text text
is_empty_in Record text = false

-- no parts, between brackets that include nothing
abbrev pub no_parts : Nest
no_parts = record { values = []; lower = false; upper = false }
