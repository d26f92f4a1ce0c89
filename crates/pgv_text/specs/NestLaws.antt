-- The laws of the texts of arrays, ranges and records.
use Rattle.std.specs.Prelude.{◌≡◌, ◌↔◌, ℕ, true, ◌==◌, List, Some, Option}
use Rattle.std.specs.List.{AllByRecursion}
use Rattle.std.specs.Str.{chars, IsUtf8}
use Rattle.pgv_characters.specs.Characters.{left_bracket, right_bracket}
use Rattle.pgv_text.specs.Spellings.{IsOptionalText, IsSpelled, AreEnough, nest_text}
use Rattle.pgv_text.specs.declared.scanner.TextForm.{TextForm}
use Rattle.pgv_text.specs.Forms.{form_of}
use Rattle.pgv_text.specs.ArrayText.{IsArrayText}
use Rattle.pgv_text.specs.RecordText.{IsRecordText}
use Rattle.pgv_text.specs.ContentText.{IsRangeOf, RangeContent, range_content}
use Rattle.pgv_text.specs.NestPieces.{Pairwise, Nest, IsNestText}
use Rattle.pgv_text.specs.ScannedPieces.{nest_of}
use Rattle.pgv_text.specs.Values.{array_values, record_values}

-- Values and brackets are computed from a text iff the grammar assigns them to the text.
unfoldable pub NestIsComputed : Type 0
NestIsComputed = (form : TextForm) (text : List ℕ) (nest : Nest) → (nest_of (form_of form) text ≡ Some nest) ↔ IsNestText (form_of form) text nest

-- A text denotes at most one list of values, with one reading of its brackets.
unfoldable pub OneNest : Type 0
OneNest = (form : TextForm) (text : List ℕ) (nest other : Nest) → IsNestText (form_of form) text nest → IsNestText (form_of form) text other → nest ≡ other

-- Values are computed from a text iff the grammar of arrays, or of records, assigns them to the text.
unfoldable pub ArrayIsItsValues : Type 0
ArrayIsItsValues = (text : List ℕ) (values : List (Option (List ℕ))) → (array_values text ≡ Some values) ↔ IsArrayText (chars text) values

unfoldable pub RecordIsItsValues : Type 0
RecordIsItsValues = (text : List ℕ) (values : List (Option (List ℕ))) → (record_values text ≡ Some values) ↔ IsRecordText (chars text) values

-- Every spelling of values, between brackets of the form, is UTF-8 and denotes these values.
unfoldable pub SpelledReadsBack : Type 0
SpelledReadsBack = (form : TextForm) (opening closing : ℕ) (values : List (Option (List ℕ))) (spellings : List (List ℕ)) →
    (form_of form).opens opening ≡ true → (form_of form).closes closing ≡ true → AreEnough (form_of form).count values → AllByRecursion IsOptionalText values → Pairwise (IsSpelled (form_of form)) values spellings →
    IsUtf8 (nest_text opening closing spellings) × IsNestText (form_of form) (chars (nest_text opening closing spellings)) (record { values = values; lower = opening == left_bracket; upper = closing == right_bracket })

-- Every list of as many optional texts as the form has parts has a text, with any brackets of the form.
abbrev pub EveryListHasAText : Type 0
EveryListHasAText = (form : TextForm) (opening closing : ℕ) (values : List (Option (List ℕ))) →
    (form_of form).opens opening ≡ true → (form_of form).closes closing ≡ true → AreEnough (form_of form).count values → AllByRecursion IsOptionalText values →
    (text : List ℕ) × IsUtf8 text × IsNestText (form_of form) (chars text) (record { values = values; lower = opening == left_bracket; upper = closing == right_bracket })

-- The values of a text in UTF-8 are null or UTF-8.
unfoldable pub ValuesAreTexts : Type 0
ValuesAreTexts = (form : TextForm) (text : List ℕ) (nest : Nest) → IsUtf8 text → IsNestText (form_of form) (chars text) nest → AllByRecursion IsOptionalText nest.values

-- What is computed from a range text is what it is of, and so it is of one only: of the empty range, or of one reading
-- of two bounds.
abbrev pub RangeIsComputed : Type 0
RangeIsComputed = (text : List ℕ) (content : RangeContent) → (range_content text ≡ Some content) ↔ IsRangeOf text content

abbrev pub OneRangeOfText : Type 0
OneRangeOfText = (text : List ℕ) (content other : RangeContent) → IsRangeOf text content → IsRangeOf text other → content ≡ other
