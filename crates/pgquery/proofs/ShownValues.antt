-- What is shown of a column whose value was read: null, or its text.
use Rattle.std.proofs.Common.{◌≡◌, ℕ, Bool, true, false, cond, nat_lt, List, [], ◌∷◌, length, Option, Some, None, is_none, Result, Ok, refl, ap, ◌∙◌}
use Rattle.pgquery.specs.RowLines.{escaped, json_part, json_value, part_shown, string_of, value_shown}
use Rattle.pgv.specs.Words.{Given, Part}
use Rattle.pgv_row.specs.Errors.{GivesAt}
use Rattle.pgv_row.specs.RowView.{Row, place_at, value_at_column}
use Rattle.pgv_row.specs.RowValues.{raw_value}
use Rattle.pgv_row.specs.declared.error.ColumnError.{ColumnError}
use Rattle.pgv_types.specs.Facts.{is_custom}
use Rattle.pgv_value.specs.Outcome.{or_fail, allocates, done, ◌>>=◌, ◌>>◌}
use Rattle.pgv_value.specs.declared.error.CodecError.TheVariants.{NoField}

value_there : (row : Row) (place : ℕ) (v : Given) → (raw_value row place).answer ≡ Ok v → value_at_column row place ≡ Some v
unfolding raw_value
value_there row place v is = by (value_at_column row place) is
  where
    by : (o : Option Given) → (or_fail o (NoField place) >>= λ value. allocates (is_custom value.type_info) >> done value).answer ≡ Ok v → o ≡ Some v
    by None h = absurd cc
    by (Some w) h = cc

-- what was read by a place is the value there
abbrev Read : Row → ℕ → Given → Type 0
Read row place v = GivesAt (λ (x : Given). x) place (place_at place row.columns) place (raw_value row) (let r : Result Given (ColumnError ℕ) = Ok v in r)

read_there : (row : Row) (place : ℕ) (v : Given) → Read row place v → value_at_column row place ≡ Some v
read_there row place v read = by (nat_lt place (length row.columns)) read
  where
    by : (b : Bool) → GivesAt (λ (x : Given). x) place (cond b (Some place) None) place (raw_value row) (let r : Result Given (ColumnError ℕ) = Ok v in r) → value_at_column row place ≡ Some v
    by true h = value_there row place v h
    by false h = absurd h

null_part : (part : Part) → is_none part ≡ true → part_shown part ≡ 92 ∷ 78 ∷ []
null_part None is = refl
null_part (Some text) is = absurd cc

pub null_shown : (row : Row) (place : ℕ) (v : Given) → Read row place v → is_none v.bytes ≡ true → value_shown (value_at_column row place) ≡ 92 ∷ 78 ∷ []
null_shown row place v read is = ap value_shown (read_there row place v read) ∙ null_part v.bytes is

pub text_shown : (row : Row) (place : ℕ) (v : Given) (text : List ℕ) → Read row place v → v.bytes ≡ Some text → value_shown (value_at_column row place) ≡ escaped text
text_shown row place v text read is = ap value_shown (read_there row place v read) ∙ ap part_shown is

null_member : (part : Part) → is_none part ≡ true → json_part part ≡ 110 ∷ 117 ∷ 108 ∷ 108 ∷ []
null_member None is = refl
null_member (Some text) is = absurd cc

pub null_in_object : (row : Row) (place : ℕ) (v : Given) → Read row place v → is_none v.bytes ≡ true → json_value (value_at_column row place) ≡ 110 ∷ 117 ∷ 108 ∷ 108 ∷ []
null_in_object row place v read is = ap json_value (read_there row place v read) ∙ null_member v.bytes is

pub text_in_object : (row : Row) (place : ℕ) (v : Given) (text : List ℕ) → Read row place v → v.bytes ≡ Some text → json_value (value_at_column row place) ≡ string_of text
text_in_object row place v text read is = ap json_value (read_there row place v read) ∙ ap json_part is
