-- The values of a text of bytes, computed.
use Rattle.std.specs.Prelude.{ℕ, List, Option, String, Vec, map, string_bytes}
use Rattle.std.specs.Option.{option_map}
use Rattle.std.specs.Str.{chars}
use Rattle.pgv_text.specs.ArrayText.{array_form}
use Rattle.pgv_text.specs.RecordText.{record_form}
use Rattle.pgv_text.specs.ScannedPieces.{nest_of}

-- The elements of an array text, and the fields of a record text; the laws say that these are exactly the
-- values that the text is of.
abbrev pub array_values : List ℕ → Option (List (Option (List ℕ)))
array_values text = option_map (λ nest. nest.values) (nest_of array_form (chars text))

abbrev pub record_values : List ℕ → Option (List (Option (List ℕ)))
record_values text = option_map (λ nest. nest.values) (nest_of record_form (chars text))

-- The bytes of an optional text.
abbrev pub part_bytes : {Z : Type 0} → Option (String Z) → Option (List ℕ)
part_bytes part = option_map string_bytes part

-- The optional texts of a list, as bytes.
abbrev pub values_of : {Y Z : Type 0} → Vec (Option (String Z)) Y → List (Option (List ℕ))
values_of v = map part_bytes v.items
