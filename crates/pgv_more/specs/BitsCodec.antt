-- What lists of bits are (PostgreSQL: "Bit String Types"): their types, and what is read in either format.
use Rattle.std.specs.Prelude.{Bool, List, [], ◌∷◌, ok_or}
use Rattle.pgv_types.specs.Ty.{Ty, builtin}
use Rattle.pgv_codec.specs.ScalarImage.{softly_one_of}
use Rattle.pgv_value.specs.Formats.{in_both_formats}
use Rattle.pgv_value.specs.Outcome.{Outcome, copied}
use Rattle.pgv_value.specs.ValueView.{Given}
use Rattle.pgv_value.specs.declared.error.CodecError.TheVariants.{Syntax}
use Rattle.pgv_more.specs.BitsBinary.{bits_in_binary}
use Rattle.pgv_more.specs.BitsText.{bits_in_text}

-- bit and varbit
abbrev pub is_bits : Ty → Bool
is_bits t = softly_one_of (builtin 1560 ∷ builtin 1562 ∷ []) t

-- their arrays
abbrev pub is_bits_array : Ty → Bool
is_bits_array t = softly_one_of (builtin 1561 ∷ builtin 1563 ∷ []) t

-- a text that isn't digits is C29; memory is asked for where there are bits
abbrev pub parse_bits : Given → Outcome (List Bool)
parse_bits = in_both_formats (λ form. copied (bits_in_binary form)) (λ text. copied (ok_or (bits_in_text text) Syntax))
