-- Numbers of float8 by their bits: eight bytes in binary, read as an int8 is, and no text.
use Rattle.std.specs.Prelude.{◌≡◌, ◌==◌, ℤ, if◌then◌else◌, List, ℕ, length, Some, Err, refl}
use Rattle.std.specs.Int.{w64, cast_unsigned, to_be_bytes}
use Rattle.pgv.specs.Words.{Binary, Given, Parsed, PlainRules, ReadsBack, WrongLength, always, binary_alone, builtin, int_in_binary, parse_int, plainly, reading_of, text_image, signed_image, softly, without_memory, writes, written_part}
use Rattle.pgv.specs.Lemmas.{guarded, image_is, int8_back, part_is}
use Rattle.pgv_examples.specs.declared.float8.Float8.{Float8}

-- another number of bytes is C17
abbrev pub float_in_binary : List ℕ → Parsed ℤ
float_in_binary bytes = if length bytes == 8 then int_in_binary w64 bytes else Err (WrongLength (length bytes))

abbrev pub parse_float : Given → Parsed ℤ
parse_float = binary_alone float_in_binary

pub float_back : ReadsBack {A = Float8} (λ number. plainly (writes (signed_image w64 number.0))) (reading_of (without_memory parse_float)) (λ number. number.0) always
float_back number i t p oids e whole small fit =
    let sent : List ℕ = to_be_bytes w64 (cast_unsigned w64 number.0) in
    let part = part_is sent i p oids (guarded _ (text_image sent) i (image_is (signed_image w64 number.0) i e)).1 in
    let back : reading_of (without_memory (parse_int w64)) t Binary (written_part i p oids) ≡ Some number.0 = int8_back number.0 i t p oids e whole small fit in
    let read = rw part at back in
    rw part read

abbrev pub float_rules : PlainRules Float8
float_rules = record {
  info = builtin 701;
  array_info = builtin 1022;
  accepts = λ t. softly t (builtin 701);
  View = ℤ;
  view = λ number. number.0;
  image = λ bits. writes (signed_image w64 bits);
  parse = without_memory parse_float;
  null = λ _ _. refl;
  back = float_back;
}
