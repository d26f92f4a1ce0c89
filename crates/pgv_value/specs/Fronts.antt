-- What is in front of bytes: numbers, the highest byte first, texts that a zero byte ends, and parts; each is read with
-- the rest, without memory. What isn't there is C15, and a text that isn't UTF-8 C14.
use Rattle.std.specs.Prelude.{ℕ, ℤ, ◌+◌, ◌==◌, nat_lt, List, length, take, drop, Option, option_map, ok_or, Ok, Err, if◌then◌else◌}
use Rattle.std.specs.List.{position}
use Rattle.std.specs.Int.{w16, from_be_bytes}
use Rattle.pgv_types.specs.Ty.{Ty}
use Rattle.pgv_value.specs.FrameBinary.{Part, front, frame_fault}
use Rattle.pgv_value.specs.ReadingSteps.{number, signed_two}
use Rattle.pgv_value.specs.Text.{is_utf8}
use Rattle.pgv_value.specs.declared.error.CodecError.TheVariants.{Short, OutOfRange, Utf8}
use Rattle.pgv_value.specs.declared.value.PgValueFormat.{PgValueFormat}
use Rattle.pgv_value.specs.declared.value.PgValueFormat.TheVariants.{Text, Binary}
use Rattle.pgv_value.specs.Outcome.{Outcome, in_place}
use Rattle.pgv_value.specs.Parsed.{Parsed, ◌>>=◌}
use Rattle.pgv_value.specs.ValueView.{Given, given}

-- the unsigned number of 16 bits
unfoldable pub u16_front : List ℕ → Parsed (ℕ × List ℕ)
u16_front bytes = if nat_lt (length bytes) 2 then Err Short else Ok (from_be_bytes w16 (take 2 bytes), drop 2 bytes)

-- the signed number of 16 bits
abbrev pub i16_front : List ℕ → Parsed (ℤ × List ℕ)
i16_front bytes = ok_or (signed_two bytes) Short

-- the unsigned number of 32 bits
abbrev pub u32_front : List ℕ → Parsed (ℕ × List ℕ)
u32_front bytes = ok_or (number bytes) Short

-- where the first zero byte is, if there is one
abbrev pub first_zero : List ℕ → Option ℕ
first_zero bytes = position (λ b. b == 0) bytes

-- the bytes before the first zero byte, and the rest after that
unfoldable pub ended_front : List ℕ → Parsed (List ℕ × List ℕ)
ended_front bytes = ok_or (option_map (λ i. (take i bytes, drop (i + 1) bytes)) (first_zero bytes)) Short

-- the text before the first zero byte, and the rest after that
unfoldable pub name_front : List ℕ → Parsed (List ℕ × List ℕ)
name_front bytes = ended_front bytes >>= λ name. if is_utf8 name.0 then Ok name else Err Utf8

-- the part of a frame
abbrev pub part_front : List ℕ → Parsed (Part × List ℕ)
part_front bytes = ok_or (front bytes) (frame_fault bytes)

abbrev pub one_part : List ℕ → Outcome (Part × List ℕ)
one_part bytes = in_place (part_front bytes)

-- the part of a frame as a value of a type and in a format
abbrev pub value_front : Ty → PgValueFormat → List ℕ → Parsed (Given × List ℕ)
value_front t format bytes = part_front bytes >>= λ p. Ok (given t format p.0, p.1)

-- ---- the same as steps of an outcome

abbrev pub u32_at : List ℕ → Outcome (ℕ × List ℕ)
u32_at bytes = in_place (u32_front bytes)

-- the part of a frame as a value in binary
abbrev pub value_at : Ty → List ℕ → Outcome (Given × List ℕ)
value_at t bytes = in_place (value_front t Binary bytes)

-- the format of a code: 0 is text and 1 binary, and any other is C30
abbrev pub format_of_code : ℕ → Parsed PgValueFormat
format_of_code code = if code == 0 then Ok Text else if code == 1 then Ok Binary else Err OutOfRange

-- the code of a format
abbrev pub format_number : PgValueFormat → ℕ
format_number Text = 0
format_number Binary = 1
