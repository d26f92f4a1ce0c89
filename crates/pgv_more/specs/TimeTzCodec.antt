-- What times of day with an offset are written as and read from (PostgreSQL: "Date/Time Types", 8.5, timetz): the
-- microseconds of the day in eight bytes, what is less cut off, and the seconds west of UTC in four (`other_way`), each
-- signed, the highest byte first. Such a time is seen as its nanoseconds of the day and its seconds east of UTC
-- (`time_tz_numbers`). The size hint is 12. An offset of 86400 seconds or more in size is refused (C6). Read in binary:
-- the first twelve bytes (C15), whatever comes after them. They are the microseconds of the day, taken round the clock,
-- and the seconds west of UTC, less than 86400 in size (C6, with the seconds that the bytes have). In text: a time and
-- an offset (`time_tz_value`).
use Rattle.std.specs.Prelude.{ℕ, ◌/◌, nat_lt, if◌then◌else◌, ℤ, pos, neg_ℤ, unsigned_abs, List, ◌++◌, length, drop, Option, Some, None, Ok, ok_or}
use Rattle.std.specs.Int.{w32, w64, cast_unsigned, to_be_bytes}
use Rattle.pgv_scalar_text.specs.DateTimeText.{time_tz_value, zoned_numbers}
use Rattle.pgv_buf.specs.Tokens.{bytes}
use Rattle.pgv_codec.specs.Encoding.{Image, image_of, writes}
use Rattle.pgv_value.specs.DateTimeBinary.{time_after}
use Rattle.pgv_value.specs.Interval.{eight_bytes, signed_four_bytes}
use Rattle.pgv_value.specs.IntBinary.{fits_signed}
use Rattle.pgv_value.specs.Outcome.{Outcome, or_fail, ◌>>=◌}
use Rattle.pgv_value.specs.Parsed.{Parsed, ◌>>=◌ as ◌and_then◌}
use Rattle.pgv_value.specs.ScalarGrammar.{scalar}
use Rattle.pgv_value.specs.ValueView.{Given}
use Rattle.pgv_value.specs.declared.error.CodecError.TheVariants.{Short, Syntax, OffsetRange}
use Rattle.pgv_more.specs.declared.time_tz.PgTimeTz.{PgTimeTz}

-- the nanoseconds of the day, and the seconds east of UTC
abbrev pub time_tz_numbers : PgTimeTz → ℕ × ℤ
time_tz_numbers v = zoned_numbers (v.time, v.offset)

-- an offset the other way round, from seconds east to seconds west and back, where it is less than a day in size
abbrev pub other_way : ℤ → Option ℤ
other_way seconds = if nat_lt (unsigned_abs seconds) 86_400 then Some (neg_ℤ seconds) else None

-- ---- written

-- microseconds of the day and seconds west
abbrev pub bytes_of_numbers : ℤ → ℤ → List ℕ
bytes_of_numbers micros west = to_be_bytes w64 (cast_unsigned w64 micros) ++ to_be_bytes w32 (cast_unsigned w32 west)

abbrev pub image_of_numbers : ℤ → ℤ → Option Image
image_of_numbers micros west = if fits_signed w64 micros then Some (image_of (bytes (bytes_of_numbers micros west))) else None

-- what is less than a microsecond is cut off; an offset of a day or more in size is C6, before memory is asked for
abbrev pub time_tz_image : ℕ × ℤ → Outcome Image
time_tz_image zoned = do
  west ← or_fail (other_way zoned.1) (OffsetRange zoned.1)
  writes (image_of_numbers (pos (zoned.0 / 1000)) west)

-- ---- read

-- the two numbers of the first twelve bytes, and anything after them
abbrev pub two_numbers : List ℕ → Option (ℤ × ℤ)
two_numbers form = if nat_lt (length form) 12 then None else Some (eight_bytes form, signed_four_bytes (drop 8 form))

-- an offset of a day or more in size is C6
abbrev pub time_tz_of : ℤ × ℤ → Parsed (ℕ × ℤ)
time_tz_of numbers = ok_or (other_way numbers.1) (OffsetRange numbers.1) and_then λ east. Ok (time_after numbers.0, east)

-- fewer than twelve bytes are C15
abbrev pub time_tz_in_binary : List ℕ → Parsed (ℕ × ℤ)
time_tz_in_binary form = ok_or (two_numbers form) Short and_then time_tz_of

abbrev pub parse_time_tz : Given → Parsed (ℕ × ℤ)
parse_time_tz = scalar time_tz_in_binary (λ text. ok_or (time_tz_value text) Syntax)
