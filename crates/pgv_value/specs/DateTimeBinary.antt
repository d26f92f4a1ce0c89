-- What dates, times, date-times and instants read (PostgreSQL: "Date/Time Types", 8.5). A date is seen as its day
-- number from 1970-01-01, a time as its nanoseconds, and a date-time and an instant as their nanoseconds from 1970. One
-- to eight bytes, sign extended, are days from 2000-01-01 of a date, within four bytes; microseconds of the day of a
-- time, taken round the clock; microseconds from 2000-01-01 00:00 of a date-time, and of an instant in UTC. Outside the
-- dates, date-times and instants of jiff they are C30.
use mir.Syntax.{w32}
use Rattle.std.specs.Prelude.{ℕ, List, ◌*◌, ◌&&◌, if◌then◌else◌, ℤ, pos, neg_ℤ, ◌+ℤ◌, ◌*ℤ◌, int_le, unsigned_abs, Option, Some, None, Ok, ok_or}
use Rattle.std.specs.Int.{int_rem_euclid}
use Rattle.pgv_scalar_text.specs.DateTimeText.{date_value, time_value, date_time_value, instant_value, instant_nanos}
use Rattle.pgv_value.specs.IntBinary.{whole_number}
use Rattle.pgv_value.specs.Parsed.{Parsed, ◌>>=◌}
use Rattle.pgv_value.specs.ScalarGrammar.{int_in_binary, scalar}
use Rattle.pgv_value.specs.ValueView.{Given}
use Rattle.pgv_value.specs.declared.error.CodecError.TheVariants.{Syntax, OutOfRange}

-- 2000-01-01, as its day number and as its first nanosecond
abbrev pub first_day : ℤ
first_day = pos 10_957

abbrev pub first_nanosecond : ℤ
first_nanosecond = pos 946_684_800_000_000_000

-- The day number that many days after 2000-01-01, where there is such a date.
abbrev pub day_after : ℤ → Option ℤ
day_after days =
    if int_le (neg_ℤ (pos 4_371_587)) (days +ℤ first_day) && int_le (days +ℤ first_day) (pos 2_932_896) then Some (days +ℤ first_day)
    else None

-- The nanoseconds of the time that many microseconds after midnight, round the clock.
abbrev pub time_after : ℤ → ℕ
time_after micros = unsigned_abs (int_rem_euclid micros (pos 86_400_000_000)) * 1000

-- The nanoseconds from 1970 that many microseconds after 2000-01-01 00:00.
abbrev pub nanos_after : ℤ → ℤ
nanos_after micros = micros *ℤ pos 1000 +ℤ first_nanosecond

-- The number, if a date-time has it.
abbrev pub civil_at : ℤ → Option ℤ
civil_at nanos =
    if int_le (neg_ℤ (pos 377_705_116_800_000_000_000)) nanos && int_le nanos (pos 253_402_300_799_999_999_999) then Some nanos else None

-- date: whole days from 2000-01-01
abbrev pub date_of_bytes : List ℕ → Parsed ℤ
date_of_bytes bytes = int_in_binary w32 bytes >>= λ days. ok_or (day_after days) OutOfRange

abbrev pub parse_date : Given → Parsed ℤ
parse_date = scalar date_of_bytes (λ text. ok_or (date_value text) Syntax)

-- time: microseconds of the day, round the clock
abbrev pub parse_time : Given → Parsed ℕ
parse_time = scalar (λ bytes. whole_number bytes >>= λ micros. Ok (time_after micros)) (λ text. ok_or (time_value text) Syntax)

-- timestamp: microseconds from 2000-01-01 00:00
abbrev pub parse_date_time : Given → Parsed ℤ
parse_date_time =
    scalar (λ bytes. whole_number bytes >>= λ micros. ok_or (civil_at (nanos_after micros)) OutOfRange)
    (λ text. ok_or (date_time_value text) Syntax)

-- timestamptz: microseconds from 2000-01-01 00:00 UTC
abbrev pub parse_instant : Given → Parsed ℤ
parse_instant =
    scalar (λ bytes. whole_number bytes >>= λ micros. ok_or (instant_nanos (nanos_after micros)) OutOfRange)
    (λ text. ok_or (instant_value text) Syntax)
