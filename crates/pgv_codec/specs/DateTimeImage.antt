-- What dates, times, date-times and instants are written as (PostgreSQL: "Date/Time Types", 8.5): whole numbers, the
-- highest byte first. A date is seen as its day number from 1970-01-01, a time as its nanoseconds, and a date-time and
-- an instant as their nanoseconds from 1970. A date is written as its days from 2000-01-01 in four bytes. A time is
-- written as its microseconds in eight bytes; what is less is cut off. A date-time, and an instant in UTC, is written
-- as its microseconds from 2000-01-01 00:00 in eight bytes. The difference is cut towards zero (`micros_of`), so one
-- before 2000 is cut upwards. The size hint is 4 for a date and 8 for the others.
use Rattle.std.specs.Prelude.{ℕ, ◌/◌, ℤ, pos, ◌-ℤ◌, int_div, Option}
use Rattle.std.specs.Int.{w32, w64}
use Rattle.pgv_value.specs.DateTimeBinary.{first_day, first_nanosecond}
use Rattle.pgv_codec.specs.Encoding.{Image}
use Rattle.pgv_codec.specs.ScalarImage.{signed_image}

-- a day, as days from 2000-01-01
abbrev pub days_of : ℤ → ℤ
days_of day = day -ℤ first_day

abbrev pub date_image : ℤ → Option Image
date_image day = signed_image w32 (days_of day)

-- a time, as microseconds of the day, the rest cut off
abbrev pub time_image : ℕ → Option Image
time_image nanos = signed_image w64 (pos (nanos / 1000))

-- a moment, as microseconds from 2000-01-01 00:00, the difference cut towards zero
abbrev pub micros_of : ℤ → ℤ
micros_of nanos = int_div (nanos -ℤ first_nanosecond) (pos 1000)

abbrev pub moment_image : ℤ → Option Image
moment_image nanos = signed_image w64 (micros_of nanos)
