-- What intervals are written as (PostgreSQL: "Date/Time Types", 8.5.4, interval): microseconds in eight bytes, days in
-- four and months in four, each signed, the highest byte first. The size hint is 16. A duration is written as the
-- interval of its microseconds (`interval_of`), with no days and no months. It has no image where it isn't whole
-- microseconds (C4) or where 64 bits don't have their number (C5).
use Rattle.std.specs.Prelude.{ℤ, ◌++◌, ◌&&◌, Option, Some, None, if◌then◌else◌}
use Rattle.std.specs.Int.{w32, w64, cast_unsigned, to_be_bytes}
use Rattle.pgv_buf.specs.Tokens.{bytes}
use Rattle.pgv_value.specs.Interval.{interval_of}
use Rattle.pgv_value.specs.IntBinary.{fits_signed}
use Rattle.pgv_value.specs.declared.interval.PgInterval.{PgInterval}
use Rattle.pgv_value.specs.Outcome.{Outcome, in_place, ◌>>=◌}
use Rattle.pgv_codec.specs.Encoding.{Image, image_of, writes}

-- an interval whose numbers have room
abbrev pub interval_image : PgInterval → Option Image
interval_image i =
    if fits_signed w64 i.microseconds && (fits_signed w32 i.days && fits_signed w32 i.months) then
    Some (image_of (bytes (to_be_bytes w64 (cast_unsigned w64 i.microseconds) ++ (to_be_bytes w32 (cast_unsigned w32 i.days) ++ to_be_bytes w32 (cast_unsigned w32 i.months)))))
    else None

-- a duration of this number of nanoseconds, as the interval of its microseconds
abbrev pub duration_image : ℤ → Outcome Image
duration_image nanos = do
  interval ← in_place (interval_of nanos)
  writes (interval_image interval)
