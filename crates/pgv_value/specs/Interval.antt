-- Intervals (PostgreSQL: "Date/Time Types", 8.5.4, interval), and what is read from them: the first sixteen bytes, and
-- no text.
use mir.Val.{SFits}
use lib.IntN.{◌*ℤ◌}
use Rattle.std.specs.Prelude.{◌≡◌, ◌↔◌, ℕ, nat_lt, ℤ, pos, List, length, take, drop, Result, Ok, Err, if◌then◌else◌}
use Rattle.std.specs.Int.{w32, w64, from_be_bytes, cast_signed}
use Rattle.std.specs.Int.RustNames.{int_div, int_rem}
use Rattle.std.specs.Ordering.{int_eq}
use Rattle.pgv_value.specs.IntBinary.{fits_signed}
use Rattle.pgv_value.specs.Parsed.{Parsed}
use Rattle.pgv_value.specs.ScalarGrammar.{binary_alone}
use Rattle.pgv_value.specs.ValueView.{Given}
use Rattle.pgv_value.specs.declared.interval.PgInterval.{PgInterval}
use Rattle.pgv_value.specs.declared.error.CodecError.{CodecError}
use Rattle.pgv_value.specs.declared.error.CodecError.TheVariants.{IntervalPrecision, IntervalOverflow, Short}

-- ---- of durations

-- these microseconds, no days and no months
abbrev pub of_microseconds : ℤ → PgInterval
of_microseconds m = record { months = pos 0; days = pos 0; microseconds = m }

-- the interval of a number of nanoseconds: C4 where they aren't whole microseconds, C5 where 64 bits have no such
-- number of these
abbrev pub interval_of : ℤ → Result PgInterval CodecError
interval_of nanos =
    if int_eq (int_rem nanos (pos 1000)) (pos 0) then
    (if fits_signed w64 (int_div nanos (pos 1000)) then Ok (of_microseconds (int_div nanos (pos 1000))) else Err IntervalOverflow)
    else Err IntervalPrecision

-- the interval has this number of nanoseconds
abbrev pub IsOfNanoseconds : ℤ → PgInterval → Type 0
IsOfNanoseconds nanos i = (i.months ≡ pos 0) × (i.days ≡ pos 0) × (i.microseconds *ℤ pos 1000 ≡ nanos) × SFits w64 i.microseconds

abbrev pub IntervalIsItsMicroseconds : Type 0
IntervalIsItsMicroseconds = (nanos : ℤ) (i : PgInterval) → (interval_of nanos ≡ Ok i) ↔ IsOfNanoseconds nanos i

-- ---- in binary

-- the signed numbers of eight and of four bytes at the front, the highest byte first
abbrev pub eight_bytes : List ℕ → ℤ
eight_bytes bytes = cast_signed w64 (from_be_bytes w64 (take 8 bytes))

abbrev pub signed_four_bytes : List ℕ → ℤ
signed_four_bytes bytes = cast_signed w32 (from_be_bytes w32 (take 4 bytes))

-- microseconds, days and months, and anything after them; fewer than sixteen bytes are C15
abbrev pub interval_in_binary : List ℕ → Parsed PgInterval
interval_in_binary bytes =
    if nat_lt (length bytes) 16 then Err Short else
    Ok (record { months = signed_four_bytes (drop 12 bytes); days = signed_four_bytes (drop 8 bytes); microseconds = eight_bytes bytes })

-- intervals are not read from text
abbrev pub parse_interval : Given → Parsed PgInterval
parse_interval = binary_alone interval_in_binary
