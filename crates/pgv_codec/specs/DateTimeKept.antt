-- What comes back of a time, a date-time and an instant: whole microseconds. A time is cut towards midnight. A
-- date-time and an instant are cut towards 2000-01-01 00:00: they come back as the moment of the microseconds that are
-- written. All other plain values are kept as they are.
use Rattle.std.specs.Prelude.{◌≡◌, ◌*◌, ◌/◌, ℤ, pos, negsuc, neg_ℤ, int_div, ◌-ℤ◌, ◌*ℤ◌, ◌≤ℤ◌}
use Rattle.std.proofs.Common.{arith}
use Rattle.std.proofs.lemmas.Int.{ints}
use Rattle.jiff_core.specs.declared.civil.datetime.DateTime.{DateTime}
use Rattle.jiff_core.specs.declared.civil.time.Time.{Time}
use Rattle.jiff_core.specs.declared.timestamp.Timestamp.{Timestamp}
use Rattle.jiff_core.specs.DateTime.{civil_nanos}
use Rattle.jiff_core.specs.Time.{time_nanos}
use Rattle.jiff_core.specs.Timestamp.{IsTimestampNanos}
use Rattle.jiff_core.proofs.DateTimeLemmas.{time_nanos_bound}
use Rattle.pgv_value.specs.DateTimeBinary.{first_nanosecond, nanos_after}
use Rattle.pgv_codec.specs.DateTimeImage.{micros_of}
use Rattle.pgv_codec.specs.DateTimeLemmas.{is_found}
use Rattle.pgv_codec.specs.TimeOfDay.{time_of, time_nanos-time_of, whole_micros, cut_fits}

-- ---- a time

abbrev pub time_kept : Time → Time
time_kept t = time_of (whole_micros (time_nanos t)) (cut_fits (time_nanos t) (time_nanos_bound t))

pub time_kept_cut : (t : Time) → time_nanos (time_kept t) ≡ time_nanos t / 1000 * 1000
time_kept_cut t = time_nanos-time_of (whole_micros (time_nanos t)) (cut_fits (time_nanos t) (time_nanos_bound t))

-- ---- a date-time: the one that has the nanoseconds of the microseconds that are written, which there is (`is_found`)

abbrev pub date_time_kept : DateTime → DateTime
date_time_kept at = (is_found at).0

pub date_time_kept_cut : (at : DateTime) → nanos_after (micros_of (civil_nanos at)) ≡ civil_nanos (date_time_kept at)
date_time_kept_cut at = (is_found at).1

-- ---- an instant

-- a difference that is cut towards zero stays between two numbers around it
cut_between : (low high x : ℤ) → low ≤ℤ pos 0 → pos 0 ≤ℤ high → low ≤ℤ x → x ≤ℤ high → (low ≤ℤ (int_div x (pos 1000) *ℤ pos 1000)) × ((int_div x (pos 1000) *ℤ pos 1000) ≤ℤ high)
cut_between low high (pos n) a b l h = (omega (arith, ints, a), omega (arith, ints, h))
cut_between low high (negsuc n) a b l h = (omega (arith, ints, l), omega (arith, ints, b))

pub instant_fits : (n : ℤ) → IsTimestampNanos n → IsTimestampNanos (nanos_after (micros_of n))
instant_fits n h =
    let low : ℤ = neg_ℤ (pos 378_651_708_001_000_000_000) in
    let high : ℤ = pos 252_455_522_400_999_999_999 in
    let c = cut_between low high (n -ℤ first_nanosecond) (omega (arith, ints)) (omega (arith, ints)) (omega (arith, ints, h.0)) (omega (arith, ints, h.1)) in
    (omega (arith, ints, c.0), omega (arith, ints, c.1))

abbrev pub instant_kept : Timestamp → Timestamp
instant_kept at = record { nanosecond = nanos_after (micros_of at.nanosecond); in_range = instant_fits at.nanosecond at.in_range }
