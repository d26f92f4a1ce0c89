-- The time of day of a number of nanoseconds, and the whole microseconds of such a number.
use Rattle.std.specs.Prelude.{ℕ, ◌*◌, ◌/◌, ◌%◌, ◌<◌, ◌≡◌}
use Rattle.std.proofs.Common.{arith}
use Rattle.jiff_core.specs.declared.civil.time.Time.{Time}
use Rattle.jiff_core.specs.Time.{time_nanos}

pub hour_fits : (n : ℕ) → n < 86_400_000_000_000 → n / 3_600_000_000_000 < 24
hour_fits n lt = omega arith

pub minute_fits : (n : ℕ) → n / 60_000_000_000 % 60 < 60
minute_fits n = omega arith

pub second_fits : (n : ℕ) → n / 1_000_000_000 % 60 < 60
second_fits n = omega arith

pub fraction_fits : (n : ℕ) → n % 1_000_000_000 < 1_000_000_000
fraction_fits n = omega arith

abbrev pub time_of : (n : ℕ) → n < 86_400_000_000_000 → Time
time_of n lt = record {
  hour = n / 3_600_000_000_000;
  minute = n / 60_000_000_000 % 60;
  second = n / 1_000_000_000 % 60;
  subsec_nanosecond = n % 1_000_000_000;
  hour_in = hour_fits n lt;
  minute_in = minute_fits n;
  second_in = second_fits n;
  subsec_in = fraction_fits n;
}

-- whole microseconds of a number of nanoseconds
abbrev pub whole_micros : ℕ → ℕ
whole_micros n = n / 1000 * 1000

pub cut_fits : (n : ℕ) → n < 86_400_000_000_000 → whole_micros n < 86_400_000_000_000
cut_fits n lt = omega arith

pub time_nanos-time_of : (n : ℕ) (lt : n < 86_400_000_000_000) → time_nanos (time_of n lt) ≡ n
time_nanos-time_of n lt = omega arith
