-- There is a date-time at the moment of the microseconds that are written of another: they are cut towards 2000-01-01
-- 00:00, so before 2000 it may be the midnight that ends the day.
use Rattle.std.specs.Prelude.{◌≡◌, ℕ, suc, ◌+◌, ◌-◌, ◌*◌, ◌<◌, ◌≤◌, nat_lt, int_lt, int_div, Bool, true, false, ℤ, pos, negsuc, neg_ℤ, ◌+ℤ◌, ◌-ℤ◌, ◌≤ℤ◌, ◌<ℤ◌, ◌⊎◌, refl}
use Rattle.std.specs.Int.{IsInRange}
use Rattle.std.proofs.Common.{arith, ap, sym, ◌∙◌, inl, inr}
use Rattle.std.proofs.lemmas.Bool.{ltb-true, ltb-false}
use Rattle.std.proofs.lemmas.Int.{ints}
use Rattle.jiff_core.specs.declared.civil.date.Date.{Date}
use Rattle.jiff_core.specs.declared.civil.datetime.DateTime.{DateTime}
use Rattle.jiff_core.specs.Calendar.{days_in_month, days_from_civil, IsYear}
use Rattle.jiff_core.specs.Date.{epoch_day}
use Rattle.jiff_core.specs.DateTime.{civil_nanos}
use Rattle.jiff_core.specs.Time.{time_nanos}
use Rattle.jiff_core.proofs.CalendarLemmas.{days_in_month_bounds}
use Rattle.jiff_core.proofs.DateLemmas.{days_from_civil-day, days_from_civil-next_month, days_from_civil-next_year, IsEarlier, epoch_day-lt, epoch_day_same, cases_date}
use Rattle.jiff_core.proofs.DateTimeLemmas.{civil_nanos-parts, time_nanos_bound}
use Rattle.jiff_core.proofs.StandardFacts.{known_days}
use Rattle.pgv_scalar_text.specs.DateTimeText.{nanos_at}
use Rattle.pgv_value.specs.DateTimeBinary.{nanos_after}
use Rattle.pgv_codec.specs.DateTimeImage.{micros_of}
use Rattle.pgv_codec.specs.TimeOfDay.{time_of, time_nanos-time_of, whole_micros, cut_fits}

-- ---- each day before 2000 has a next one

abbrev HasNext : Date → Type 0
HasNext d = (next : Date) × (epoch_day next ≡ epoch_day d +ℤ pos 1)

first_of_month : (y : ℤ) (m : ℕ) → IsInRange 1 (days_in_month y m) 1
first_of_month y m = let b = days_in_month_bounds y m in (omega arith, omega (arith, b.1))

first_month : IsInRange 1 12 1
first_month = (omega arith, omega arith)

month_more : (m : ℕ) → nat_lt m 12 ≡ true → IsInRange 1 12 (m + 1)
month_more m e = let lt = ltb-true m 12 e in (omega arith, omega (arith, lt))

year_more : (y : ℤ) → IsYear y → y <ℤ pos 2000 → IsYear (y +ℤ pos 1)
year_more y h lt = (omega (arith, ints, h.0), omega (arith, ints, lt))

-- the last day of a month: the first of the next month, or of the next year
first_is_next : (d : Date) → d.year <ℤ pos 2000 → d.day ≡ days_in_month d.year d.month → (b : Bool) → nat_lt d.month 12 ≡ b → HasNext d
first_is_next d early last true e =
    let next : Date = record { year = d.year; month = d.month + 1; day = 1; year_in = d.year_in; month_in = month_more d.month e; day_in = first_of_month d.year (d.month + 1) } in
    (next, days_from_civil-next_month d.year d.month d.day d.month_in.0 last)
first_is_next d early last false e =
    let next : Date = record { year = d.year +ℤ pos 1; month = 1; day = 1; year_in = year_more d.year d.year_in early; month_in = first_month; day_in = first_of_month (d.year +ℤ pos 1) 1 } in
    let ge = ltb-false d.month 12 e in
    let top = d.month_in.1 in
    let twelve : d.month ≡ 12 = omega (arith, ge, top) in
    let day_is : d.day ≡ 31 = last ∙ ap (λ (m : ℕ). days_in_month d.year m) twelve in
    let low : neg_ℤ (pos 10000) ≤ℤ d.year = omega (arith, ints, d.year_in.0) in (
      next,
      days_from_civil-next_year d.year (d.year +ℤ pos 1) low refl
          ∙ ap (λ (z : ℤ). z +ℤ pos 1) (sym (ap (λ (m : ℕ). days_from_civil d.year m d.day) twelve ∙ ap (λ (x : ℕ). days_from_civil d.year 12 x) day_is)),
    )

next_by : (d : Date) → d.year <ℤ pos 2000 → (b : Bool) → nat_lt d.day (days_in_month d.year d.month) ≡ b → HasNext d
next_by d early true e =
    let lt = ltb-true d.day (days_in_month d.year d.month) e in
    let next : Date = record { year = d.year; month = d.month; day = d.day + 1; year_in = d.year_in; month_in = d.month_in; day_in = (omega arith, omega (arith, lt)) } in
    let k = days_from_civil-day d.year d.month d.day (d.day + 1) d.day_in.0 (omega arith) in
    (next, omega (arith, ints, k))
next_by d early false e =
    let ge = ltb-false d.day (days_in_month d.year d.month) e in
    let top = d.day_in.1 in
    first_is_next d early (omega (arith, ge, top)) _ refl

has_next : (d : Date) → d.year <ℤ pos 2000 → HasNext d
has_next d early = next_by d early _ refl

-- ---- 2000-01-01 is day 10957

this_year : IsYear (pos 2000)
this_year = (omega (arith, ints), omega (arith, ints))

abbrev new_year : Date
new_year = record { year = pos 2000; month = 1; day = 1; year_in = this_year; month_in = first_month; day_in = first_of_month (pos 2000) 1 }

its_day : epoch_day new_year ≡ pos 10_957
its_day = known_days.2

early_day : (d : Date) → d.year <ℤ pos 2000 → epoch_day d <ℤ pos 10_957
early_day d lt = let h = epoch_day-lt d new_year (inl lt) in omega (arith, ints, h, its_day)

not_earlier : (d : Date) → pos 2000 ≤ℤ d.year → IsEarlier d new_year → ⊥
not_earlier d ge (inl lt) = omega (arith, ints, ge, lt)
not_earlier d ge (inr (same, inl lt)) = let low = d.month_in.0 in omega (arith, low, lt)
not_earlier d ge (inr (same, inr day)) = let low = d.day_in.0 in let lt = day.1 in omega (arith, low, lt)

late_day : (d : Date) → pos 2000 ≤ℤ d.year → pos 10_957 ≤ℤ epoch_day d
late_day d ge = by (cases_date new_year d)
  where
    by : IsEarlier new_year d ⊎ (IsEarlier d new_year ⊎ ((pos 2000 ≡ d.year) × (1 ≡ d.month) × (1 ≡ d.day))) → pos 10_957 ≤ℤ epoch_day d
    by (inl lt) = let h = epoch_day-lt new_year d lt in omega (arith, ints, h, its_day)
    by (inr (inl gt)) = absurd (not_earlier d ge gt)
    by (inr (inr same)) = let h = epoch_day_same new_year d same.0 same.1 same.2 in omega (arith, ints, h, its_day)

-- ---- the moments

-- the whole microseconds that a number of nanoseconds begins
abbrev cut_up : ℕ → ℕ
cut_up n = whole_micros (n + 999)

-- that many days from 2000 on, or before it
late_cut : (k s : ℕ) → nanos_after (int_div (pos (k * 86_400_000_000_000 + s)) (pos 1000)) ≡ nanos_at (pos (10_957 + k)) (whole_micros s)
late_cut k s = omega (arith, ints)

early_cut : (a j s : ℕ) → suc a + s ≡ j * 86_400_000_000_000 → nanos_after (int_div (negsuc a) (pos 1000)) +ℤ pos (j * 86_400_000_000_000) ≡ nanos_at (pos 10_957) (cut_up s)
early_cut a j s e = omega (arith, ints, e)

-- a difference of natural numbers
late_difference : (n day : ℤ) (s : ℕ) → n ≡ nanos_at day s → (k : ℕ) → day ≡ pos (10_957 + k) → n -ℤ pos 946_684_800_000_000_000 ≡ pos (k * 86_400_000_000_000 + s)
late_difference n day s e k d = omega (arith, ints, e, d)

early_difference : (n day : ℤ) (s a j : ℕ) → n ≡ nanos_at day s → day +ℤ pos j ≡ pos 10_957 → suc a + s ≡ j * 86_400_000_000_000 → n -ℤ pos 946_684_800_000_000_000 ≡ negsuc a
early_difference n day s a j e d h = omega (arith, ints, e, d, h)

-- how many days a day is after 2000-01-01, and before it
days_late : (day : ℤ) → pos 10_957 ≤ℤ day → (k : ℕ) × (day ≡ pos (10_957 + k))
days_late (pos n) h = (n - 10_957, omega (arith, ints, h))
days_late (negsuc n) h = absurd (omega (arith, ints, h))

days_early : (day : ℤ) → day <ℤ pos 10_957 → (j : ℕ) × (day +ℤ pos j ≡ pos 10_957) × (1 ≤ j)
days_early (pos n) h = (10_957 - n, omega (arith, ints, h), omega (arith, ints, h))
days_early (negsuc n) h = (10_958 + n, omega (arith, ints), omega arith)

-- a moment from 2000 on
late_moment : (n day : ℤ) (s : ℕ) → n ≡ nanos_at day s → pos 10_957 ≤ℤ day → nanos_after (micros_of n) ≡ nanos_at day (whole_micros s)
late_moment n day s e late =
    let k = days_late day late in
    ap (λ (x : ℤ). nanos_after (int_div x (pos 1000))) (late_difference n day s e k.0 k.1) ∙ (late_cut k.0 s ∙ ap (λ (x : ℤ). nanos_at x (whole_micros s)) (sym k.1))

-- and one before it
early_moment : (n day : ℤ) (s : ℕ) → n ≡ nanos_at day s → day <ℤ pos 10_957 → s < 86_400_000_000_000 → nanos_after (micros_of n) ≡ nanos_at day (cut_up s)
early_moment n day s e early lt =
    let j = days_early day early in
    let at_least = j.2 in
    let a : ℕ = j.0 * 86_400_000_000_000 - s - 1 in
    let split : suc a + s ≡ j.0 * 86_400_000_000_000 = omega (arith, lt, at_least) in
    let same = ap (λ (x : ℤ). nanos_after (int_div x (pos 1000))) (early_difference n day s a j.0 e j.1 split) in
    let is = early_cut a j.0 s split in
    let days = j.1 in
    same ∙ omega (arith, ints, is, days)

-- ---- a date-time at a moment

abbrev HasMoment : ℤ → ℕ → Type 0
HasMoment day nanos = (at : DateTime) × (civil_nanos at ≡ nanos_at day nanos)

at_moment : (d : Date) (s : ℕ) → s < 86_400_000_000_000 → HasMoment (epoch_day d) s
at_moment d s lt =
    let at : DateTime = record { date = d; time = time_of s lt } in
    (at, civil_nanos-parts at ∙ ap (λ (x : ℕ). nanos_at (epoch_day d) x) (time_nanos-time_of s lt))

midnight_fits : 0 < 86_400_000_000_000
midnight_fits = omega arith

-- a day that ends is the next one's midnight
day_ends : (day : ℤ) (s : ℕ) → s < 86_400_000_000_000 → nat_lt (cut_up s) 86_400_000_000_000 ≡ false → nanos_at (day +ℤ pos 1) 0 ≡ nanos_at day (cut_up s)
day_ends day s lt e =
    let ge = ltb-false (cut_up s) 86_400_000_000_000 e in
    omega (arith, ints, lt, ge)

-- before 2000 the time is cut up, which may end its day
cut_up_found : (d : Date) (s : ℕ) → d.year <ℤ pos 2000 → s < 86_400_000_000_000 → (b : Bool) → nat_lt (cut_up s) 86_400_000_000_000 ≡ b → HasMoment (epoch_day d) (cut_up s)
cut_up_found d s early lt true e = at_moment d (cut_up s) (ltb-true (cut_up s) 86_400_000_000_000 e)
cut_up_found d s early lt false e =
    let next = has_next d early in
    let midnight = at_moment next.0 0 midnight_fits in
    (midnight.0, midnight.1 ∙ (ap (λ (x : ℤ). nanos_at x 0) next.1 ∙ day_ends (epoch_day d) s lt e))

-- ---- the date-time that is found

abbrev pub IsFound : DateTime → Type 0
IsFound at = (kept : DateTime) × (nanos_after (micros_of (civil_nanos at)) ≡ civil_nanos kept)

is_early : (y : ℤ) → int_lt y (pos 2000) ≡ true → y <ℤ pos 2000
is_early y e = grind (arith, ints)

is_late : (y : ℤ) → int_lt y (pos 2000) ≡ false → pos 2000 ≤ℤ y
is_late y e = grind (arith, ints)

found_by : (at : DateTime) (b : Bool) → int_lt at.date.year (pos 2000) ≡ b → IsFound at
found_by at true e =
    let early = is_early at.date.year e in
    let s = time_nanos at.time in
    let lt = time_nanos_bound at.time in
    let kept = cut_up_found at.date s early lt _ refl in
    (kept.0, early_moment (civil_nanos at) (epoch_day at.date) s (civil_nanos-parts at) (early_day at.date early) lt ∙ sym kept.1)
found_by at false e =
    let s = time_nanos at.time in
    let kept = at_moment at.date (whole_micros s) (cut_fits s (time_nanos_bound at.time)) in
    (kept.0, late_moment (civil_nanos at) (epoch_day at.date) s (civil_nanos-parts at) (late_day at.date (is_late at.date.year e)) ∙ sym kept.1)

pub is_found : (at : DateTime) → IsFound at
is_found at = found_by at _ refl
