-- Dates and times at the front of a text.
use Rattle.std.proofs.Common.{◌≡◌, ◌≢◌, ℕ, ◌+◌, ◌/◌, ◌%◌, ◌<◌, ◌≤◌, true, false, ◌&&◌, nat_lt, ◌==◌, ℤ, pos, List, [], ◌∷◌, ◌++◌, Option, Some, None, refl, sym, ap, ◌∙◌, subst, arith, inl, inr}
use Rattle.std.specs.Prelude.{codes}
use Rattle.std.proofs.lemmas.Int.{ints}
use Rattle.std.proofs.lemmas.Option.{none-some}
use Rattle.std.proofs.lemmas.Bool.Decides.{nat_tests}
use Rattle.std.proofs.NetLemmas.Options.{cond_some, and_then_some, same_parts}
use Rattle.jiff_core.specs.Calendar.{days_in_month, days_from_civil}
use Rattle.jiff_core.proofs.CalendarLemmas.{days_in_month_bounds}
use Rattle.jiff_core.specs.Date.{epoch_day}
use Rattle.jiff_core.specs.Time.{time_nanos}
use Rattle.jiff_core.specs.declared.civil.date.Date.{Date}
use Rattle.jiff_core.specs.declared.civil.time.Time.{Time}
use Rattle.pgv_scalar_text.specs.FieldText.{after_byte, two, four, fraction, two_digits, four_digits}
use Rattle.pgv_scalar_text.specs.DateTimeText.{IsDateText, IsClockText, IsTimeText, is_day, day_number, date_front, clock_nanos, clock_front, after_midnight, midnight_or, time_front}
use Rattle.pgv_scalar_text.proofs.DigitFields.{found, then_read, after_is, two_read, two_is, four_read, four_is}
use Rattle.pgv_scalar_text.proofs.Fractions.{Stops, fraction_read, fraction_is, fraction_lt}
use Rattle.pgv_scalar_text.proofs.Calendar.{there, tested, some_there}

-- ---- dates

day_of : (date : Date) (year : ℕ) → date.year ≡ pos year → day_number year date.month date.day ≡ Some (epoch_day date)
day_of date year e =
    let last : date.day ≤ days_in_month (pos year) date.month = subst (λ y. date.day ≤ days_in_month y date.month) e date.day_in.1 in
    let test = there date.month date.day (days_in_month (pos year) date.month) date.month_in.0 date.month_in.1 date.day_in.0 last in
    sym (some_there (is_day year date.month date.day) (days_from_civil (pos year) date.month date.day) test) ∙ ap (λ y. Some (days_from_civil y date.month date.day)) (sym e)

pub date_read : (date : Date) (text rest : List ℕ) → IsDateText text date → date_front (text ++ rest) ≡ found (epoch_day date) rest
date_read date text rest (year, is, spelled) =
    let year_lt : year < 10_000 = omega (arith, ints, is, date.year_in.1) in
    let month_lt : date.month < 100 = omega (arith, date.month_in.1) in
    let most = days_in_month_bounds date.year date.month in
    let day_lt : date.day < 100 = omega (arith, date.day_in.1, most) in
    let after_month = 45 ∷ two_digits date.day ++ rest in
    let after_year = 45 ∷ two_digits date.month ++ after_month in
    ap (λ t. date_front (t ++ rest)) spelled ∙
    then_read _ (four (four_digits year ++ after_year)) (year, after_year) _ (four_read year after_year year_lt)
    (then_read _ (two (two_digits date.month ++ after_month)) (date.month, after_month) _ (two_read date.month after_month month_lt)
    (then_read _ (two (two_digits date.day ++ rest)) (date.day, rest) _ (two_read date.day rest day_lt)
    (then_read _ (day_number year date.month date.day) (epoch_day date) _ (day_of date year is) refl)))

-- A value in front of the rest of a text.
abbrev pub HasDate : List ℕ → List ℕ → ℤ → Type 0
HasDate text rest day = (front : List ℕ) × (date : Date) × (text ≡ front ++ rest) × IsDateText front date × (epoch_day date ≡ day)

pub date_is : (text rest : List ℕ) (day : ℤ) → date_front text ≡ found day rest → HasDate text rest day
date_is text rest number e =
    and_then_some _ (four text) _ e λ year read_year e₁.
    and_then_some _ (after_byte 45 year.1) _ e₁ λ after_year dash_one e₂.
    and_then_some _ (two after_year) _ e₂ λ month read_month e₃.
    and_then_some _ (after_byte 45 month.1) _ e₃ λ after_month dash_two e₄.
    and_then_some _ (two after_month) _ e₄ λ day read_day e₅.
    and_then_some _ (day_number year.0 month.0 day.0) _ e₅ λ count some_day e₆.
    let (number_is, rest_is) = same_parts _ _ _ _ e₆ in
    let (test, count_is) = cond_some _ _ _ some_day in
    let is_year = four_is text year.1 year.0 read_year in
    let is_month = two_is after_year month.1 month.0 read_month in
    let is_day = two_is after_month day.1 day.0 read_day in
    let (a, b, c, d) = tested month.0 day.0 (days_in_month (pos year.0) month.0) test in
    let year_lt = is_year.0 in
    let date : Date = record {
      year = pos year.0;
      month = month.0;
      day = day.0;
      year_in = (omega (arith, ints), omega (arith, ints, year_lt));
      month_in = (a, b);
      day_in = (c, d);
    } in
    let split : text ≡ four_digits year.0 ++ 45 ∷ two_digits month.0 ++ 45 ∷ two_digits day.0 ++ rest =
    is_year.1 ∙ ap (λ t. four_digits year.0 ++ t) (after_is 45 year.1 after_year dash_one ∙ ap (λ t. 45 ∷ t) (is_month.1 ∙ ap (λ t. two_digits month.0 ++ t) (after_is 45 month.1 after_month dash_two ∙ ap (λ t. 45 ∷ t) (is_day.1 ∙ ap (λ t. two_digits day.0 ++ t) rest_is)))) in
    (four_digits year.0 ++ 45 ∷ two_digits month.0 ++ 45 ∷ two_digits day.0, date, split, (year.0, refl, refl), count_is ∙ number_is)

-- ---- times

clock_of : (time : Time) → clock_nanos time.hour time.minute time.second time.subsec_nanosecond ≡ Some (time_nanos time)
clock_of time =
    let test : (nat_lt time.hour 24 && nat_lt time.minute 60 && nat_lt time.second 60) ≡ true = within time.hour time.minute time.second time.hour_in time.minute_in time.second_in in
    rw test
  where
    within : (h m s : ℕ) → h < 24 → m < 60 → s < 60 → (nat_lt h 24 && nat_lt m 60 && nat_lt s 60) ≡ true
    within h m s a b c = grind (arith, nat_tests)

pub clock_read : (time : Time) (text rest : List ℕ) → IsClockText text time → Stops rest → clock_front (text ++ rest) ≡ found (time_nanos time) rest
clock_read time text rest (part, spelled, is) stop =
    let after_second = part ++ rest in
    let after_minute = 58 ∷ two_digits time.second ++ after_second in
    let after_hour = 58 ∷ two_digits time.minute ++ after_minute in
    let (hour_lt, minute_lt, second_lt) : (time.hour < 100) × (time.minute < 100) × (time.second < 100) = (omega (arith, time.hour_in), omega (arith, time.minute_in), omega (arith, time.second_in)) in
    ap (λ t. clock_front (t ++ rest)) spelled ∙
    then_read _ (two (two_digits time.hour ++ after_hour)) (time.hour, after_hour) _ (two_read time.hour after_hour hour_lt)
    (then_read _ (two (two_digits time.minute ++ after_minute)) (time.minute, after_minute) _ (two_read time.minute after_minute minute_lt)
    (then_read _ (two (two_digits time.second ++ after_second)) (time.second, after_second) _ (two_read time.second after_second second_lt)
    (then_read _ (fraction (part ++ rest)) (time.subsec_nanosecond, rest) _ (fraction_read part rest time.subsec_nanosecond is stop)
    (then_read _ (clock_nanos time.hour time.minute time.second time.subsec_nanosecond) (time_nanos time) _ (clock_of time) refl))))

abbrev pub HasClock : List ℕ → List ℕ → ℕ → Type 0
HasClock text rest nanos = (front : List ℕ) × (time : Time) × (text ≡ front ++ rest) × IsClockText front time × (time_nanos time ≡ nanos)

pub clock_is : (text rest : List ℕ) (nanos : ℕ) → clock_front text ≡ found nanos rest → HasClock text rest nanos
clock_is text rest number e =
    and_then_some _ (two text) _ e λ hour read_hour e₁.
    and_then_some _ (after_byte 58 hour.1) _ e₁ λ after_hour colon_one e₂.
    and_then_some _ (two after_hour) _ e₂ λ minute read_minute e₃.
    and_then_some _ (after_byte 58 minute.1) _ e₃ λ after_minute colon_two e₄.
    and_then_some _ (two after_minute) _ e₄ λ second read_second e₅.
    and_then_some _ (fraction second.1) _ e₅ λ nanos read_nanos e₆.
    and_then_some _ (clock_nanos hour.0 minute.0 second.0 nanos.0) _ e₆ λ count some_time e₇.
    let (number_is, rest_is) = same_parts _ _ _ _ e₇ in
    let (test, count_is) = cond_some _ _ _ some_time in
    let is_hour = two_is text hour.1 hour.0 read_hour in
    let is_minute = two_is after_hour minute.1 minute.0 read_minute in
    let is_second = two_is after_minute second.1 second.0 read_second in
    let (part, part_split, is_part) = fraction_is second.1 nanos.1 nanos.0 read_nanos in
    let (a, b, c) = below hour.0 minute.0 second.0 test in
    let time : Time = record {
      hour = hour.0;
      minute = minute.0;
      second = second.0;
      subsec_nanosecond = nanos.0;
      hour_in = a;
      minute_in = b;
      second_in = c;
      subsec_in = fraction_lt part nanos.0 is_part;
    } in
    let split : text ≡ two_digits hour.0 ++ 58 ∷ two_digits minute.0 ++ 58 ∷ two_digits second.0 ++ (part ++ rest) =
    is_hour.1 ∙ ap (λ t. two_digits hour.0 ++ t) (after_is 58 hour.1 after_hour colon_one ∙ ap (λ t. 58 ∷ t) (is_minute.1 ∙ ap (λ t. two_digits minute.0 ++ t) (after_is 58 minute.1 after_minute colon_two ∙ ap (λ t. 58 ∷ t) (is_second.1 ∙ ap (λ t. two_digits second.0 ++ t) (part_split ∙ ap (λ t. part ++ t) rest_is))))) in
    (two_digits hour.0 ++ 58 ∷ two_digits minute.0 ++ 58 ∷ two_digits second.0 ++ part, time, split, (part, refl, is_part), count_is ∙ number_is)
  where
    below : (h m s : ℕ) → (nat_lt h 24 && nat_lt m 60 && nat_lt s 60) ≡ true → (h < 24) × (m < 60) × (s < 60)
    below h m s test = (grind (arith, nat_tests), grind (arith, nat_tests), grind (arith, nat_tests))

-- ---- midnight at the end of a day

unlike : (a b c d e f g h : ℕ) → (a ≡ 50 → b ≢ 52) → (a == 50 && b == 52 && c == 58 && d == 48 && e == 48 && f == 58 && g == 48 && h == 48) ≡ false
unlike a b c d e f g h other = grind (arith, nat_tests)

alike : (a b c d e f g h : ℕ) → (a == 50 && b == 52 && c == 58 && d == 48 && e == 48 && f == 58 && g == 48 && h == 48) ≡ true →
    (a ≡ 50) × (b ≡ 52) × (c ≡ 58) × (d ≡ 48) × (e ≡ 48) × (f ≡ 58) × (g ≡ 48) × (h ≡ 48)
alike a b c d e f g h test = (grind (arith, nat_tests), grind (arith, nat_tests), grind (arith, nat_tests), grind (arith, nat_tests), grind (arith, nat_tests), grind (arith, nat_tests), grind (arith, nat_tests), grind (arith, nat_tests))

no_midnight : (hour minute second : ℕ) (rest : List ℕ) → hour < 24 → after_midnight (two_digits hour ++ 58 ∷ two_digits minute ++ 58 ∷ two_digits second ++ rest) ≡ None
no_midnight hour minute second rest h =
    let other : 48 + hour / 10 ≡ 50 → 48 + hour % 10 ≢ 52 = λ two four. omega arith in
    rw (unlike (48 + hour / 10) (48 + hour % 10) 58 (48 + minute / 10) (48 + minute % 10) 58 (48 + second / 10) (48 + second % 10) other)

pub time_read : (time : Time) (text rest : List ℕ) → IsTimeText text time → Stops rest → time_front (text ++ rest) ≡ found (time_nanos time) rest
time_read time text rest (inl clock) stop =
    let later = no_midnight time.hour time.minute time.second (clock.0 ++ rest) time.hour_in in
    let none : after_midnight (text ++ rest) ≡ None = ap (λ t. after_midnight (t ++ rest)) clock.1 ∙ later in
    ap (midnight_or (clock_front (text ++ rest))) none ∙ clock_read time text rest clock stop
time_read time text rest (inr midnight) stop =
    ap (λ t. time_front (t ++ rest)) midnight.0 ∙ ap (λ n. found n rest) (sym midnight.1)

abbrev pub HasTime : List ℕ → List ℕ → ℕ → Type 0
HasTime text rest nanos = (front : List ℕ) × (time : Time) × (text ≡ front ++ rest) × IsTimeText front time × (time_nanos time ≡ nanos)

midnight_is : (text rest : List ℕ) → after_midnight text ≡ Some rest → text ≡ codes "24:00:00" ++ rest
midnight_is [] rest e = absurd (none-some rest e)
midnight_is (a ∷ []) rest e = absurd (none-some rest e)
midnight_is (a ∷ b ∷ []) rest e = absurd (none-some rest e)
midnight_is (a ∷ b ∷ c ∷ []) rest e = absurd (none-some rest e)
midnight_is (a ∷ b ∷ c ∷ d ∷ []) rest e = absurd (none-some rest e)
midnight_is (a ∷ b ∷ c ∷ d ∷ k ∷ []) rest e = absurd (none-some rest e)
midnight_is (a ∷ b ∷ c ∷ d ∷ k ∷ f ∷ []) rest e = absurd (none-some rest e)
midnight_is (a ∷ b ∷ c ∷ d ∷ k ∷ f ∷ g ∷ []) rest e = absurd (none-some rest e)
midnight_is (a ∷ b ∷ c ∷ d ∷ k ∷ f ∷ g ∷ h ∷ cs) rest e =
    let (test, rest_is) = cond_some _ _ _ e in
    let (ea, eb, ec, ed, ek, ef, eg, eh) = alike a b c d k f g h test in
    cc

midnight : Time
midnight = record {
  hour = 0;
  minute = 0;
  second = 0;
  subsec_nanosecond = 0;
  hour_in = omega arith;
  minute_in = omega arith;
  second_in = omega arith;
  subsec_in = omega arith;
}

time_at : (text rest : List ℕ) (nanos : ℕ) (end : Option (List ℕ)) → after_midnight text ≡ end → midnight_or (clock_front text) end ≡ found nanos rest → HasTime text rest nanos
unfolding midnight
time_at text rest nanos None e f =
    let (front, time, split, is, same) = clock_is text rest nanos f in
    (front, time, split, inl is, same)
time_at text rest nanos (Some left) e f =
    let (nanos_is, rest_is) = same_parts _ _ _ _ f in
    (codes "24:00:00", midnight, midnight_is text left e ∙ ap (λ t. codes "24:00:00" ++ t) rest_is, inr (refl, refl), nanos_is)

pub time_is : (text rest : List ℕ) (nanos : ℕ) → time_front text ≡ found nanos rest → HasTime text rest nanos
time_is text rest nanos e = time_at text rest nanos (after_midnight text) refl e
