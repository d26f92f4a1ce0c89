-- The texts of dates, times of day, offsets and what is made of them (PostgreSQL: "Date/Time Output", 8.5.2; "Time
-- Zones", 8.5.3). A date, a time and the others are what jiff says of them: those that exist, and no others.
-- - A date (`IsDateText`) is four digits, `-`, two, `-`, two: its year, month and day. The day exists, and the year
--   0000 is one.
-- - A time (`IsTimeText`) is two digits each of hour, minute and second, joined by `:`, and perhaps `.` and one to six
--   digits, as a clock shows it; or exactly `24:00:00`, which is midnight.
-- - An offset (`IsOffsetText`) is `+` for east of UTC or `-` for west, two digits below 24, and perhaps `:` and two
--   digits below 60, and after these perhaps once more.
-- - A date-time (`IsDateTimeText`) is a date, a space, a time that is not `24:00:00`, and perhaps an offset with `+`,
--   which says nothing.
-- - An instant (`IsInstantText`) is the same with an offset of either sign, which is taken off. It is an instant of
--   jiff.
-- - A time with its offset (`IsTimeTzText`) is a time and an offset.
-- Numbers are computed from them: a date's day from 1970-01-01, a time's nanoseconds, nanoseconds from 1970 of a
-- date-time and of an instant, seconds of an offset. Laws: the number is computed exactly where the text is a value
-- with that number (`date_is_its_value` and its like); no text is two values (`one_date` and its like).
use Rattle.std.specs.Prelude.{◌≡◌, ◌↔◌, ℕ, ◌+◌, ◌*◌, ◌<◌, ◌⊎◌, Bool, nat_lt, nat_le, ◌==◌, ◌&&◌, if◌then◌else◌, ℤ, pos, neg_ℤ, true, ◌+ℤ◌, ◌-ℤ◌, ◌*ℤ◌, int_le, List, [], ◌∷◌, ◌++◌, Option, Some, None, option_map, codes}
use Rattle.std.specs.Option.{is_some}
use Rattle.jiff_core.specs.Calendar.{days_in_month, days_from_civil}
use Rattle.jiff_core.specs.Date.{epoch_day}
use Rattle.jiff_core.specs.DateTime.{civil_nanos}
use Rattle.jiff_core.specs.Time.{time_nanos}
use Rattle.jiff_core.specs.Timestamp.{nanos_of_seconds}
use Rattle.jiff_core.specs.declared.civil.date.Date.{Date}
use Rattle.jiff_core.specs.declared.civil.datetime.DateTime.{DateTime}
use Rattle.jiff_core.specs.declared.civil.time.Time.{Time}
use Rattle.jiff_core.specs.declared.offset.Offset.{Offset}
use Rattle.jiff_core.specs.declared.timestamp.Timestamp.{Timestamp}
use Rattle.pgv_characters.specs.Characters.{space, plus_sign, hyphen, digit_zero, digit_two, digit_four, colon}
use Rattle.pgv_scalar_text.specs.FieldText.{two_digits, four_digits, IsFractionIfAny, Front, ◌>>=◌, after_byte, two, two_below, four, fraction, whole}

-- ---- what the texts are

-- A date: `YYYY-MM-DD`. The year of a date is at most 9999.
abbrev pub IsDateText : List ℕ → Date → Type 0
IsDateText text date =
    (year : ℕ) × (date.year ≡ pos year) × (text ≡ four_digits year ++ hyphen ∷ two_digits date.month ++ hyphen ∷ two_digits date.day)

-- A time as a clock shows it: `HH:MM:SS`, and perhaps a fraction.
abbrev pub IsClockText : List ℕ → Time → Type 0
IsClockText text time =
    (fraction : List ℕ) × (text ≡ two_digits time.hour ++ colon ∷ two_digits time.minute ++ colon ∷ two_digits time.second ++ fraction)
    × IsFractionIfAny fraction time.subsec_nanosecond

-- A time: the same, or `24:00:00` for midnight.
abbrev pub IsTimeText : List ℕ → Time → Type 0
IsTimeText text time = IsClockText text time ⊎ ((text ≡ codes "24:00:00") × (time_nanos time ≡ 0))

-- What may follow the minutes of an offset: `:` and the seconds.
abbrev pub IsSecondsText : List ℕ → ℕ → Type 0
IsSecondsText text second = ((text ≡ []) × (second ≡ 0)) ⊎ ((second < 60) × (text ≡ colon ∷ two_digits second))

-- What may follow its hours, in seconds: `:` and the minutes, and what may follow those.
abbrev pub IsMinutesText : List ℕ → ℕ → Type 0
IsMinutesText text seconds =
    ((text ≡ []) × (seconds ≡ 0))
    ⊎ ((minute second : ℕ) × (rest : List ℕ) × (minute < 60) × (text ≡ colon ∷ two_digits minute ++ rest) × IsSecondsText rest second
    × (seconds ≡ minute * 60 + second))

-- An offset without its sign, in seconds.
abbrev pub IsHoursText : List ℕ → ℕ → Type 0
IsHoursText text seconds =
    (hour minutes : ℕ) × (rest : List ℕ) × (hour < 24) × (text ≡ two_digits hour ++ rest) × IsMinutesText rest minutes
    × (seconds ≡ hour * 3600 + minutes)

-- An offset: `+` is east of UTC and `-` west.
abbrev pub IsOffsetText : List ℕ → Offset → Type 0
IsOffsetText text offset =
    (seconds : ℕ) × (rest : List ℕ) × IsHoursText rest seconds
    × (((text ≡ plus_sign ∷ rest) × (offset.seconds ≡ pos seconds)) ⊎ ((text ≡ hyphen ∷ rest) × (offset.seconds ≡ neg_ℤ (pos seconds))))

-- What may follow a date-time, and says nothing: an offset with `+`.
abbrev pub IsIgnored : List ℕ → Type 0
IsIgnored text = (text ≡ []) ⊎ ((rest : List ℕ) × (seconds : ℕ) × (text ≡ plus_sign ∷ rest) × IsHoursText rest seconds)

-- A date, a space and a time, which is never `24:00:00`.
abbrev pub IsCivilText : List ℕ → DateTime → Type 0
IsCivilText text at = (date clock : List ℕ) × (text ≡ date ++ space ∷ clock) × IsDateText date at.date × IsClockText clock at.time

-- A date-time.
abbrev pub IsDateTimeText : List ℕ → DateTime → Type 0
IsDateTimeText text at = (civil offset : List ℕ) × (text ≡ civil ++ offset) × IsCivilText civil at × IsIgnored offset

-- An instant: a date-time and the offset at which a clock shows it.
abbrev pub IsInstantText : List ℕ → Timestamp → Type 0
IsInstantText text instant =
    (civil offset : List ℕ) × (at : DateTime) × (zone : Offset) × (text ≡ civil ++ offset) × IsCivilText civil at × IsOffsetText offset zone
    × (instant.nanosecond ≡ civil_nanos at -ℤ nanos_of_seconds zone.seconds)

-- A time with its offset.
abbrev pub IsTimeTzText : List ℕ → Time × Offset → Type 0
IsTimeTzText text zoned = (time offset : List ℕ) × (text ≡ time ++ offset) × IsTimeText time zoned.0 × IsOffsetText offset zoned.1

-- ---- the same, computed: days and nanoseconds from 1970, nanoseconds of the day, seconds east of UTC

-- Whether the calendar has this day.
abbrev pub is_day : ℕ → ℕ → ℕ → Bool
is_day year month day = nat_le 1 month && nat_le month 12 && nat_le 1 day && nat_le day (days_in_month (pos year) month)

abbrev pub day_number : ℕ → ℕ → ℕ → Option ℤ
day_number year month day = if is_day year month day then Some (days_from_civil (pos year) month day) else None

abbrev pub date_front : List ℕ → Front ℤ
date_front text = do
  year ← four text
  after_year ← after_byte hyphen year.1
  month ← two after_year
  after_month ← after_byte hyphen month.1
  day ← two after_month
  number ← day_number year.0 month.0 day.0
  Some (number, day.1)

-- The nanoseconds of the day, if a clock shows this.
abbrev pub clock_nanos : ℕ → ℕ → ℕ → ℕ → Option ℕ
clock_nanos hour minute second nanos =
    if nat_lt hour 24 && nat_lt minute 60 && nat_lt second 60 then Some ((hour * 3600 + minute * 60 + second) * 1_000_000_000 + nanos)
    else None

abbrev pub clock_front : List ℕ → Front ℕ
clock_front text = do
  hour ← two text
  after_hour ← after_byte colon hour.1
  minute ← two after_hour
  after_minute ← after_byte colon minute.1
  second ← two after_minute
  nanos ← fraction second.1
  time ← clock_nanos hour.0 minute.0 second.0 nanos.0
  Some (time, nanos.1)

-- What follows `24:00:00`.
abbrev pub after_midnight : List ℕ → Option (List ℕ)
after_midnight (a ∷ b ∷ c ∷ d ∷ e ∷ f ∷ g ∷ h ∷ rest) =
    if a == digit_two && b == digit_four && c == colon && d == digit_zero && e == digit_zero && f == colon && g == digit_zero && h == digit_zero then Some rest else None
after_midnight _ = None

abbrev pub midnight_or : Front ℕ → Option (List ℕ) → Front ℕ
midnight_or clock (Some rest) = Some (0, rest)
midnight_or clock None = clock

abbrev pub time_front : List ℕ → Front ℕ
time_front text = midnight_or (clock_front text) (after_midnight text)

abbrev pub seconds_value : List ℕ → Option ℕ
seconds_value [] = Some 0
seconds_value (c ∷ cs) = do
  rest ← after_byte colon (c ∷ cs)
  whole (two_below 60 rest)

abbrev pub minutes_value : List ℕ → Option ℕ
minutes_value [] = Some 0
minutes_value (c ∷ cs) = do
  rest ← after_byte colon (c ∷ cs)
  minute ← two_below 60 rest
  second ← seconds_value minute.1
  Some (minute.0 * 60 + second)

abbrev pub hours_value : List ℕ → Option ℕ
hours_value text = do
  hour ← two_below 24 text
  minutes ← minutes_value hour.1
  Some (hour.0 * 3600 + minutes)

abbrev pub offset_value : List ℕ → Option ℤ
offset_value [] = None
offset_value (sign ∷ rest) =
    if sign == plus_sign then option_map pos (hours_value rest)
    else (if sign == hyphen then option_map (λ n. neg_ℤ (pos n)) (hours_value rest) else None)

abbrev pub is_ignored : List ℕ → Bool
is_ignored [] = true
is_ignored (sign ∷ rest) = sign == plus_sign && is_some (hours_value rest)

-- Nanoseconds from 1970 by the day and the nanoseconds in it.
abbrev pub nanos_at : ℤ → ℕ → ℤ
nanos_at day time = day *ℤ pos 86_400_000_000_000 +ℤ pos time

abbrev pub civil_front : List ℕ → Front ℤ
civil_front text = do
  date ← date_front text
  rest ← after_byte space date.1
  time ← clock_front rest
  Some (nanos_at date.0 time.0, time.1)

-- The number, if an instant has it.
abbrev pub instant_nanos : ℤ → Option ℤ
instant_nanos nanos =
    if int_le (neg_ℤ (pos 377_705_023_201_000_000_000)) nanos && int_le nanos (pos 253_402_207_200_999_999_999) then Some nanos else None

-- The day number of a date.
abbrev pub date_value : List ℕ → Option ℤ
date_value text = whole (date_front text)

-- The nanoseconds of a time.
abbrev pub time_value : List ℕ → Option ℕ
time_value text = whole (time_front text)

-- The nanoseconds of a date-time from 1970, on a clock whose days have 24 hours.
abbrev pub date_time_value : List ℕ → Option ℤ
date_time_value text = do
  civil ← civil_front text
  if is_ignored civil.1 then Some civil.0 else None

-- The nanoseconds of an instant from 1970.
abbrev pub instant_value : List ℕ → Option ℤ
instant_value text = do
  civil ← civil_front text
  offset ← offset_value civil.1
  instant_nanos (civil.0 -ℤ nanos_of_seconds offset)

-- The nanoseconds of a time, and the seconds of its offset.
abbrev pub time_tz_value : List ℕ → Option (ℕ × ℤ)
time_tz_value text = do
  time ← time_front text
  offset ← offset_value time.1
  Some (time.0, offset)

-- ---- what a reader answers, and the laws

-- The number of a value is computed from a text iff the text denotes this value, and each computed number is a value's.
abbrev pub IsComputedAs : {A B : Type 0} → (List ℕ → A → Type 0) → (A → B) → (List ℕ → Option B) → Type 0
IsComputedAs {A} {B} Is view value =
    ((text : List ℕ) (a : A) → (value text ≡ Some (view a)) ↔ Is text a)
    × ((text : List ℕ) (b : B) → value text ≡ Some b → (a : A) × (view a ≡ b))

-- A text denotes at most one value.
abbrev pub IsOne : {A : Type 0} → (List ℕ → A → Type 0) → Type 0
IsOne {A} Is = (text : List ℕ) (a b : A) → Is text a → Is text b → a ≡ b

-- What a pair of a time and an offset says.
abbrev pub zoned_numbers : Time × Offset → ℕ × ℤ
zoned_numbers zoned = (time_nanos zoned.0, zoned.1.seconds)

abbrev pub DateIsItsValue : Type 0
DateIsItsValue = IsComputedAs IsDateText epoch_day date_value

abbrev pub TimeIsItsValue : Type 0
TimeIsItsValue = IsComputedAs IsTimeText time_nanos time_value

abbrev pub DateTimeIsItsValue : Type 0
DateTimeIsItsValue = IsComputedAs IsDateTimeText civil_nanos date_time_value

abbrev pub InstantIsItsValue : Type 0
InstantIsItsValue = IsComputedAs IsInstantText (λ t. t.nanosecond) instant_value

abbrev pub TimeTzIsItsValue : Type 0
TimeTzIsItsValue = IsComputedAs IsTimeTzText zoned_numbers time_tz_value

unfoldable pub OneDate : Type 0
OneDate = IsOne IsDateText

unfoldable pub OneTime : Type 0
OneTime = IsOne IsTimeText

unfoldable pub OneDateTime : Type 0
OneDateTime = IsOne IsDateTimeText

unfoldable pub OneInstant : Type 0
OneInstant = IsOne IsInstantText

unfoldable pub OneTimeTz : Type 0
OneTimeTz = IsOne IsTimeTzText
