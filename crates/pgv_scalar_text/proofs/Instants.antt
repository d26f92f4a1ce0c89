-- Date-times, instants and times with offsets.
use Rattle.std.proofs.Common.{◌≡◌, ℕ, ◌&&◌, true, ℤ, ◌-ℤ◌, ◌≤ℤ◌, int_le, List, ◌∷◌, ◌++◌, Some, None, refl, sym, ap, ◌∙◌, arith, cond, append_assoc}
use Rattle.std.proofs.lemmas.Int.{ints}
use Rattle.std.proofs.lemmas.Option.{same_Some}
use Rattle.std.proofs.NetLemmas.Options.{cond_some, and_then_some, same_parts}
use Rattle.std.proofs.Props.{props}
use mathlib.Core.HLevel.{is_prop→PathP}
use Rattle.jiff_core.specs.Date.{epoch_day}
use Rattle.jiff_core.specs.DateTime.{civil_nanos}
use Rattle.jiff_core.specs.Time.{time_nanos}
use Rattle.jiff_core.specs.Timestamp.{IsTimestampNanos, IsOffsetSeconds, nanos_of_seconds}
use Rattle.jiff_core.specs.declared.civil.datetime.DateTime.{DateTime}
use Rattle.jiff_core.specs.declared.civil.time.Time.{Time}
use Rattle.jiff_core.specs.declared.offset.Offset.{Offset}
use Rattle.jiff_core.specs.declared.timestamp.Timestamp.{Timestamp}
use Rattle.jiff_core.proofs.DateTimeLemmas.{civil_nanos-parts}
use Rattle.jiff_zoned.proofs.SameLemmas.{same_time, same_datetime}
use Rattle.pgv_scalar_text.specs.FieldText.{after_byte}
use Rattle.pgv_scalar_text.specs.DateTimeText.{IsCivilText, IsDateTimeText, IsInstantText, IsTimeTzText, nanos_at, date_front, clock_front, time_front, civil_front, offset_value, instant_nanos, date_time_value, instant_value, time_tz_value, zoned_numbers, DateTimeIsItsValue, InstantIsItsValue, TimeTzIsItsValue, OneDateTime, OneInstant, OneTimeTz}
use Rattle.pgv_scalar_text.proofs.DigitFields.{found, then_read, after_is}
use Rattle.pgv_scalar_text.proofs.Fractions.{Stops}
use Rattle.pgv_scalar_text.proofs.Clocks.{date_read, date_is, clock_read, clock_is, time_read, time_is}
use Rattle.pgv_scalar_text.proofs.Offsets.{offset_read, offset_is, offset_stops, ignored_read, ignored_is, ignored_stops}
use Rattle.pgv_scalar_text.proofs.Computed.{computed_by, one_by}

-- ---- a date and a time

civil_read : (at : DateTime) (text rest : List ℕ) → IsCivilText text at → Stops rest → civil_front (text ++ rest) ≡ found (civil_nanos at) rest
civil_read at text rest (date, clock, spelled, is_date, is_clock) stop =
    let after_date = 32 ∷ (clock ++ rest) in
    ap (λ t. civil_front (t ++ rest)) spelled
    ∙ ap civil_front (append_assoc date (32 ∷ clock) rest)
    ∙ then_read _ (date_front (date ++ after_date)) (epoch_day at.date, after_date) _ (date_read at.date date after_date is_date)
    (then_read _ (clock_front (clock ++ rest)) (time_nanos at.time, rest) _ (clock_read at.time clock rest is_clock stop)
    (ap (λ n. found n rest) (sym (civil_nanos-parts at))))

abbrev HasCivil : List ℕ → List ℕ → ℤ → Type 0
HasCivil text rest nanos = (front : List ℕ) × (at : DateTime) × (text ≡ front ++ rest) × IsCivilText front at × (civil_nanos at ≡ nanos)

civil_is : (text rest : List ℕ) (nanos : ℤ) → civil_front text ≡ found nanos rest → HasCivil text rest nanos
civil_is text rest nanos e =
    and_then_some _ (date_front text) _ e λ day read_day e₁.
    and_then_some _ (after_byte 32 day.1) _ e₁ λ left space e₂.
    and_then_some _ (clock_front left) _ e₂ λ clock read_clock e₃.
    let (nanos_is, rest_is) = same_parts _ _ _ _ e₃ in
    let (date_text, date, date_split, is_date, date_same) = date_is text day.1 day.0 read_day in
    let (clock_text, time, clock_split, is_clock, time_same) = clock_is left clock.1 clock.0 read_clock in
    let at : DateTime = record { date = date; time = time } in
    let value : civil_nanos at ≡ nanos_at day.0 clock.0 = civil_nanos-parts at ∙ ap (λ d. nanos_at d (time_nanos time)) date_same ∙ ap (λ n. nanos_at day.0 n) time_same in
    let split : text ≡ (date_text ++ 32 ∷ clock_text) ++ rest =
    date_split ∙ ap (λ t. date_text ++ t) (after_is 32 day.1 left space ∙ ap (λ t. 32 ∷ t) (clock_split ∙ ap (λ t. clock_text ++ t) rest_is)) ∙ sym (append_assoc date_text (32 ∷ clock_text) rest) in
    (date_text ++ 32 ∷ clock_text, at, split, (date_text, clock_text, refl, is_date, is_clock), value ∙ nanos_is)

-- ---- date-times

pub date_time_is_its_value : DateTimeIsItsValue
date_time_is_its_value = computed_by IsDateTimeText civil_nanos same_datetime date_time_value sound complete
  where
    sound : (text : List ℕ) (nanos : ℤ) → date_time_value text ≡ Some nanos → (at : DateTime) × IsDateTimeText text at × (civil_nanos at ≡ nanos)
    sound text nanos e =
        and_then_some _ (civil_front text) _ e λ civil read e₁.
        let (test, same) = cond_some _ _ _ e₁ in
        let (front, at, split, is, value) = civil_is text civil.1 civil.0 read in
        (at, (front, civil.1, split, is, ignored_is civil.1 test), value ∙ same)

    complete : (at : DateTime) (text : List ℕ) → IsDateTimeText text at → date_time_value text ≡ Some (civil_nanos at)
    complete at text (civil, offset, spelled, is, ignored) =
        ap date_time_value spelled
        ∙ then_read _ (civil_front (civil ++ offset)) (civil_nanos at, offset) _ (civil_read at civil offset is (ignored_stops offset ignored))
        (ap (λ b. cond b (Some (civil_nanos at)) None) (ignored_read offset ignored))

pub one_date_time : OneDateTime
unfolding OneDateTime
one_date_time = one_by IsDateTimeText civil_nanos same_datetime date_time_value date_time_is_its_value

-- ---- instants

same_instant : (a b : Timestamp) → a.nanosecond ≡ b.nanosecond → a ≡ b
same_instant a b e = λ i. record {
  nanosecond = e i;
  in_range = is_prop→PathP (λ j. IsTimestampNanos (e j)) (λ j. hlevel props) a.in_range b.in_range i;
}

in_order : (low high n : ℤ) → (int_le low n && int_le n high) ≡ true → (low ≤ℤ n) × (n ≤ℤ high)
in_order low high n h = (grind (arith, ints), grind (arith, ints))

order_in : (low high n : ℤ) → low ≤ℤ n → n ≤ℤ high → (int_le low n && int_le n high) ≡ true
order_in low high n h k = grind (arith, ints)

pub instant_is_its_value : InstantIsItsValue
instant_is_its_value = computed_by IsInstantText (λ t. t.nanosecond) same_instant instant_value sound complete
  where
    sound : (text : List ℕ) (nanos : ℤ) → instant_value text ≡ Some nanos → (at : Timestamp) × IsInstantText text at × (at.nanosecond ≡ nanos)
    sound text nanos e =
        and_then_some _ (civil_front text) _ e λ civil read e₁.
        and_then_some _ (offset_value civil.1) _ e₁ λ seconds some e₂.
        let (test, same) = cond_some _ _ _ e₂ in
        let (front, at, split, is, value) = civil_is text civil.1 civil.0 read in
        let (zone, is_zone, zone_same) = offset_is civil.1 seconds some in
        let instant : Timestamp = record { nanosecond = civil.0 -ℤ nanos_of_seconds seconds; in_range = in_order _ _ _ test } in
        let number : civil.0 -ℤ nanos_of_seconds seconds ≡ civil_nanos at -ℤ nanos_of_seconds zone.seconds = ap (λ n. n -ℤ nanos_of_seconds seconds) (sym value) ∙ ap (λ s. civil_nanos at -ℤ nanos_of_seconds s) (sym zone_same) in
        (instant, (front, civil.1, at, zone, split, is, is_zone, number), same)

    complete : (at : Timestamp) (text : List ℕ) → IsInstantText text at → instant_value text ≡ Some at.nanosecond
    complete instant text (civil, offset, at, zone, spelled, is, is_zone, number) =
        ap instant_value spelled
        ∙ then_read _ (civil_front (civil ++ offset)) (civil_nanos at, offset) _ (civil_read at civil offset is (offset_stops zone offset is_zone))
        (then_read _ (offset_value offset) zone.seconds _ (offset_read zone offset is_zone)
        (ap instant_nanos (sym number) ∙ ap (λ b. cond b (Some instant.nanosecond) None) (order_in _ _ instant.nanosecond instant.in_range.0 instant.in_range.1)))

pub one_instant : OneInstant
unfolding OneInstant
one_instant = one_by IsInstantText (λ t. t.nanosecond) same_instant instant_value instant_is_its_value

-- ---- times with offsets

same_offset : (a b : Offset) → a.seconds ≡ b.seconds → a ≡ b
same_offset a b e = λ i. record {
  seconds = e i;
  in_range = is_prop→PathP (λ j. IsOffsetSeconds (e j)) (λ j. hlevel props) a.in_range b.in_range i;
}

same_zoned : (a b : Time × Offset) → zoned_numbers a ≡ zoned_numbers b → a ≡ b
same_zoned a b e =
    let time = same_time a.0 b.0 (ap (λ p. p.0) e) in
    let zone = same_offset a.1 b.1 (ap (λ p. p.1) e) in
    λ i. (time i, zone i)

pub time_tz_is_its_value : TimeTzIsItsValue
time_tz_is_its_value = computed_by IsTimeTzText zoned_numbers same_zoned time_tz_value sound complete
  where
    sound : (text : List ℕ) (numbers : ℕ × ℤ) → time_tz_value text ≡ Some numbers → (zoned : Time × Offset) × IsTimeTzText text zoned × (zoned_numbers zoned ≡ numbers)
    sound text numbers e =
        and_then_some _ (time_front text) _ e λ clock read e₁.
        and_then_some _ (offset_value clock.1) _ e₁ λ seconds some e₂.
        let (front, time, split, is, time_same) = time_is text clock.1 clock.0 read in
        let (zone, is_zone, zone_same) = offset_is clock.1 seconds some in
        ((time, zone), (front, clock.1, split, is, is_zone), ap (λ n. (n, zone.seconds)) time_same ∙ ap (λ s. (clock.0, s)) zone_same ∙ same_Some _ numbers e₂)

    complete : (zoned : Time × Offset) (text : List ℕ) → IsTimeTzText text zoned → time_tz_value text ≡ Some (zoned_numbers zoned)
    complete zoned text (time, offset, spelled, is, is_zone) =
        ap time_tz_value spelled
        ∙ then_read _ (time_front (time ++ offset)) (time_nanos zoned.0, offset) _ (time_read zoned.0 time offset is (offset_stops zoned.1 offset is_zone))
        (then_read _ (offset_value offset) zoned.1.seconds _ (offset_read zoned.1 offset is_zone) refl)

pub one_time_tz : OneTimeTz
unfolding OneTimeTz
one_time_tz = one_by IsTimeTzText zoned_numbers same_zoned time_tz_value time_tz_is_its_value
