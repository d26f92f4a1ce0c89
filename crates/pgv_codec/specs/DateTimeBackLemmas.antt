-- What is written of dates, times, date-times and instants is read back, in whole microseconds.
use Rattle.std.specs.Prelude.{◌≡◌, ℕ, ◌/◌, ◌&&◌, true, if◌then◌else◌, int_le, ℤ, pos, ◌+ℤ◌, ◌≤ℤ◌, List, Option, Some, None, Ok, refl}
use Rattle.std.specs.Int.{Width, w32, w64, cast_unsigned, to_be_bytes}
use Rattle.std.proofs.Common.{ap, arith}
use Rattle.std.proofs.lemmas.Int.{ints}
use Rattle.jiff_core.specs.declared.civil.date.Date.{Date}
use Rattle.jiff_core.specs.declared.civil.datetime.DateTime.{DateTime}
use Rattle.jiff_core.specs.declared.civil.time.Time.{Time}
use Rattle.jiff_core.specs.declared.timestamp.Timestamp.{Timestamp}
use Rattle.jiff_core.specs.Date.{epoch_day}
use Rattle.jiff_core.specs.DateTime.{civil_nanos}
use Rattle.jiff_core.specs.Time.{time_nanos}
use Rattle.jiff_core.proofs.DateLemmas.{epoch_day_range}
use Rattle.jiff_core.proofs.DateTimeLemmas.{civil_nanos_range, time_nanos_bound}
use Rattle.pgv_types.specs.Ty.{Ty}
use Rattle.pgv_types.specs.declared.oid.Oid.{Oid}
use Rattle.pgv_buf.specs.Tokens.{bytes}
use Rattle.pgv_scalar_text.specs.DateTimeText.{instant_nanos}
use Rattle.pgv_value.specs.DateTimeBinary.{day_after, time_after, nanos_after, civil_at, parse_date, parse_time, parse_date_time, parse_instant}
use Rattle.pgv_value.specs.IntBinary.{fits_signed, whole_number}
use Rattle.pgv_value.specs.Outcome.{reading_of, without_memory}
use Rattle.pgv_value.specs.OwnBytesLemmas.{own_four_bytes, own_eight_bytes}
use Rattle.pgv_codec.specs.Back.{ReadsBack, always, image_is}
use Rattle.pgv_codec.specs.PartBackLemmas.{guarded}
use Rattle.pgv_codec.specs.ScalarBackLemmas.{part_is}
use Rattle.pgv_codec.specs.DateTimeImage.{days_of, date_image, time_image, micros_of, moment_image}
use Rattle.pgv_codec.specs.DateTimeKept.{time_kept, date_time_kept, date_time_kept_cut, instant_kept}
use Rattle.pgv_codec.specs.Encoding.{Image, image_of, with_hint, writes}
use Rattle.pgv_codec.specs.ScalarImage.{signed_image}
use Rattle.pgv_codec.specs.Writing.{written_part}

-- a number that was written in the bytes of its width is the part, and is read from it
record IsNumberPart (w : Width) (v : ℤ) (i : Image) (p : Option Ty) (os : List Oid) : Type 0 where
  its_bytes : List ℕ
  part : written_part i p os ≡ Some its_bytes
  said : whole_number its_bytes ≡ Ok v
  room : fits_signed w v ≡ true

number_part : (w : Width) (v : ℤ) (i : Image) (p : Option Ty) (os : List Oid) →
    (fits_signed w v ≡ true → whole_number (to_be_bytes w (cast_unsigned w v)) ≡ Ok v) → signed_image w v ≡ Some i → IsNumberPart w v i p os
number_part w v i p os own e =
    let g = guarded (fits_signed w v) (Some (image_of (bytes (to_be_bytes w (cast_unsigned w v))))) i e in
    record { its_bytes = to_be_bytes w (cast_unsigned w v); part = part_is (to_be_bytes w (cast_unsigned w v)) i p os g.1; said = own g.0; room = g.0 }

-- a number between two others is found there
between : {X : Type 0} (low high n m : ℤ) (f : ℤ → X) → n ≡ m → low ≤ℤ m → m ≤ℤ high → (if int_le low n && int_le n high then (let o : Option X = Some (f n) in o) else None) ≡ Some (f m)
between low high n m f e a b =
    let test : (int_le low m && int_le m high) ≡ true = grind (arith, ints) in
    rw (e, test) refl

day_again : (d : Date) → day_after (days_of (epoch_day d)) ≡ Some (epoch_day d)
day_again d =
    let r = epoch_day_range d in
    between _ _ (days_of (epoch_day d) +ℤ pos 10_957) (epoch_day d) (λ n. n) (omega (arith, ints)) r.0 r.1

pub date_back : ReadsBack {A = Date} (λ d. with_hint 4 (writes (date_image (epoch_day d)))) (reading_of (without_memory parse_date)) epoch_day always
date_back d i t p os e whole small fit =
    let n = number_part w32 (days_of (epoch_day d)) i p os (own_four_bytes (days_of (epoch_day d))) (image_is (date_image (epoch_day d)) i e) in
    rw (n.part, n.said, n.room, day_again d) refl

pub time_again : (t : Time) → time_after (pos (time_nanos t / 1000)) ≡ time_nanos (time_kept t)
time_again t = let lt = time_nanos_bound t in omega (arith, lt)

pub time_back : ReadsBack {A = Time} (λ v. with_hint 8 (writes (time_image (time_nanos v)))) (reading_of (without_memory parse_time)) (λ v. time_nanos (time_kept v)) always
time_back v i t p os e whole small fit =
    let n = number_part w64 (pos (time_nanos v / 1000)) i p os (own_eight_bytes (pos (time_nanos v / 1000))) (image_is (time_image (time_nanos v)) i e) in
    rw (n.part, n.said) (ap (λ (k : ℕ). Some k) (time_again v))

instant_again : (at : Timestamp) → instant_nanos (nanos_after (micros_of at.nanosecond)) ≡ Some (instant_kept at).nanosecond
instant_again at =
    let r = (instant_kept at).in_range in
    between _ _ (nanos_after (micros_of at.nanosecond)) (nanos_after (micros_of at.nanosecond)) (λ n. n) refl r.0 r.1

pub instant_back : ReadsBack {A = Timestamp} (λ at. with_hint 8 (writes (moment_image at.nanosecond))) (reading_of (without_memory parse_instant)) (λ at. (instant_kept at).nanosecond) always
instant_back at i t p os e whole small fit =
    let n = number_part w64 (micros_of at.nanosecond) i p os (own_eight_bytes (micros_of at.nanosecond)) (image_is (moment_image at.nanosecond) i e) in
    rw (n.part, n.said, instant_again at) refl

moment_again : (at : DateTime) → civil_at (nanos_after (micros_of (civil_nanos at))) ≡ Some (civil_nanos (date_time_kept at))
moment_again at =
    let r = civil_nanos_range (date_time_kept at) in
    between _ _ (nanos_after (micros_of (civil_nanos at))) (civil_nanos (date_time_kept at)) (λ n. n) (date_time_kept_cut at) r.0 r.1

pub date_time_back : ReadsBack {A = DateTime} (λ at. with_hint 8 (writes (moment_image (civil_nanos at)))) (reading_of (without_memory parse_date_time)) (λ at. civil_nanos (date_time_kept at)) always
date_time_back at i t p os e whole small fit =
    let n = number_part w64 (micros_of (civil_nanos at)) i p os (own_eight_bytes (micros_of (civil_nanos at))) (image_is (moment_image (civil_nanos at)) i e) in
    rw (n.part, n.said, moment_again at) refl
