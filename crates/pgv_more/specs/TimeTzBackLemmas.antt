-- What is written of a time of day with an offset is read back, in whole microseconds; its offset comes back as it is
-- (`time_tz_kept`).
use Rattle.std.specs.Prelude.{◌≡◌, ℕ, zero, suc, ◌/◌, nat_lt, Bool, true, false, if◌then◌else◌, ℤ, pos, negsuc, neg_ℤ, unsigned_abs, List, Option, Some, None, Ok, ok_or, refl}
use Rattle.std.specs.Int.{w32, w64}
use Rattle.std.proofs.Common.{ap, ◌∙◌, arith}
use Rattle.std.proofs.lemmas.Bool.{ltb-true, lt-ltb}
use Rattle.jiff_core.specs.Time.{time_nanos}
use Rattle.pgv_types.specs.Ty.{Ty}
use Rattle.pgv_types.specs.declared.oid.Oid.{Oid}
use Rattle.pgv_buf.specs.Tokens.{bytes}
use Rattle.pgv_value.specs.FrameBinary.{Part}
use Rattle.pgv_value.specs.IntBinary.{fits_signed}
use Rattle.pgv_value.specs.Outcome.{ok_of, or_fail, reading_of, stated, without_memory, ◌>>=◌}
use Rattle.pgv_value.specs.Parsed.{Parsed, ◌>>=◌ as ◌and_then◌}
use Rattle.pgv_value.specs.OwnBytesLemmas.{eight_again, four_again}
use Rattle.pgv_value.specs.declared.error.CodecError.{CodecError}
use Rattle.pgv_value.specs.declared.error.CodecError.TheVariants.{OffsetRange, Short}
use Rattle.pgv_value.specs.declared.value.PgValueFormat.TheVariants.{Binary}
use Rattle.pgv_codec.specs.Back.{ReadsBack, always, image_is}
use Rattle.pgv_codec.specs.PartBackLemmas.{guarded}
use Rattle.pgv_codec.specs.ScalarBackLemmas.{part_is}
use Rattle.pgv_codec.specs.DateTimeBackLemmas.{time_again}
use Rattle.pgv_codec.specs.DateTimeKept.{time_kept}
use Rattle.pgv_codec.specs.Encoding.{Image, image_of, with_hint, writes}
use Rattle.pgv_codec.specs.Writing.{written_part}
use Rattle.pgv_more.specs.TimeTzCodec.{time_tz_numbers, time_tz_image, parse_time_tz, image_of_numbers, bytes_of_numbers, other_way, two_numbers, time_tz_of, time_tz_in_binary}
use Rattle.pgv_more.specs.declared.time_tz.PgTimeTz.{PgTimeTz}

-- the time is cut to microseconds, and the offset is kept
abbrev pub time_tz_kept : PgTimeTz → PgTimeTz
time_tz_kept v = record { time = time_kept v.time; offset = v.offset }

-- ---- an offset turned twice

turned_small : (s : ℤ) → nat_lt (unsigned_abs s) 86_400 ≡ true → nat_lt (unsigned_abs (neg_ℤ s)) 86_400 ≡ true
turned_small (pos zero) h = h
turned_small (pos (suc n)) h = h
turned_small (negsuc n) h = h

turned_again : (s : ℤ) → neg_ℤ (neg_ℤ s) ≡ s
turned_again (pos zero) = refl
turned_again (pos (suc n)) = refl
turned_again (negsuc n) = refl

-- an offset has room in 32 bits
offset_room : (s : ℤ) → nat_lt (unsigned_abs s) 86_400 ≡ true → fits_signed w32 s ≡ true
offset_room (pos n) h = let lt = ltb-true n 86_400 h in lt-ltb n 2_147_483_648 (omega (arith, lt))
offset_room (negsuc n) h = let lt = ltb-true (suc n) 86_400 h in lt-ltb n 2_147_483_648 (omega (arith, lt))

-- ---- the two numbers are read from their bytes

numbers_again : (micros west : ℤ) → fits_signed w64 micros ≡ true → fits_signed w32 west ≡ true → two_numbers (bytes_of_numbers micros west) ≡ Some (micros, west)
numbers_again micros west a b = rw (eight_again micros a, four_again west b) refl

-- ---- what was written

-- an image has an offset that was turned, and its numbers have room
record IsWritten (micros seconds : ℤ) (i : Image) (p : Option Ty) (os : List Oid) : Type 0 where
  part : written_part i p os ≡ Some (bytes_of_numbers micros (neg_ℤ seconds))
  room : fits_signed w64 micros ≡ true
  small : nat_lt (unsigned_abs seconds) 86_400 ≡ true

turned : (micros west : ℤ) (why : CodecError) (b : Bool) (i : Image) → ok_of (or_fail (if b then Some west else None) why >>= λ w. writes (image_of_numbers micros w)).answer ≡ Some i → (b ≡ true) × (image_of_numbers micros west ≡ Some i)
turned micros west why true i e = (refl, image_is (image_of_numbers micros west) i e)
turned micros west why false i e = absurd cc

timetz_written : (micros seconds : ℤ) (i : Image) (p : Option Ty) (os : List Oid) → ok_of (or_fail (other_way seconds) (OffsetRange seconds) >>= λ west. writes (image_of_numbers micros west)).answer ≡ Some i → IsWritten micros seconds i p os
timetz_written micros seconds i p os e =
    let t = turned micros (neg_ℤ seconds) (OffsetRange seconds) (nat_lt (unsigned_abs seconds) 86_400) i e in
    let g = guarded (fits_signed w64 micros) (Some (image_of (bytes (bytes_of_numbers micros (neg_ℤ seconds))))) i t.1 in
    record { part = part_is (bytes_of_numbers micros (neg_ℤ seconds)) i p os g.1; room = g.0; small = t.0 }

-- ---- read back

again : (v : PgTimeTz) → fits_signed w64 (pos (time_nanos v.time / 1000)) ≡ true → nat_lt (unsigned_abs v.offset.seconds) 86_400 ≡ true →
    time_tz_in_binary (bytes_of_numbers (pos (time_nanos v.time / 1000)) (neg_ℤ v.offset.seconds)) ≡ Ok (time_tz_numbers (time_tz_kept v))
again v room small =
    let west = neg_ℤ v.offset.seconds in
    let less = turned_small v.offset.seconds small in
    ap (λ (o : Option (ℤ × ℤ)). (let p : Parsed (ℤ × ℤ) = ok_or o Short in p) and_then time_tz_of) (numbers_again (pos (time_nanos v.time / 1000)) west room (offset_room west less))
    ∙ rw (less, turned_again v.offset.seconds, time_again v.time) refl

pub time_tz_back : ReadsBack {A = PgTimeTz} (λ v. with_hint 12 (time_tz_image (time_tz_numbers v))) (reading_of (without_memory parse_time_tz)) (λ v. time_tz_numbers (time_tz_kept v)) always
time_tz_back v i t p os e whole small fit =
    let w = timetz_written (pos (time_nanos v.time / 1000)) v.offset.seconds i p os e in
    ap (λ (part : Part). reading_of (without_memory parse_time_tz) t Binary part) w.part ∙ ap (λ (p : Parsed (ℕ × ℤ)). ok_of (stated p)) (again v w.room w.small)
