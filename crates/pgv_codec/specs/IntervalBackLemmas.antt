-- What is written of an interval is read back as it.
use Rattle.std.specs.Prelude.{◌≡◌, ℕ, true, ◌&&◌, List, ◌++◌, Some, Ok, refl}
use Rattle.std.specs.Int.{w32, w64, cast_unsigned, to_be_bytes}
use Rattle.std.proofs.Common.{ap, ◌∙◌}
use Rattle.std.proofs.lemmas.Bool.{and_parts}
use Rattle.pgv_buf.specs.Tokens.{bytes}
use Rattle.pgv_value.specs.FrameBinary.{Part}
use Rattle.pgv_value.specs.Interval.{interval_in_binary, parse_interval}
use Rattle.pgv_value.specs.Outcome.{ok_of, reading_of, stated, without_memory}
use Rattle.pgv_value.specs.Parsed.{Parsed}
use Rattle.pgv_value.specs.declared.interval.PgInterval.{PgInterval}
use Rattle.pgv_value.specs.declared.value.PgValueFormat.TheVariants.{Binary}
use Rattle.pgv_codec.specs.Back.{ReadsBack, always, image_is}
use Rattle.pgv_codec.specs.PartBackLemmas.{guarded}
use Rattle.pgv_codec.specs.ScalarBackLemmas.{part_is}
use Rattle.pgv_codec.specs.Encoding.{image_of, with_hint, writes}
use Rattle.pgv_codec.specs.Intervals.{interval_image}
use Rattle.pgv_value.specs.IntBinary.{fits_signed}
use Rattle.pgv_value.specs.OwnBytesLemmas.{eight_again, four_again}

form : PgInterval → List ℕ
form i = to_be_bytes w64 (cast_unsigned w64 i.microseconds) ++ (to_be_bytes w32 (cast_unsigned w32 i.days) ++ to_be_bytes w32 (cast_unsigned w32 i.months))

interval_again : (i : PgInterval) → fits_signed w64 i.microseconds ≡ true → fits_signed w32 i.days ≡ true → fits_signed w32 i.months ≡ true → interval_in_binary (form i) ≡ Ok i
unfolding form
interval_again i a b c = rw (eight_again i.microseconds a, four_again i.days b, four_again i.months c) refl

pub interval_back : ReadsBack (λ i. with_hint 16 (writes (interval_image i))) (reading_of (without_memory parse_interval)) (λ i. i) always
unfolding form
interval_back v i t p os e whole small fit =
    let g = guarded (fits_signed w64 v.microseconds && (fits_signed w32 v.days && fits_signed w32 v.months)) (Some (image_of (bytes (form v)))) i (image_is (interval_image v) i e) in
    let h = and_parts (fits_signed w64 v.microseconds) (fits_signed w32 v.days && fits_signed w32 v.months) g.0 in
    let k = and_parts (fits_signed w32 v.days) (fits_signed w32 v.months) h.1 in
    ap (λ (part : Part). reading_of (without_memory parse_interval) t Binary part) (part_is (form v) i p os g.1)
    ∙ ap (λ (p : Parsed PgInterval). ok_of (stated p)) (interval_again v h.0 k.0 k.1)
