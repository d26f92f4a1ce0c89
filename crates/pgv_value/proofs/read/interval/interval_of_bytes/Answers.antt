use mir.Val.{SFits}
use Rattle.std.proofs.Common.{◌≡◌, ◌∙◌, false, length, take, drop, nat_lt, rules, refl, ap}
use Rattle.std.specs.Int.{w32, w64, cast_signed, cast_unsigned}
use Rattle.std.proofs.lemmas.Bool.{le-ltb}
use Rattle.std.proofs.lemmas.Int.{to_z-of_z}
use Rattle.std.proofs.lemmas.List.{drop-drop}
use Rattle.pgv_value.specs.Interval.{eight_bytes, signed_four_bytes}
use Rattle.pgv_value.proofs.Numbers.{front_of_eight, front_of_four}
use Rattle.pgv_value.proofs.read.interval.interval_of_bytes.Goals as goal

pub returns : goal.returns
returns c =
    let bytes = c.args.bytes.now in
    let months_fit : SFits w32 c.number_of_four.result = search rules in
    let days_fit : SFits w32 c.number_of_four-2.result = search rules in
    let microseconds_fit : SFits w64 c.number_of_eight.result = search rules in
    let months : cast_signed w32 (cast_unsigned w32 c.number_of_four.result) ≡ signed_four_bytes (drop 12 bytes) =
    to_z-of_z w32 c.number_of_four.result months_fit ∙ c.number_of_four.ensures ∙ ap signed_four_bytes (c.split_at-2.ensures.back ∙ ap (drop 4) c.split_at.ensures.back ∙ drop-drop 4 8 bytes) in
    let days : cast_signed w32 (cast_unsigned w32 c.number_of_four-2.result) ≡ signed_four_bytes (drop 8 bytes) =
    to_z-of_z w32 c.number_of_four-2.result days_fit ∙ c.number_of_four-2.ensures ∙ ap signed_four_bytes (c.split_at-2.ensures.front ∙ ap (take 4) c.split_at.ensures.back) ∙ front_of_four (drop 8 bytes) in
    let microseconds : cast_signed w64 (cast_unsigned w64 c.number_of_eight.result) ≡ eight_bytes bytes =
    to_z-of_z w64 c.number_of_eight.result microseconds_fit ∙ c.number_of_eight.ensures ∙ ap eight_bytes c.split_at.ensures.front ∙ front_of_eight bytes in
    let enough : nat_lt (length bytes) 16 ≡ false = le-ltb (length bytes) 16 c.if-bytes-lt16.false in
    rw (enough, months, days, microseconds) refl
