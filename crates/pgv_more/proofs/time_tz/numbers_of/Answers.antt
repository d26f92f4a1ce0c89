use mir.Val.{SFits}
use Rattle.std.proofs.Common.{◌≡◌, ◌∙◌, false, length, drop, nat_lt, rules, refl, ap}
use Rattle.std.specs.Int.{w32, w64, cast_signed, cast_unsigned}
use Rattle.std.proofs.lemmas.Bool.{le-ltb}
use Rattle.std.proofs.lemmas.Int.{to_z-of_z}
use Rattle.pgv_value.specs.Interval.{eight_bytes, signed_four_bytes}
use Rattle.pgv_value.proofs.Numbers.{front_of_eight}
use Rattle.pgv_more.proofs.time_tz.numbers_of.Goals as goal

pub returns : goal.returns
returns c =
    let form = c.args.form.now in
    let micros_fit : SFits w64 c.number_of_eight.result = search rules in
    let west_fit : SFits w32 c.number_of_four.result = search rules in
    let micros : cast_signed w64 (cast_unsigned w64 c.number_of_eight.result) ≡ eight_bytes form =
    to_z-of_z w64 c.number_of_eight.result micros_fit ∙ c.number_of_eight.ensures ∙ ap eight_bytes c.split_at.ensures.front ∙ front_of_eight form in
    let west : cast_signed w32 (cast_unsigned w32 c.number_of_four.result) ≡ signed_four_bytes (drop 8 form) =
    to_z-of_z w32 c.number_of_four.result west_fit ∙ c.number_of_four.ensures ∙ ap signed_four_bytes c.split_at.ensures.back in
    let enough : nat_lt (length form) 12 ≡ false = le-ltb (length form) 12 c.if-form-lt12.false in
    rw (enough, micros, west) refl
