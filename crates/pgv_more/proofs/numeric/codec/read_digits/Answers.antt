use mir.Val.{SFits}
use Rattle.std.proofs.Common.{rules, ◌∙◌}
use Rattle.std.proofs.lemmas.Int.{to_z-of_z}
use Rattle.std.specs.Int.{w16, cast_signed, cast_unsigned}
use Rattle.pgv_more.proofs.NumericWords.{digit_read}
use Rattle.pgv_more.proofs.numeric.codec.read_digits.Goals as goal

pub loop-place-preserved : goal.loop-place-preserved
loop-place-preserved c =
    let fits : SFits w16 c.signed_at.result = search rules in
    let x = cast_signed w16 (cast_unsigned w16 c.signed_at.result) in
    digit_read c.loop-place.place c.args.form.now c.loop-place.digits.items c.push.new.self.items x c.loop-place.invariant c.in_ok-push.ensures.items
    (to_z-of_z w16 c.signed_at.result fits ∙ c.signed_at.ensures)
