use mir.Val.{SFits}
use Rattle.std.proofs.Common.{rules, ◌≡◌, sym, ◌∙◌, drop, length, false, Some, Ok}
use Rattle.std.proofs.lemmas.Int.{to_z-of_z}
use Rattle.std.specs.Prelude.{nat_lt, ◌==◌}
use Rattle.std.specs.Int.{w16, cast_signed, cast_unsigned}
use Rattle.pgv_more.proofs.NumericWords.{number_is_read}
use Rattle.pgv_more.specs.Numeric.{digits_after, no_number, said_sign, sign_of, signed_word, unsigned_word}
use Rattle.pgv_more.proofs.numeric.codec.of_bytes.Goals as goal

pub returns : goal.returns
returns c =
    let form = c.args.form.now in
    let weight_fits : SFits w16 c.signed_at.result = search rules in
    let scale_fits : SFits w16 c.signed_at-2.result = search rules in
    let weight : signed_word (drop 2 form) ≡ cast_signed w16 (cast_unsigned w16 c.signed_at.result) =
    sym (to_z-of_z w16 c.signed_at.result weight_fits ∙ c.signed_at.ensures) in
    let scale : signed_word (drop 6 form) ≡ cast_signed w16 (cast_unsigned w16 c.signed_at-2.result) =
    sym (to_z-of_z w16 c.signed_at-2.result scale_fits ∙ c.signed_at-2.ensures) in
    let long : nat_lt (length form) 8 ≡ false = search rules in
    let said : (said_sign form == no_number) ≡ false = search rules in
    let signed : sign_of (said_sign form) ≡ Some c.in-Some.sign = search rules in
    let after : (digits_after (unsigned_word form) (drop 8 form)).answer ≡ Ok c.in_ok-read_digits.field-0.items =
    search rules in
    number_is_read form c.in-Some.sign c.in_ok-read_digits.field-0.items _ _ long said signed after weight scale
