use Rattle.std.proofs.Common.{◌≡◌, sym, refl, ◌∙◌, ap, Some, true}
use Rattle.std.specs.Prelude.{map}
use Rattle.std.specs.List.{list_all}
use Rattle.std.proofs.lemmas.List.{length-map}
use Rattle.pgv_more.specs.BitsText.{bits_in_text, is_bit_digit, is_one}
use Rattle.pgv_more.proofs.Kept.{closes, shows}
use Rattle.pgv_more.proofs.bit_vec.BitVec.from_digits.Goals as goal

pub invariant_of-result : goal.invariant_of-result
invariant_of-result c = closes _ _ (map is_one c.args.digits.now) c.in_ok-bytes_of.ensures (sym (length-map c.args.digits.now is_one))

pub returns : goal.returns
returns c =
    let all : list_all is_bit_digit c.args.digits.now ≡ true = sym c.are_digits.ensures ∙ c.if-not-are_digits.false in
    let there : bits_in_text c.args.digits.now ≡ Some (map is_one c.args.digits.now) = rw all refl in
    ap (λ bits. Some bits) (shows _ _ (map is_one c.args.digits.now) c.in_ok-bytes_of.ensures (sym (length-map c.args.digits.now is_one))) ∙ sym there
