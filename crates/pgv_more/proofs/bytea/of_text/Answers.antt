use Rattle.std.proofs.Common.{◌<◌, length, refl, sym, ◌∙◌, arith, inl, inr}
use Rattle.std.proofs.lemmas.Bool.Decides.{nat_tests}
use Rattle.pgv_more.proofs.ByteaDigits.{nothing_is_read, others_not_read, pairs_ask}
use Rattle.pgv_more.proofs.bytea.of_text.Goals as goal

pub returns-then-is_empty : goal.returns-then-is_empty
returns-then-is_empty c =
    rw (nothing_is_read c.args.text.now c.in-Some.digits.now c.in-Some.ensures (grind (arith, nat_tests, c.is_empty.ensures, c.if-is_empty.true)), c.new.ensures.items) refl

pub returns-in-Err : goal.returns-in-Err
returns-in-Err c =
    let some : 0 < length c.in-Some.digits.now = grind (arith, nat_tests, c.is_empty.ensures, c.if-is_empty.false) in
    inr (inr (refl, pairs_ask c.args.text.now c.in-Some.digits.now c.in-Some.ensures some (sym c.are_pairs.ensures ∙ c.if-are_pairs.true)))

pub returns-in-Err-2 : goal.returns-in-Err-2
returns-in-Err-2 c = inl (rw (others_not_read c.args.text.now c.in-Some.digits.now c.in-Some.ensures (sym c.are_pairs.ensures ∙ c.if-are_pairs.false)) refl)
