use Rattle.std.proofs.Common.{refl, get_or, pos}
use Rattle.std.proofs.lemmas.Result.{err_from_is_err_and}
use Rattle.pgv_more.proofs.NumericWritten.{digits_done, digits_more, digits_unwritten}
use Rattle.pgv_more.proofs.numeric.codec.write_digits.Goals as goal

pub loop-digit-preserved : goal.loop-digit-preserved
loop-digit-preserved c =
    digits_more c.args.digits.now c.loop-digit.digit-index (get_or c.args.digits.now c.loop-digit.digit-index (pos 0)) (pos 0) c.args.out.now c.loop-digit.out c.write_digit.new.out c.loop-digit-test.true refl c.loop-digit.invariant c.in_ok-write_digit.ensures.exact

pub returns-in_err-write_digit-clause-exact : goal.returns-in_err-write_digit-clause-exact
returns-in_err-write_digit-clause-exact c =
    let k = err_from_is_err_and c.from_residual.result c.from_residual.ensures.1 in
    rw (k.1, k.2)
    (digits_unwritten c.args.digits.now c.loop-digit.digit-index (pos 0) c.in_err-write_digit.field-0.0 c.args.out.now c.loop-digit.out c.loop-digit-test.true c.loop-digit.invariant c.in_err-write_digit.ensures.exact)

pub returns-clause-exact : goal.returns-clause-exact
returns-clause-exact c = digits_done c.args.digits.now c.loop-digit.digit-index c.args.out.now c.loop-digit.out c.loop-digit-test.false c.loop-digit.invariant
