use Rattle.std.proofs.Common.{rules, ◌≡◌, ◌≤◌, ◌++◌, length, arith}
use Rattle.std.proofs.lemmas.Bool.Decides.{nat_tests}
use Rattle.std.proofs.lemmas.Result.{err_from_is_err_and}
use Rattle.std.specs.Int.{w16}
use Rattle.pgv_buf.specs.Tokens.{bytes, blank}
use Rattle.pgv_value.specs.OwnBytesLemmas.{signed_fits}
use Rattle.pgv_codec.proofs.Extensions.{extends_further, extends_itself, on_err}
use Rattle.pgv_more.proofs.NumericWritten.{number_appended, number_unwritten}
use Rattle.pgv_more.specs.Numeric.{head_form, sign_word}
use Rattle.pgv_more.proofs.numeric.codec.write_number.Goals as goal

pub returns-clause-encodes : goal.returns-clause-encodes
returns-clause-encodes c =
    let count : length c.args.digits.now ≤ 32767 = grind (arith, nat_tests, c.if-count-gt-DIGIT_LIMIT.false) in
    let head : c.extend_from_slice.new.self ≡ c.args.out.now ++ blank (bytes (head_form (length c.args.digits.now) c.args.weight (sign_word c.args.sign) c.args.scale)) = search rules in
    number_appended c.args.sign c.args.digits.now c.args.weight c.args.scale c.args.out.now c.extend_from_slice.new.self c.write_digits.new.out count
    (signed_fits w16 c.args.weight c.ranges.weight) (signed_fits w16 c.args.scale c.ranges.scale) head c.in_ok-write_digits.ensures.exact

pub returns-in_err-write_digits-clause-encodes : goal.returns-in_err-write_digits-clause-encodes
returns-in_err-write_digits-clause-encodes c =
    let count : length c.args.digits.now ≤ 32767 = grind (arith, nat_tests, c.if-count-gt-DIGIT_LIMIT.false) in
    let k = err_from_is_err_and c.from_residual-in_err-write_digits.result c.from_residual-in_err-write_digits.ensures.1 in
    rw (k.1, k.2) (number_unwritten c.args.sign c.args.digits.now c.args.weight c.args.scale c.in_err-write_digits.field-0.0 count c.in_err-write_digits.ensures.exact)

pub returns-then-count-gt-DIGIT_LIMIT-clause-appended : goal.returns-then-count-gt-DIGIT_LIMIT-clause-appended
returns-then-count-gt-DIGIT_LIMIT-clause-appended c = extends_itself c.args.out.now

pub returns-in_err-reserve-clause-appended : goal.returns-in_err-reserve-clause-appended
returns-in_err-reserve-clause-appended c = on_err c.from_residual.result (rw c.in_err-reserve.ensures.same (extends_itself c.args.out.now))

pub returns-in_err-extend_from_slice-clause-appended : goal.returns-in_err-extend_from_slice-clause-appended
returns-in_err-extend_from_slice-clause-appended c =
    on_err c.from_residual-in_err-extend_from_slice.result (rw (c.in_err-extend_from_slice.ensures.err.1, c.reserve.ensures.same) (extends_itself c.args.out.now))

pub returns-in_err-write_digits-clause-appended : goal.returns-in_err-write_digits-clause-appended
returns-in_err-write_digits-clause-appended c =
    let head = rw c.reserve.ensures.same at c.in_ok-extend_from_slice.ensures.ok in
    on_err c.from_residual-in_err-write_digits.result (extends_further c.args.out.now c.extend_from_slice.new.self c.write_digits.new.out (_, head) c.in_err-write_digits.ensures.appended)
