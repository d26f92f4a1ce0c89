use Rattle.std.proofs.Common.{◌≡◌, ◌≤◌, length, pos, rules, arith}
use Rattle.std.proofs.lemmas.Int.{ints}
use Rattle.pgv_buf.specs.Tokens.{be4}
use Rattle.pgv_more.proofs.Kept.{written_bits}
use Rattle.pgv_codec.proofs.Extensions.{extends_itself, on_err}
use Rattle.pgv_more.proofs.bit_vec.codec.BitVecEncode.encode_by_ref.Goals as goal

pub returns-clause-encodes : goal.returns-clause-encodes
returns-clause-encodes c =
    let few : length c.args.self.now ≤ 2147483647 = grind (arith, ints, c.try_from.ensures, c.in-Ok.is, c.len-count.ensures) in
    let number : c.in-Ok.number ≡ pos (length c.args.self.now) = search rules in
    let form : c.to_be_bytes.result ≡ be4 (length c.args.self.now) = search rules in
    written_bits c.args.out.now c.extend_from_slice.new.self c.extend_from_slice-2.new.self c.to_be_bytes.result c.as_bytes.result.now c.args.self.now few
    form c.as_bytes.ensures c.in_ok-extend_from_slice.ensures.ok c.in_ok-extend_from_slice-2.ensures.ok

pub returns-in_err-extend_from_slice-clause-appended : goal.returns-in_err-extend_from_slice-clause-appended
returns-in_err-extend_from_slice-clause-appended c = on_err c.from_residual.result (rw c.in_err-extend_from_slice.ensures.err.1 (extends_itself c.args.out.now))

pub returns-in_err-extend_from_slice-2-clause-appended : goal.returns-in_err-extend_from_slice-2-clause-appended
returns-in_err-extend_from_slice-2-clause-appended c =
    on_err c.from_residual-in_err-extend_from_slice-2.result (rw c.in_err-extend_from_slice-2.ensures.err.1 (_, c.in_ok-extend_from_slice.ensures.ok))
