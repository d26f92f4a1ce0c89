use Rattle.std.proofs.lemmas.Result.{err_from_is_err_and}
use Rattle.pgv_more.proofs.HstoreWritten.{map_appended, memory_fails, number_fails, pairs_fail}
use Rattle.pgv_codec.proofs.Extensions.{extends_further, extends_itself, on_err}
use Rattle.pgv_more.proofs.hstore.codec.PgHstoreEncode.encode_by_ref.Goals as goal

pub returns-in_err-number-clause-encodes : goal.returns-in_err-number-clause-encodes
returns-in_err-number-clause-encodes c =
    let p = err_from_is_err_and c.from_residual.result c.from_residual.ensures.1 in
    rw (p.1, p.2) (number_fails c.args.self.now.0.entries c.len.result c.in_err-number.field-0.0 c.len.ensures.len c.in_err-number.ensures)

pub returns-in_err-extend_from_slice-clause-encodes : goal.returns-in_err-extend_from_slice-clause-encodes
returns-in_err-extend_from_slice-clause-encodes c =
    let p = err_from_is_err_and c.from_residual-in_err-extend_from_slice.result c.from_residual-in_err-extend_from_slice.ensures.1 in
    rw (p.1, p.2) (memory_fails c.args.self.now.0.entries c.len.result c.in_ok-number.number c.in_err-extend_from_slice.field-0.0 c.len.ensures.len c.in_ok-number.ensures c.in_err-extend_from_slice.ensures.err.0)

pub returns-in_err-write_pairs-clause-encodes : goal.returns-in_err-write_pairs-clause-encodes
returns-in_err-write_pairs-clause-encodes c =
    let p = err_from_is_err_and c.from_residual-in_err-write_pairs.result c.from_residual-in_err-write_pairs.ensures.1 in
    rw (p.1, p.2) (pairs_fail c.args.self.now.0.entries c.len.result c.in_ok-number.number c.in_err-write_pairs.field-0.0 c.len.ensures.len c.in_ok-number.ensures c.in_err-write_pairs.ensures.exact)

pub returns-clause-encodes : goal.returns-clause-encodes
returns-clause-encodes c =
    map_appended c.args.self.now.0.entries c.len.result c.in_ok-number.number c.args.out.now c.extend_from_slice.new.self c.write_pairs.new.out c.len.ensures.len c.in_ok-number.ensures c.len.ensures.ordered
    c.in_ok-extend_from_slice.ensures.ok c.in_ok-write_pairs.ensures.exact

pub returns-in_err-number-clause-appended : goal.returns-in_err-number-clause-appended
returns-in_err-number-clause-appended c = on_err c.from_residual.result (extends_itself c.args.out.now)

pub returns-in_err-extend_from_slice-clause-appended : goal.returns-in_err-extend_from_slice-clause-appended
returns-in_err-extend_from_slice-clause-appended c = on_err c.from_residual-in_err-extend_from_slice.result (rw c.in_err-extend_from_slice.ensures.err.1 (extends_itself c.args.out.now))

pub returns-in_err-write_pairs-clause-appended : goal.returns-in_err-write_pairs-clause-appended
returns-in_err-write_pairs-clause-appended c =
    on_err c.from_residual-in_err-write_pairs.result (extends_further c.args.out.now c.extend_from_slice.new.self c.write_pairs.new.out (_, c.in_ok-extend_from_slice.ensures.ok) c.in_err-write_pairs.ensures.appended)
