use Rattle.pgv_codec.proofs.Extensions.{extends_itself, on_err}
use Rattle.pgv_codec.proofs.Lists.{header_known}
use Rattle.pgv_codec.proofs.types.array.write_header.Goals as goal

pub returns-in_err-extend_from_slice-clause-appended : goal.returns-in_err-extend_from_slice-clause-appended
returns-in_err-extend_from_slice-clause-appended c = on_err c.from_residual.result (rw c.in_err-extend_from_slice.ensures.err.1 (extends_itself c.args.out.now))

pub returns-in-Some-clause-ok : goal.returns-in-Some-clause-ok
returns-in-Some-clause-ok c =
    header_known c.args.element c.args.count c.in-Some.oid.0 c.args.out.now c.extend_from_slice.new.self c.in-Some.ensures c.known_header.ensures.number
    (rw c.known_header.ensures.bytes at c.in_ok-extend_from_slice.ensures.ok)

pub returns-clause-ok : goal.returns-clause-ok
returns-clause-ok c = c.write_open_header.ensures.ok

pub returns-clause-appended : goal.returns-clause-appended
returns-clause-appended c = c.write_open_header.ensures.appended
