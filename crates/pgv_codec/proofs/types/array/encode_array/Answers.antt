use Rattle.std.proofs.Common.{List, ◌++◌, length, map, subst, arith}
use Rattle.std.proofs.lemmas.Result.{err_from_is_err_and}
use Rattle.pgv_types.specs.Ty.{Ty}
use Rattle.pgv_buf.specs.Tokens.{Cell, blank}
use Rattle.pgv_codec.specs.Encoding.{header, written_element}
use Rattle.pgv_codec.specs.Appending.{Appended}
use Rattle.pgv_codec.proofs.Extensions.{extends_further, extends_itself, on_err}
use Rattle.pgv_codec.proofs.Lists.{both, array_asks, array_long, array_there, array_unwritten}
use Rattle.pgv_codec.proofs.types.array.encode_array.Goals as goal

pub returns-clause-encodes : goal.returns-clause-encodes
returns-clause-encodes g c =
    let was = c.args.out.now in
    let xs = c.args.values.now in
    let t = written_element g.T.Type.info (map g.T.Encode.encoding xs) in
    let a = c.in_ok-write_frames.ensures.exact in
    let start : Appended (header c.in_ok-element.element (length xs)) was c.write_header.new.out =
    subst (λ (b : List Cell). Appended (header c.in_ok-element.element (length xs)) b c.write_header.new.out) c.reserve.ensures.same c.in_ok-write_header.ensures.ok in
    let h : Appended (header t (length xs)) was c.write_header.new.out =
    subst (λ (u : Ty). Appended (header u (length xs)) was c.write_header.new.out) c.in_ok-element.ensures start in (
      h.0 ++ a.0,
      array_there g.T.Encode.encoding g.T.Type.info xs h.0 a.0 (omega (arith, c.if-count.false)) h.1 a.1,
      both was c.write_header.new.out c.write_frames.new.out h.0 a.0 h.2 a.2,
    )

pub returns-then-count-clause-encodes : goal.returns-then-count-clause-encodes
returns-then-count-clause-encodes g c = array_long g.T.Encode.encoding g.T.Type.info c.args.values.now c.if-count.true

pub returns-in_err-element-clause-encodes : goal.returns-in_err-element-clause-encodes
returns-in_err-element-clause-encodes g c =
    let p = err_from_is_err_and c.from_residual.result c.from_residual.ensures.1 in
    rw (p.1, p.2) (array_asks g.T.Encode.encoding g.T.Type.info c.args.values.now c.if-count.false)

pub returns-in_err-reserve-clause-encodes : goal.returns-in_err-reserve-clause-encodes
returns-in_err-reserve-clause-encodes g c =
    let p = err_from_is_err_and c.from_residual-in_err-reserve.result c.from_residual-in_err-reserve.ensures.1 in
    rw (p.1, p.2, c.in_err-reserve.ensures.err) (array_asks g.T.Encode.encoding g.T.Type.info c.args.values.now c.if-count.false)

pub returns-in_err-write_header-clause-encodes : goal.returns-in_err-write_header-clause-encodes
returns-in_err-write_header-clause-encodes g c =
    let p = err_from_is_err_and c.from_residual-in_err-write_header.result c.from_residual-in_err-write_header.ensures.1 in
    rw (p.1, p.2, c.in_err-write_header.ensures.err) (array_asks g.T.Encode.encoding g.T.Type.info c.args.values.now c.if-count.false)

pub returns-in_err-write_frames-clause-encodes : goal.returns-in_err-write_frames-clause-encodes
returns-in_err-write_frames-clause-encodes g c =
    let xs = c.args.values.now in
    let t = written_element g.T.Type.info (map g.T.Encode.encoding xs) in
    let h : Appended (header t (length xs)) c.reserve.new.self c.write_header.new.out =
    subst (λ (u : Ty). Appended (header u (length xs)) c.reserve.new.self c.write_header.new.out) c.in_ok-element.ensures c.in_ok-write_header.ensures.ok in
    let p = err_from_is_err_and c.from_residual-in_err-write_frames.result c.from_residual-in_err-write_frames.ensures.1 in
    rw (p.1, p.2) (array_unwritten g.T.Encode.encoding g.T.Type.info xs h.0 c.in_err-write_frames.field-0.0 (omega (arith, c.if-count.false)) h.1 c.in_err-write_frames.ensures.exact)

pub returns-then-count-clause-appended : goal.returns-then-count-clause-appended
returns-then-count-clause-appended g c = extends_itself c.args.out.now

pub returns-in_err-element-clause-appended : goal.returns-in_err-element-clause-appended
returns-in_err-element-clause-appended g c = on_err c.from_residual.result (extends_itself c.args.out.now)

pub returns-in_err-reserve-clause-appended : goal.returns-in_err-reserve-clause-appended
returns-in_err-reserve-clause-appended g c = on_err c.from_residual-in_err-reserve.result (rw c.in_err-reserve.ensures.same (extends_itself c.args.out.now))

pub returns-in_err-write_header-clause-appended : goal.returns-in_err-write_header-clause-appended
returns-in_err-write_header-clause-appended g c = on_err c.from_residual-in_err-write_header.result (rw c.reserve.ensures.same at c.in_err-write_header.ensures.appended)

pub returns-in_err-write_frames-clause-appended : goal.returns-in_err-write_frames-clause-appended
returns-in_err-write_frames-clause-appended g c =
    let head = rw c.reserve.ensures.same at c.in_ok-write_header.ensures.ok in
    on_err c.from_residual-in_err-write_frames.result (extends_further c.args.out.now c.write_header.new.out c.write_frames.new.out (blank head.0, head.2) c.in_err-write_frames.ensures.appended)
