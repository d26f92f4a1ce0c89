use Rattle.std.proofs.Common.{[], ◌∷◌}
use Rattle.pgv_buf.specs.Tokens.{hole, bytes, be4}
use Rattle.pgv_codec.specs.Encoding.{typed}
use Rattle.pgv_codec.proofs.Lists.{typed_known, typed_unknown, written_if_ok}
use Rattle.pgv_codec.proofs.buffer.PgArgumentBuffer.push_type.Goals as goal

pub returns-in-Some-clause-ok : goal.returns-in-Some-clause-ok
returns-in-Some-clause-ok c =
    written_if_ok c.push_u32.result (typed c.args.written) (bytes (be4 c.in-Some.oid.0)) c.args.self.now c.push_u32.new.self
    (typed_known c.args.written c.in-Some.oid.0 c.in-Some.ensures c.push_u32.ensures.number) c.push_u32.ensures.ok

pub returns-in-None-clause-ok : goal.returns-in-None-clause-ok
returns-in-None-clause-ok c =
    written_if_ok c.push_hole.result (typed c.args.written) (hole c.args.written ∷ []) c.args.self.now c.push_hole.new.self
    (typed_unknown c.args.written c.in-None.ensures) c.push_hole.ensures.ok
