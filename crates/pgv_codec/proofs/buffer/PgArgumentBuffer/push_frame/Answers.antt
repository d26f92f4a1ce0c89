use Rattle.std.proofs.Common.{◌++◌, length, refl, arith}
use Rattle.pgv_buf.specs.Tokens.{bytes, be4}
use Rattle.pgv_codec.proofs.OneFrame.{plain_frame}
use Rattle.pgv_codec.specs.PlainBytes.{appended_parts}
use Rattle.pgv_codec.proofs.buffer.PgArgumentBuffer.push_frame.Goals as goal

pub returns-then-value-eq4-clause-ok : goal.returns-then-value-eq4-clause-ok
returns-then-value-eq4-clause-ok c = let value = c.args.value.now in (refl, (bytes (be4 (length value) ++ value), plain_frame value (omega (arith, c.requires)), c.in_ok-push_counted.ensures.ok))

pub returns-clause-ok : goal.returns-clause-ok
returns-clause-ok c =
    let value = c.args.value.now in
    (refl, (bytes (be4 (length value) ++ value), plain_frame value (omega (arith, c.requires)), appended_parts _ _ _ (be4 (length value)) value c.in_ok-push_u32.ensures.ok c.in_ok-extend_from_slice.ensures.ok))
