use Rattle.std.proofs.Common.{◌∙◌, ◌++◌, ℕ, List, length, ap, arith}
use Rattle.pgv_buf.specs.Tokens.{blank, bytes, be4}
use Rattle.pgv_codec.proofs.OneFrame.{plain_frame}
use Rattle.pgv_codec.specs.PlainBytes.{appended_parts}
use Rattle.pgv_codec.proofs.buffer.PgArgumentBuffer.push_long_frame.Goals as goal

pub returns-clause-ok : goal.returns-clause-ok
returns-clause-ok c =
    let value = c.args.value.now in
    let head = c.in_ok-extend_from_slice.ensures.ok ∙ ap (λ (xs : List ℕ). c.args.self.now ++ blank (bytes xs)) c.in-Some.ensures.1 in
    (bytes (be4 (length value) ++ value), plain_frame value (omega (arith, c.in-Some.ensures.0)), appended_parts _ _ _ (be4 (length value)) value head c.in_ok-extend_from_slice-2.ensures.ok)
