use Rattle.std.proofs.Common.{ℕ, [], ◌∷◌, ◌++◌, refl, ap, ◌∙◌, inr}
use Rattle.std.proofs.lemmas.Result.{err_from_is_err_and}
use Rattle.pgv_buf.specs.Tokens.{byte, blank}
use Rattle.pgv_codec.proofs.Extensions.{extends_itself, on_err}
use Rattle.pgv_range.proofs.codec.encode_empty.Goals as goal

pub returns-in_err-push-clause-encodes : goal.returns-in_err-push-clause-encodes
returns-in_err-push-clause-encodes c =
    let p = err_from_is_err_and c.from_residual.result c.from_residual.ensures.1 in
    rw (p.1, p.2, c.in_err-push.ensures.err.0) (inr (inr (refl, refl)))

pub returns-in_err-push-clause-appended : goal.returns-in_err-push-clause-appended
returns-in_err-push-clause-appended c = on_err c.from_residual.result (rw c.in_err-push.ensures.err.1 (extends_itself c.args.out.now))

pub returns-clause-encodes : goal.returns-clause-encodes
returns-clause-encodes c = (byte 1 ∷ [], refl, c.in_ok-push.ensures.ok ∙ ap (λ (n : ℕ). c.args.out.now ++ blank (byte n ∷ [])) (c.bits.ensures tt))
