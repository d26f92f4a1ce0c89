use Rattle.std.proofs.Common.{◌≡◌, ℕ, List, [], ◌∷◌, ◌++◌, Ok, refl, ap, ◌∙◌, sym, inl, inr}
use Rattle.std.proofs.lemmas.Result.{err_from_is_err_and}
use Rattle.std.specs.Range.Bound.{bound_map}
use Rattle.std.specs.declared.ops.Bound.{Bound}
use Rattle.pgv_buf.specs.Tokens.{Token, byte, blank}
use Rattle.pgv_value.specs.Outcome.{Fails}
use Rattle.pgv_value.specs.declared.error.CodecError.{CodecError}
use Rattle.pgv_value.specs.declared.error.CodecError.TheVariants.{Memory}
use Rattle.pgv_codec.specs.Encoding.{Encoding}
use Rattle.pgv_codec.proofs.Extensions.{extends_further, extends_itself, on_err}
use Rattle.pgv_codec.proofs.Lists.{both}
use Rattle.pgv_range.specs.FlagByte.{flags_of}
use Rattle.pgv_range.specs.RangeBackLemmas.{flags_same}
use Rattle.pgv_range.specs.RangeImage.{bound_frame, bounds_image}
use Rattle.pgv_range.proofs.codec.encode_bounds.Goals as goal

-- ---- how bounds aren't written

module _ (lower upper : Bound Encoding) where
  asks : Fails Memory (bounds_image lower upper)
  unfolding bounds_image
  asks = inr (inr (refl, refl))

  lower_unwritten : (why : CodecError) → Fails why (bound_frame lower) → Fails why (bounds_image lower upper)
  unfolding bounds_image
  lower_unwritten why (inl h) = inl (rw h refl)
  lower_unwritten why (inr (inl h)) = inr (inl (rw h.0 refl, h.1))
  lower_unwritten why (inr (inr h)) = rw h.0 asks

  upper_unwritten : (below : List Token) (why : CodecError) → (bound_frame lower).answer ≡ Ok below → Fails why (bound_frame upper) → Fails why (bounds_image lower upper)
  unfolding bounds_image
  upper_unwritten below why there (inl h) = inl (rw (there, h) refl)
  upper_unwritten below why there (inr (inl h)) = inr (inl (rw (there, h.0) refl, h.1))
  upper_unwritten below why there (inr (inr h)) = rw h.0 asks

pub returns-in_err-push-clause-encodes : goal.returns-in_err-push-clause-encodes
returns-in_err-push-clause-encodes g c =
    let p = err_from_is_err_and c.from_residual.result c.from_residual.ensures.1 in
    rw (p.1, p.2, c.in_err-push.ensures.err.0) (asks (bound_map g.T.Encode.encoding c.args.start.now) (bound_map g.T.Encode.encoding c.args.end.now))

pub returns-in_err-encode_bound-clause-encodes : goal.returns-in_err-encode_bound-clause-encodes
returns-in_err-encode_bound-clause-encodes g c =
    let lower = bound_map g.T.Encode.encoding c.args.start.now in
    let upper = bound_map g.T.Encode.encoding c.args.end.now in
    let p = err_from_is_err_and c.from_residual-in_err-encode_bound.result c.from_residual-in_err-encode_bound.ensures.1 in
    rw (p.1, p.2) (lower_unwritten lower upper c.in_err-encode_bound.field-0.0 c.in_err-encode_bound.ensures.exact)

pub returns-in_err-encode_bound-2-clause-encodes : goal.returns-in_err-encode_bound-2-clause-encodes
returns-in_err-encode_bound-2-clause-encodes g c =
    let lower = bound_map g.T.Encode.encoding c.args.start.now in
    let upper = bound_map g.T.Encode.encoding c.args.end.now in
    let below = c.in_ok-encode_bound.ensures.exact in
    let p = err_from_is_err_and c.from_residual-in_err-encode_bound-2.result c.from_residual-in_err-encode_bound-2.ensures.1 in
    rw (p.1, p.2) (upper_unwritten lower upper below.0 c.in_err-encode_bound-2.field-0.0 below.1 c.in_err-encode_bound-2.ensures.exact)

pub returns-in_err-push-clause-appended : goal.returns-in_err-push-clause-appended
returns-in_err-push-clause-appended g c = on_err c.from_residual.result (rw c.in_err-push.ensures.err.1 (extends_itself c.args.out.now))

pub returns-in_err-encode_bound-clause-appended : goal.returns-in_err-encode_bound-clause-appended
returns-in_err-encode_bound-clause-appended g c =
    let flags = blank (byte c.bits.result ∷ []) in
    on_err c.from_residual-in_err-encode_bound.result (extends_further c.args.out.now c.push.new.self c.encode_bound.new.out (flags, c.in_ok-push.ensures.ok) c.in_err-encode_bound.ensures.appended)

pub returns-in_err-encode_bound-2-clause-appended : goal.returns-in_err-encode_bound-2-clause-appended
returns-in_err-encode_bound-2-clause-appended g c =
    let flags = blank (byte c.bits.result ∷ []) in
    let below = c.in_ok-encode_bound.ensures.exact in
    let lower = extends_further c.args.out.now c.push.new.self c.encode_bound.new.out (flags, c.in_ok-push.ensures.ok) (blank below.0, below.2) in
    on_err c.from_residual-in_err-encode_bound-2.result (extends_further c.args.out.now c.encode_bound.new.out c.encode_bound-2.new.out lower c.in_err-encode_bound-2.ensures.appended)

-- ---- how they are

-- the flag byte, and after it the frames of both bounds
pub returns-clause-encodes : goal.returns-clause-encodes
unfolding bounds_image
returns-clause-encodes g c =
    let was = c.args.out.now in
    let lower = bound_map g.T.Encode.encoding c.args.start.now in
    let upper = bound_map g.T.Encode.encoding c.args.end.now in
    let below = c.in_ok-encode_bound.ensures.exact in
    let above = c.in_ok-encode_bound-2.ensures.exact in
    let frames = both c.push.new.self c.encode_bound.new.out c.encode_bound-2.new.out below.0 above.0 below.2 above.2 in
    let flag : c.bits.result ≡ flags_of lower upper = c.bits.ensures tt ∙ (c.of.ensures ∙ sym (flags_same g.T.Encode.encoding c.args.start.now c.args.end.now)) in
    let flags : c.push.new.self ≡ was ++ blank (byte (flags_of lower upper) ∷ []) = c.in_ok-push.ensures.ok ∙ ap (λ (n : ℕ). was ++ blank (byte n ∷ [])) flag in
    (byte (flags_of lower upper) ∷ (below.0 ++ above.0), rw (below.1, above.1) refl, both was c.push.new.self c.encode_bound-2.new.out (byte (flags_of lower upper) ∷ []) (below.0 ++ above.0) flags frames)
