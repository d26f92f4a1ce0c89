use Rattle.std.proofs.Common.{◌≡◌, ◌-◌, ◌++◌, [], refl, sym, ◌∙◌, ap, arith, inl, append-nil, append_assoc}
use Rattle.pgv_buf.specs.Tokens.{bytes, be4, blank, fixed_bytes, tokens_width}
use Rattle.pgv_buf.specs.Marks.{mark_of}
use Rattle.pgv_codec.proofs.OneFrame.{null_frame, image_frame, long_frame, encoded_null, encoded_image, grown}
use Rattle.pgv_codec.proofs.buffer.PgArgumentBuffer.encode_in_steps.Goals as goal

pub put_u32-requires : goal.put_u32-requires
put_u32-requires g c =
    let e = g.T.Encode.encoding c.args.value.now in
    let h = encoded_null e.image c.push_u32.new.self c.encode_by_ref.new.out c.in-Yes.is c.in_ok-encode_by_ref.ensures.encodes in
    (c.args.self.now, be4 0, [], c.self-2.view_is ∙ (h.1 ∙ (c.in_ok-push_u32.ensures.ok ∙ sym (append-nil (c.args.self.now ++ fixed_bytes (be4 0))))), refl, c.mark-mark.ensures ∙ ap mark_of c.self.view_is)

pub overflow_sub-size : goal.overflow_sub-size
overflow_sub-size g c =
    let e = g.T.Encode.encoding c.args.value.now in
    let h = encoded_image e.image c.push_u32.new.self c.encode_by_ref.new.out c.in-No.is c.in_ok-encode_by_ref.ensures.encodes in
    omega (arith, c.len.ensures, c.len-start.ensures, grown c.push_u32.new.self c.encode_by_ref.new.out h.0 h.2)

pub returns-then-size-clause-exact : goal.returns-then-size-clause-exact
returns-then-size-clause-exact g c =
    let e = g.T.Encode.encoding c.args.value.now in
    let h = encoded_image e.image c.push_u32.new.self c.encode_by_ref.new.out c.in-No.is c.in_ok-encode_by_ref.ensures.encodes in
    let s : tokens_width h.0 ≡ c.len.result - c.len-start.result = omega (arith, c.len.ensures, c.len-start.ensures, grown c.push_u32.new.self c.encode_by_ref.new.out h.0 h.2) in
    rw (← s) (inl (long_frame e h.0 c.requires h.1 (omega (arith, s, c.if-size.true))))

pub put_u32-requires-in-No : goal.put_u32-requires-in-No
put_u32-requires-in-No g c =
    let e = g.T.Encode.encoding c.args.value.now in
    let h = encoded_image e.image c.push_u32.new.self c.encode_by_ref.new.out c.in-No.is c.in_ok-encode_by_ref.ensures.encodes in
    (c.args.self.now, be4 0, blank h.0, c.self-2.view_is ∙ (h.2 ∙ ap (λ r. r ++ blank h.0) c.in_ok-push_u32.ensures.ok), refl, c.mark-mark.ensures ∙ ap mark_of c.self.view_is)

pub returns-in-Yes-clause-exact : goal.returns-in-Yes-clause-exact
returns-in-Yes-clause-exact g c =
    let e = g.T.Encode.encoding c.args.value.now in
    let h = encoded_null e.image c.push_u32.new.self c.encode_by_ref.new.out c.in-Yes.is c.in_ok-encode_by_ref.ensures.encodes in (
      bytes (be4 4294967295),
      null_frame e c.requires h.0,
      c.put_u32.ensures c.args.self.now (be4 0) [] (c.self-2.view_is ∙ (h.1 ∙ (c.in_ok-push_u32.ensures.ok ∙ sym (append-nil (c.args.self.now ++ fixed_bytes (be4 0)))))) refl (c.mark-mark.ensures ∙ ap mark_of c.self.view_is)
          ∙ append-nil (c.args.self.now ++ fixed_bytes (be4 4294967295)),
    )

pub returns-else-size-clause-exact : goal.returns-else-size-clause-exact
returns-else-size-clause-exact g c =
    let e = g.T.Encode.encoding c.args.value.now in
    let h = encoded_image e.image c.push_u32.new.self c.encode_by_ref.new.out c.in-No.is c.in_ok-encode_by_ref.ensures.encodes in
    let s : c.len.result - c.len-start.result ≡ tokens_width h.0 = omega (arith, c.len.ensures, c.len-start.ensures, grown c.push_u32.new.self c.encode_by_ref.new.out h.0 h.2) in
    let put = c.put_u32-in-No.ensures c.args.self.now (be4 0) (blank h.0) (c.self-2.view_is ∙ (h.2 ∙ ap (λ r. r ++ blank h.0) c.in_ok-push_u32.ensures.ok)) refl (c.mark-mark.ensures ∙ ap mark_of c.self.view_is) in (
      bytes (be4 (tokens_width h.0)) ++ h.0,
      image_frame e h.0 c.requires h.1 (omega (arith, s, c.if-size.false)),
      put ∙ (ap (λ n. c.args.self.now ++ fixed_bytes (be4 n) ++ blank h.0) s ∙ append_assoc c.args.self.now (fixed_bytes (be4 (tokens_width h.0))) (blank h.0)),
    )
