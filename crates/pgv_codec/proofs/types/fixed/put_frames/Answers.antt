use Rattle.std.proofs.Common.{◌≡◌, ℕ, ◌+◌, ◌-◌, ◌*◌, ◌<◌, ◌≤◌, ◌∙◌, List, Ok, length, drop, ap, sym, add-one, arith}
use Rattle.std.proofs.Math.Nat.{mul-le-mul_right, suc-mul, zero-mul}
use Rattle.std.proofs.lemmas.List.{length-drop, length-take}
use Rattle.pgv_buf.specs.Tokens.{bytes}
use Rattle.pgv_codec.specs.Encoding.{frame}
use Rattle.pgv_codec.proofs.Lists.{Answer, next_frame, no_frames}
use Rattle.pgv_codec.proofs.types.fixed.put_frames.Goals as goal

pub loop-place-init : goal.loop-place-init
loop-place-init g c = rw (zero-mul g.row.F) (no_frames g.T.Fixed.encoding)

pub loop-place-preserved : goal.loop-place-preserved
loop-place-preserved g c =
    let encoding = g.T.Fixed.encoding in
    let wide = g.row.F in
    let i = c.loop-place.place in
    let so_far = i * wide in
    let values = c.args.values.now in
    let was = c.loop-place.frames in
    let x = c.index-values-place.result in
    let put = c.copy_from_slice.new.self in
    let lt : i < length values = omega (arith, c.loop-place-test.true) in
    let next : (i + 1) * wide ≡ so_far + wide = ap (λ (k : ℕ). k * wide) (add-one i) ∙ suc-mul i wide in
    let room : so_far + wide ≤ length was = omega (arith, mul-le-mul_right wide lt, next, c.loop-place.auto.frames, c.requires.room) in
    let cut : so_far + wide - so_far ≡ wide = omega arith in
    let frame_is : (frame (encoding x)).answer ≡ Ok (bytes put) = c.image.ensures ∙ ap (λ (xs : List ℕ). let r : Answer = Ok (bytes xs) in r) (sym (c.copy_from_slice.ensures.after ∙ c.put_frame.ensures)) in
    let long : length put ≡ wide = omega (arith, c.copy_from_slice.ensures.len, length-take (so_far + wide - so_far) (drop so_far was), length-drop so_far was, room, cut) in
    rw (next, cut) (next_frame encoding wide so_far values i x put was lt c.index-values-place.is frame_is long room c.loop-place.invariant)
