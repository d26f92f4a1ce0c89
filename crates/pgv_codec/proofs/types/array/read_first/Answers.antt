use Rattle.std.proofs.Common.{◌≡◌, ◌∙◌, ℕ, ◌+◌, ◌*◌, map, length, ap, refl, zero-mul, arith}
use Rattle.pgv_codec.proofs.FrameLoop.{first_ends, first_none, first_step, frame_within, frames_within, room_for}
use Rattle.pgv_codec.proofs.types.array.read_first.Goals as goal

pub loop-place-init : goal.loop-place-init
loop-place-init g c =
    let none = c.in_ok-items.ensures.items in
    let start : 0 * (4 + c.width_at_once-width.result) ≡ 0 = zero-mul (4 + c.width_at_once-width.result) in
    (c.in_ok-items.ensures.len, ap length none, refl, rw (none, start) (first_none g.T.Decode.parse c.args.count c.args.bytes.now))

pub push_reserved-requires : goal.push_reserved-requires
push_reserved-requires g c =
    let was = c.loop-place.invariant in
    rw (was.0, was.2) (room_for c.loop-place.place c.args.count (length c.args.bytes.now) c.width_at_once-width.result _ (rw (← c.min-whole.ensures) c.loop-place-test.true) (rw (← c.min.ensures) c.in_ok-items.ensures.capacity))

pub returns-in-None : goal.returns-in-None
returns-in-None g c =
    let was = c.loop-place.invariant in
    (rw c.split_at.ensures.back was.3, omega (arith, was.1, c.loop-place-test.true, c.min-whole.ensures))

pub loop-place-preserved : goal.loop-place-preserved
loop-place-preserved g c =
    let was = c.loop-place.invariant in
    let pushed = c.push_reserved.ensures in
    let step = first_step g.T.Decode.parse c.args.count c.args.bytes.now g.T.Decode.view c.loop-place.items.items c.in-Some.item c.push_reserved.new.self.items c.loop-place.place c.width_at_once-width.result c.split_at.result.1.now
    pushed.items was.1 (omega (arith, c.loop-place-test.true, c.min-whole.ensures)) c.split_at.ensures.back was.3 c.in-Some.ensures in
    (pushed.len ∙ ap (λ (n : ℕ). n + 1) was.0, step.0, pushed.capacity ∙ was.2, step.1)

pub returns : goal.returns
returns g c = (
  first_ends g.T.Decode.parse c.args.count c.args.bytes.now (map g.T.Decode.view c.loop-place.items.items) c.loop-place.place c.min-whole.result c.width_at_once-width.result c.split_at-2.result.1.now
      c.loop-place.auto.place-end c.loop-place-test.false c.split_at-2.ensures.back c.loop-place.invariant.3,
  omega (arith, c.loop-place.invariant.1, c.loop-place.auto.place-end, c.loop-place-test.false, c.min-whole.ensures),
)

pub overflow_mul-place : goal.overflow_mul-place
overflow_mul-place g c =
    let h = frame_within c.loop-place.place c.args.count (length c.args.bytes.now) c.width_at_once-width.result (rw (← c.min-whole.ensures) c.loop-place-test.true) in
    omega (arith, h)

pub split_at-requires : goal.split_at-requires
split_at-requires g c =
    let h = frame_within c.loop-place.place c.args.count (length c.args.bytes.now) c.width_at_once-width.result (rw (← c.min-whole.ensures) c.loop-place-test.true) in
    omega (arith, h)

pub in_front-requires-clause-there : goal.in_front-requires-clause-there
in_front-requires-clause-there g c =
    let h = frame_within c.loop-place.place c.args.count (length c.args.bytes.now) c.width_at_once-width.result (rw (← c.min-whole.ensures) c.loop-place-test.true) in
    omega (arith, h, c.split_at.ensures.back_len)

pub overflow_mul-whole : goal.overflow_mul-whole
overflow_mul-whole g c =
    let h = frames_within c.args.count (length c.args.bytes.now) c.width_at_once-width.result in
    omega (arith, h, c.min-whole.ensures, rw (← c.min-whole.ensures) at h)

pub split_at-requires-2 : goal.split_at-requires-2
split_at-requires-2 g c = rw c.min-whole.ensures (frames_within c.args.count (length c.args.bytes.now) c.width_at_once-width.result)
