use Rattle.std.proofs.Common.{◌≡◌, ◌<◌, ◌-◌, suc, List, [], ◌∷◌, Ok, drop, ap, ◌∙◌, arith, add-one, inl}
use Rattle.std.proofs.lemmas.List.{map-append}
use Rattle.std.proofs.lemmas.Result.{err_from_is_err_and}
use Rattle.pgv_value.specs.FrameBinary.{Part}
use Rattle.pgv_value.specs.Fronts.{one_part}
use Rattle.pgv_value.specs.Outcome.{stated}
use Rattle.pgv_row.specs.Places.{part_at, parts_at}
use Rattle.pgv_value.specs.Several.{several}
use Rattle.pgv_row.proofs.Places.{one_within}
use Rattle.pgv_value.proofs.Several.{with_front, is_done, goes_on, ends}
use Rattle.pgv_row.proofs.place.note_places.Goals as goal

pub loop-preserved : goal.loop-preserved
loop-preserved c =
    let body = c.args.bytes.now in
    let places = c.loop.places.items in
    let place = c.in_ok-place.place in
    let lt : c.loop.counter < c.args.width = c.loop-test.true in
    let found : (one_part (drop c.loop.next body)).answer ≡ Ok (part_at body place, drop c.in_ok-place.end body) = ap stated c.in_ok-place.ensures.part in
    rw (c.in_ok-push.ensures.items, add-one) (record {
      read =
          ap (λ (ps : List Part). with_front ps (several one_part (c.args.width - suc c.loop.counter) (drop c.in_ok-place.end body)).answer) (map-append (part_at body) places (place ∷ []))
          ∙ goes_on one_part (parts_at body places) c.args.width c.loop.counter (drop c.loop.next body) (part_at body place) (drop c.in_ok-place.end body) _ lt found c.loop.invariant.read;
      within = one_within body places place c.loop.invariant.within c.in_ok-place.ensures.within;
      many = omega (arith, c.in_ok-push.ensures.len, c.loop.invariant.many);
      room = omega (arith, c.in_ok-push.ensures.capacity, c.loop.invariant.room);
      kept = omega (arith, c.in_ok-push.ensures.capacity, c.loop.invariant.kept);
      next = c.in_ok-place.ensures.next;
    })

pub returns-in_err-place-clause-noted : goal.returns-in_err-place-clause-noted
returns-in_err-place-clause-noted c =
    let p = err_from_is_err_and c.from_residual.result c.from_residual.ensures.1 in
    let lt : c.loop.counter < c.args.width = c.loop-test.true in
    rw (p.1, p.2) (record {
      parts = inl (ends one_part (parts_at c.args.bytes.now c.loop.places.items) c.args.width c.loop.counter (drop c.loop.next c.args.bytes.now) _ _ lt (ap stated c.in_err-place.ensures.part) c.loop.invariant.read);
      next = tt;
    })

pub returns-clause-noted : goal.returns-clause-noted
returns-clause-noted c = record {
  parts = is_done one_part (parts_at c.args.bytes.now c.loop.places.items) c.args.width c.loop.counter (drop c.loop.next c.args.bytes.now) _ c.loop-test.false c.loop.invariant.read;
  next = c.loop.invariant.next;
}
