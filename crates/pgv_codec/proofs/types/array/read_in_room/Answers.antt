use Rattle.pgv_value.specs.ValueView.{given}
use Rattle.std.proofs.Common.{◌≡◌, ◌+◌, Some, drop, map, Ok, Err, ◌++◌, ◌∷◌, [], true, refl, subst, inl}
use Rattle.std.proofs.lemmas.List.{map_push, length-map}
use Rattle.std.proofs.lemmas.Result.{err_from_is_err_and}
use Rattle.pgv_types.specs.Ty.{Ty}
use Rattle.pgv_value.specs.Fronts.{value_front}
use Rattle.pgv_value.specs.Outcome.{after}
use Rattle.pgv_value.specs.declared.value.PgValueFormat.TheVariants.{Binary}
use Rattle.pgv_codec.specs.ArrayGrammar.{parse_frames}
use Rattle.pgv_codec.proofs.ArrayGrammars.{few_frames}
use Rattle.pgv_codec.proofs.FrameLoop.{is_done, goes_on, ends_short, ends_unread}
use Rattle.pgv_codec.proofs.types.array.read_in_room.Goals as goal
use Rattle.pgv_codec.proofs.types.array.read_in_room.Goals.{in-Some+in_ok-push-in-Some, in-None+in_ok-clone-in-None+in_ok-part-in-None+in_ok-decode-in-None+in_ok-push-in-None}

pub returns-in_err-part-in-None-clause-exact : goal.returns-in_err-part-in-None-clause-exact
returns-in_err-part-in-None-clause-exact g c =
    let parse = g.T.Decode.parse in
    let t = c.args.element.now in
    let short : value_front t Binary c.loop.rest.now ≡ Err c.in_err-part-in-None.field-0.0 =
    subst (λ (u : Ty). value_front u Binary c.loop.rest.now ≡ Err c.in_err-part-in-None.field-0.0) c.in_ok-clone-in-None.ensures.cases c.in_err-part-in-None.ensures.exact in
    let p = err_from_is_err_and c.from_residual-in_err-part-in-None.result c.from_residual-in_err-part-in-None.ensures.1 in
    rw (p.1, p.2) (inl (ends_short parse t (map g.T.Decode.view c.loop.items.items) c.args.count c.loop.counter c.loop.rest.now c.in_err-part-in-None.field-0.0 _ c.loop-test.true short c.loop.invariant))

pub returns-in_err-decode-in-None-clause-exact : goal.returns-in_err-decode-in-None-clause-exact
returns-in_err-decode-in-None-clause-exact g c =
    let parse = g.T.Decode.parse in
    let t = c.args.element.now in
    let found : value_front t Binary c.loop.rest.now ≡ Ok (c.in_ok-part-in-None.part, c.get.new.bytes.now) =
    subst (λ (u : Ty). value_front u Binary c.loop.rest.now ≡ Ok (c.in_ok-part-in-None.part, c.get.new.bytes.now)) c.in_ok-clone-in-None.ensures.cases c.in_ok-part-in-None.ensures.exact in
    let p = err_from_is_err_and c.from_residual-in_err-decode-in-None.result c.from_residual-in_err-decode-in-None.ensures.1 in
    rw (p.1, p.2)
    (ends_unread parse t (map g.T.Decode.view c.loop.items.items) c.args.count c.loop.counter c.loop.rest.now c.in_ok-part-in-None.part c.get.new.bytes.now c.in_err-decode-in-None.field-0.0
    (after true (parse_frames parse t c.args.count c.args.bytes.now)) c.loop-test.true found c.in_err-decode-in-None.ensures c.loop.invariant refl)

pub loop-preserved : goal.loop-preserved
loop-preserved g c =
    let parse = g.T.Decode.parse in
    let view = g.T.Decode.view in
    let t = c.args.element.now in
    let ms = map view c.loop.items.items in
    elim c.match-next_at_once.branch [
      | in-Some+in_ok-push-in-Some w ↦
          let is = w.in-Some.ensures.0 in
          let it : map view w.push.new.self.items ≡ ms ++ view w.in-Some.item ∷ [] = rw w.in_ok-push-in-Some.ensures.items (map_push _ c.loop.items.items w.in-Some.item) in
          rw (w.items-is, w.rest-is, it, w.in-Some.ensures.1)
          (goes_on parse t ms c.args.count c.loop.counter c.loop.rest.now (given t Binary (Some is.0)) (drop (4 + c.width_at_once.result) c.loop.rest.now) (view w.in-Some.item) _ c.loop-test.true (is.1 t) (is.2 t) c.loop.invariant)
      | in-None+in_ok-clone-in-None+in_ok-part-in-None+in_ok-decode-in-None+in_ok-push-in-None w ↦
          let m = view w.in_ok-decode-in-None.field-0 in
          let found : value_front t Binary c.loop.rest.now ≡ Ok (w.in_ok-part-in-None.part, w.get.new.bytes.now) =
          subst (λ (u : Ty). value_front u Binary c.loop.rest.now ≡ Ok (w.in_ok-part-in-None.part, w.get.new.bytes.now)) w.in_ok-clone-in-None.ensures.cases w.in_ok-part-in-None.ensures.exact in
          let it : map view w.push-in-None.new.self.items ≡ ms ++ m ∷ [] = rw w.in_ok-push-in-None.ensures.items (map_push _ c.loop.items.items w.in_ok-decode-in-None.field-0) in
          rw (w.items-is, w.rest-is, it) (goes_on parse t ms c.args.count c.loop.counter c.loop.rest.now w.in_ok-part-in-None.part w.get.new.bytes.now m _ c.loop-test.true found w.in_ok-decode-in-None.ensures c.loop.invariant)
    ]

pub returns-clause-exact : goal.returns-clause-exact
returns-clause-exact g c =
    is_done g.T.Decode.parse c.args.element.now (map g.T.Decode.view c.loop.items.items) c.args.count c.loop.counter c.loop.rest.now _ c.loop-test.false c.loop.invariant

pub returns-clause-few : goal.returns-clause-few
returns-clause-few g c =
    let all = is_done g.T.Decode.parse c.args.element.now (map g.T.Decode.view c.loop.items.items) c.args.count c.loop.counter c.loop.rest.now _ c.loop-test.false c.loop.invariant in
    let few = few_frames g.T.Decode.parse c.args.element.now c.args.count c.args.bytes.now (map g.T.Decode.view c.loop.items.items) all in
    rw length-map at few
