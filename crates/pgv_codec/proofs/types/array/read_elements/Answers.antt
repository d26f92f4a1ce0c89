use Rattle.std.proofs.Common.{◌≡◌, map, ◌∙◌, ap, is_some, refl, rules, Ok, ◌++◌, ◌∷◌, []}
use Rattle.std.specs.Option.{option_copied}
use Rattle.std.proofs.lemmas.List.{map_push}
use Rattle.std.proofs.lemmas.Result.{err_from_is_err_and}
use Rattle.pgv_text.specs.ElementsView.{ahead}
use Rattle.pgv_text.specs.Values.{array_values}
use Rattle.pgv_value.specs.FrameBinary.{Part}
use Rattle.pgv_value.specs.ValueView.{given}
use Rattle.pgv_value.specs.Outcome.{Fails}
use Rattle.pgv_value.specs.declared.value.PgValueFormat.TheVariants.{Text}
use Rattle.pgv_codec.specs.ArrayGrammar.{array_in_text}
use Rattle.pgv_codec.proofs.PartLoop.{alloc_in_text, begins, found_first, part_read, part_unread, parts_done, some_values, still_some}
use Rattle.pgv_codec.proofs.types.array.read_elements.Goals as goal

pub loop-unquoted-init : goal.loop-unquoted-init
loop-unquoted-init g c =
    let none : map g.T.Decode.view c.in_ok-items.items.items ≡ [] = rw c.in_ok-items.ensures.items refl in
    let all : ahead c.in-Some.elements ≡ array_values c.args.text.now = search rules in
    (rw none (begins g.T.Decode.parse g.T.Type.info (ahead c.in-Some.elements) c.args.text.now all), ap is_some all)

pub returns-in_err-read_part-in-Element : goal.returns-in_err-read_part-in-Element
returns-in_err-read_part-in-Element g c =
    let parse = g.T.Decode.parse in
    let t = g.T.Type.info in
    let part : Part = option_copied c.in_text.result in
    let here = ahead c.loop-unquoted.elements in
    let rest = ahead c.next_borrowed.new.self in
    let error = c.in_err-read_part-in-Element.field-0.0 in
    let next = rw c.in-Element.is at c.in_ok-part.ensures in
    let split = found_first here rest c.in-Element.part _ _ part next.0 c.as_str.ensures.value c.in_text.ensures in
    let unread : Fails error (parse (given t Text part)) = rw (← c.type_info.ensures) c.in_err-read_part-in-Element.ensures in
    let p = err_from_is_err_and c.from_residual-in_err-read_part-in-Element.result c.from_residual-in_err-read_part-in-Element.ensures.1 in
    rw (p.1, p.2) λ some.
    part_unread parse t (map g.T.Decode.view c.loop-unquoted.items.items) here rest part error (array_in_text parse t c.args.text.now) split
    (c.loop-unquoted.invariant.1 ∙ some_values (array_values c.args.text.now) some) unread c.loop-unquoted.invariant.0 (alloc_in_text parse t c.args.text.now some)

pub returns-in-End : goal.returns-in-End
returns-in-End g c =
    let end = rw c.in-End.is at c.in_ok-part.ensures in
    parts_done g.T.Decode.parse g.T.Type.info (map g.T.Decode.view c.loop-unquoted.items.items) (ahead c.loop-unquoted.elements) _ end.0 c.loop-unquoted.invariant.0

pub loop-unquoted-preserved : goal.loop-unquoted-preserved
loop-unquoted-preserved g c =
    let parse = g.T.Decode.parse in
    let t = g.T.Type.info in
    let part : Part = option_copied c.in_text.result in
    let here = ahead c.loop-unquoted.elements in
    let rest = ahead c.next_borrowed.new.self in
    let m = g.T.Decode.view c.in_ok-read_part-in-Element.field-0 in
    let next = rw c.in-Element.is at c.in_ok-part.ensures in
    let split = found_first here rest c.in-Element.part _ _ part next.0 c.as_str.ensures.value c.in_text.ensures in
    let e : (parse (given t Text part)).answer ≡ Ok m = rw (← c.type_info.ensures) c.in_ok-read_part-in-Element.ensures in
    let it : map g.T.Decode.view c.push.new.self.items ≡ map g.T.Decode.view c.loop-unquoted.items.items ++ m ∷ [] = rw c.in_ok-push-in-Element.ensures.items (map_push _ c.loop-unquoted.items.items c.in_ok-read_part-in-Element.field-0) in (
      rw it (part_read parse t (map g.T.Decode.view c.loop-unquoted.items.items) here rest part m (array_in_text parse t c.args.text.now).answer split e c.loop-unquoted.invariant.0),
      still_some here rest part split ∙ c.loop-unquoted.invariant.1,
    )
