use Rattle.std.proofs.Common.{◌≡◌, ◌∙◌, [], ap, sym}
use Rattle.std.proofs.lemmas.Result.{MatchResult-from_err}
use Rattle.pgv_text.proofs.NextParts.{part_of_run, run_in_front, unquoted_in_front}
use Rattle.pgv_text.proofs.parts.part_in_front.Goals.{then-is_nothing, else-is_nothing}
use Rattle.pgv_text.proofs.parts.part_in_front.Goals as goal

pub returns-in-Some : goal.returns-in-Some
returns-in-Some c =
    let form = c.args.form in
    let text = c.args.text.now in
    let stop = c.in-Some.stop in
    let part : c.if-is_nothing.part ≡ part_of_run form text [] stop c.is_nothing.result =
    elim c.if-is_nothing.branch [
      | then-is_nothing w ↦ w.part-is ∙ ap (part_of_run form text [] stop) (sym w.if-is_nothing.true)
      | else-is_nothing w ↦ w.part-is ∙ ap (part_of_run form text [] stop) (sym w.if-is_nothing.false)
    ] in
    run_in_front form text _ stop c.is_nothing.result c.if-is_nothing.part c.in-Some.ensures.1 c.is_nothing.ensures part

pub returns-in_err-stop : goal.returns-in_err-stop
returns-in_err-stop c = MatchResult-from_err c.from_residual.result _ _ c.from_residual.ensures.0 (λ e. c.in_default.ensures)

pub returns-in-Some-2 : goal.returns-in-Some-2
returns-in-Some-2 c = unquoted_in_front c.args.form c.args.text.now _ c.in-Some-2.stop (rw c.in-Some-2.is at c.in_ok-stop.ensures) c.in_default.ensures

pub returns-in-None : goal.returns-in-None
returns-in-None c = rw c.in-None.is at c.in_ok-stop.ensures
