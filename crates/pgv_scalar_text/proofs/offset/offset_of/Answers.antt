use Rattle.std.proofs.Common.{◌≡◌, ◌∙◌, get_or, option_map, ap, rules}
use Rattle.jiff_core.specs.declared.offset.Offset.{Offset}
use Rattle.pgv_scalar_text.proofs.Offsets.{east_fits, minus_made, minus_none, plus_made, plus_none, west_fits}
use Rattle.pgv_scalar_text.proofs.offset.offset_of.Goals as goal

pub overflow_cast-branch : goal.overflow_cast-branch
overflow_cast-branch c = east_fits c.in_ok-hours_of-in-43.field-0 c.in_ok-hours_of-in-43.ensures.below

pub overflow_cast-branch-in-45 : goal.overflow_cast-branch-in-45
overflow_cast-branch-in-45 c = east_fits c.in_ok-hours_of-in-45.field-0 c.in_ok-hours_of-in-45.ensures.below

pub overflow_sub-branch : goal.overflow_sub-branch
overflow_sub-branch c = west_fits c.in_ok-hours_of-in-45.field-0 c.in_ok-hours_of-in-45.ensures.below

pub returns-in_err-hours_of-in-43 : goal.returns-in_err-hours_of-in-43
returns-in_err-hours_of-in-43 c =
    let sign : get_or c.args.text.now 0 0 ≡ 43 = search rules in
    ap (option_map (λ (o : Offset). o.seconds)) c.from_residual.ensures ∙ plus_none c.args.text.now c.in-43.len_at_least sign c.in_err-hours_of-in-43.ensures.value

pub returns-in_err-hours_of-in-45 : goal.returns-in_err-hours_of-in-45
returns-in_err-hours_of-in-45 c =
    let sign : get_or c.args.text.now 0 0 ≡ 45 = search rules in
    ap (option_map (λ (o : Offset). o.seconds)) c.from_residual-in_err-hours_of-in-45.ensures ∙ minus_none c.args.text.now c.in-45.len_at_least sign c.in_err-hours_of-in-45.ensures.value

pub returns-in_ok-hours_of-in-43 : goal.returns-in_ok-hours_of-in-43
returns-in_ok-hours_of-in-43 c =
    let sign : get_or c.args.text.now 0 0 ≡ 43 = search rules in
    plus_made c.args.text.now c.in_ok-hours_of-in-43.field-0 c.from_seconds.result c.ok.result c.in-43.len_at_least sign c.in_ok-hours_of-in-43.ensures.value c.in_ok-hours_of-in-43.ensures.below
    c.from_seconds.ensures.succeeds.1 c.from_seconds.ensures.value c.ok.ensures.value

pub returns-in_ok-hours_of-in-45 : goal.returns-in_ok-hours_of-in-45
returns-in_ok-hours_of-in-45 c =
    let sign : get_or c.args.text.now 0 0 ≡ 45 = search rules in
    minus_made c.args.text.now c.in_ok-hours_of-in-45.field-0 c.from_seconds-in-45.result c.ok-in-45.result c.in-45.len_at_least sign c.in_ok-hours_of-in-45.ensures.value
    c.in_ok-hours_of-in-45.ensures.below c.from_seconds-in-45.ensures.succeeds.1 c.from_seconds-in-45.ensures.value c.ok-in-45.ensures.value
