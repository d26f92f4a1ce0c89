use Rattle.std.proofs.Common.{◌≡◌, ◌∙◌, ap, get_or, is_some, rules}
use Rattle.pgv_scalar_text.proofs.Offsets.{ignored_nothing, ignored_plus}
use Rattle.pgv_scalar_text.proofs.offset.is_ignored.Goals as goal

pub returns-in-empty : goal.returns-in-empty
returns-in-empty c = ignored_nothing c.args.text.now c.in-empty.len_below

pub returns-in-43 : goal.returns-in-43
returns-in-43 c =
    let sign : get_or c.args.text.now 0 0 ≡ 43 = search rules in
    c.is_some.ensures ∙ (ap is_some c.hours_of.ensures.value ∙ ignored_plus c.args.text.now c.in-43.len_at_least sign)
