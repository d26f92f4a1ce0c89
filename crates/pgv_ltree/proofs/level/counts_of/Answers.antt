use Rattle.std.proofs.Common.{◌≡◌, ◌∙◌, ap, refl, lit<, None, Some}
use Rattle.std.proofs.lemmas.Str.Pattern.{split_parts}
use Rattle.std.proofs.lemmas.Result.{err_from_is_err_and}
use Rattle.pgv_ltree.proofs.LevelTexts.{cut_at, cut_none}
use Rattle.pgv_ltree.specs.QueryRead.{cut}
use Rattle.pgv_ltree.proofs.level.counts_of.Goals as goal

pub returns-in_err-count-in-None : goal.returns-in_err-count-in-None
returns-in_err-count-in-None c =
    let none = cut_none 44 c.args.inner.now (split_parts 44 c.args.inner.now None c.in-None.ensures.cases (lit< tt)) in
    let p = err_from_is_err_and c.from_residual.result c.from_residual.ensures.1 in
    rw (p.1, p.2, none, ← c.in_err-count-in-None.ensures) refl

pub returns-in-Some : goal.returns-in-Some
returns-in-Some c =
    let parts = split_parts 44 c.args.inner.now (Some (c.in-Some.least, c.in-Some.most)) c.in-Some.ensures.cases (lit< tt) in
    let found : cut 44 c.args.inner.now ≡ Some (c.in-Some.least.now, c.in-Some.most.now) = ap (cut 44) parts.0 ∙ cut_at 44 c.in-Some.least.now c.in-Some.most.now parts.1 in
    rw found c.between.ensures

pub returns-in_ok-count-in-None : goal.returns-in_ok-count-in-None
returns-in_ok-count-in-None c =
    let none = cut_none 44 c.args.inner.now (split_parts 44 c.args.inner.now None c.in-None.ensures.cases (lit< tt)) in
    rw (none, ← c.in_ok-count-in-None.ensures) refl
