use Rattle.std.proofs.Common.{◌∙◌, List, ℕ, ap, inr, map, length, lit<, Bor, refl}
use Rattle.std.proofs.lemmas.Result.{err_from_is_err_and}
use Rattle.std.proofs.lemmas.Iterator.Consumers.{YieldsList-turn, YieldsList-so_far, YieldsList-end}
use Rattle.std.proofs.lemmas.Iterator.Splits.{YieldsList-from_str_split}
use Rattle.std.proofs.lemmas.List.{map_push}
use Rattle.pgv_value.specs.declared.tree_error.PgLTreeParseError.TheVariants.{Memory}
use Rattle.pgv_ltree.specs.TextsInTurn.{read_each}
use Rattle.pgv_ltree.specs.Labels.{is_label, label_read}
use Rattle.pgv_ltree.specs.Trees.{parts}
use Rattle.pgv_ltree.proofs.EachRead.{each-push, each_gives, first_passed, read_is_label}
use Rattle.pgv_ltree.proofs.ltree.PgLTree.from_str.Goals as goal

pub returns-in_err-from_str : goal.returns-in_err-from_str
returns-in_err-from_str c =
    let chain = YieldsList-from_str_split 46 c.args.text.now (lit< tt) (cc) (cc) (cc) in
    let t = YieldsList-turn chain c.loop-label.yielded _ c.loop-label.yielded_by _ _ c.in-Some.label c.in-Some.is c.next.ensures.steps in
    let so_far = YieldsList-so_far chain c.loop-label.yielded _ c.loop-label.yielded_by in
    let p = err_from_is_err_and c.from_residual.result c.from_residual.ensures.1 in
    rw (p.1, p.2)
    (each_gives label_read is_label read_is_label Memory (parts c.args.text.now) _ c.loop-label.labels.items (length c.loop-label.yielded) c.in-Some.label.now c.in_err-from_str.field-0.0 so_far t.0 t.1 c.loop-label.invariant.2 c.in_err-from_str.ensures)

-- a label was there before memory for the list was asked for
pub returns-in_err-push : goal.returns-in_err-push
returns-in_err-push c =
    let chain = YieldsList-from_str_split 46 c.args.text.now (lit< tt) (cc) (cc) (cc) in
    let t = YieldsList-turn chain c.loop-label.yielded _ c.loop-label.yielded_by _ _ c.in-Some.label c.in-Some.is c.next.ensures.steps in
    let so_far = YieldsList-so_far chain c.loop-label.yielded _ c.loop-label.yielded_by in
    let passed = read_is_label c.in-Some.label.now c.in_ok-from_str.field-0 c.in_ok-from_str.ensures in
    let p = err_from_is_err_and c.from_residual-in_err-push.result c.from_residual-in_err-push.ensures.1 in
    rw (p.1, p.2) (inr (refl, first_passed label_read is_label read_is_label (parts c.args.text.now) _ c.loop-label.labels.items (length c.loop-label.yielded) c.in-Some.label.now so_far t.0 t.1 c.loop-label.invariant.2 passed))

pub loop-label-preserved : goal.loop-label-preserved
loop-label-preserved c =
    let more = each-push label_read (map (λ (x : Bor (List ℕ)). x.now) c.loop-label.yielded) c.loop-label.labels.items c.in-Some.label.now c.in_ok-from_str.field-0 c.loop-label.invariant.2 c.in_ok-from_str.ensures in
    (tt, tt, ap (read_each label_read) (map_push (λ (x : Bor (List ℕ)). x.now) c.loop-label.yielded c.in-Some.label) ∙ more ∙ rw c.in_ok-push.ensures.items refl)

pub returns : goal.returns
returns c =
    let chain = YieldsList-from_str_split 46 c.args.text.now (lit< tt) (cc) (cc) (cc) in
    let all = YieldsList-end chain c.loop-label.yielded _ c.loop-label.yielded_by _ _ c.in-None.is c.next.ensures.steps in
    rw (← all.0) c.loop-label.invariant.2
