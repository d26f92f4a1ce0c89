use Rattle.std.proofs.Common.{◌∙◌, List, ℕ, ap, inr, map, length, lit<, Bor, refl}
use Rattle.std.proofs.lemmas.Result.{err_from_is_err_and}
use Rattle.std.proofs.lemmas.Iterator.Consumers.{YieldsList-turn, YieldsList-so_far, YieldsList-end}
use Rattle.std.proofs.lemmas.Iterator.Splits.{YieldsList-from_str_split}
use Rattle.std.proofs.lemmas.List.{map_push}
use Rattle.std.specs.List.{slice_split}
use Rattle.std.specs.Prelude.{◌==◌}
use Rattle.pgv_value.specs.declared.tree_error.PgLQueryParseError.TheVariants.{Memory}
use Rattle.pgv_ltree.specs.TextsInTurn.{read_each}
use Rattle.pgv_ltree.proofs.EachRead.{each-push, each_gives, first_passed}
use Rattle.pgv_ltree.specs.QueryRead.{is_variant_text, variant_read}
use Rattle.pgv_ltree.proofs.Begun.{variant_passes}
use Rattle.pgv_ltree.proofs.level.variants_of.Goals as goal

pub returns-in_err-from_str : goal.returns-in_err-from_str
returns-in_err-from_str c =
    let chain = YieldsList-from_str_split 124 c.args.text.now (lit< tt) (cc) (cc) (cc) in
    let t = YieldsList-turn chain c.loop-variant.yielded _ c.loop-variant.yielded_by _ _ c.in-Some.variant c.in-Some.is c.next.ensures.steps in
    let so_far = YieldsList-so_far chain c.loop-variant.yielded _ c.loop-variant.yielded_by in
    let p = err_from_is_err_and c.from_residual.result c.from_residual.ensures.1 in
    rw (p.1, p.2)
    (each_gives variant_read is_variant_text variant_passes Memory (slice_split (λ c. c == 124) c.args.text.now) _ c.loop-variant.variants.items (length c.loop-variant.yielded) c.in-Some.variant.now c.in_err-from_str.field-0.0 so_far t.0 t.1 c.loop-variant.invariant.2 c.in_err-from_str.ensures)

-- one was there before memory for the list was asked for
pub returns-in_err-push : goal.returns-in_err-push
returns-in_err-push c =
    let chain = YieldsList-from_str_split 124 c.args.text.now (lit< tt) (cc) (cc) (cc) in
    let t = YieldsList-turn chain c.loop-variant.yielded _ c.loop-variant.yielded_by _ _ c.in-Some.variant c.in-Some.is c.next.ensures.steps in
    let so_far = YieldsList-so_far chain c.loop-variant.yielded _ c.loop-variant.yielded_by in
    let passed = variant_passes c.in-Some.variant.now c.in_ok-from_str.field-0 c.in_ok-from_str.ensures in
    let p = err_from_is_err_and c.from_residual-in_err-push.result c.from_residual-in_err-push.ensures.1 in
    rw (p.1, p.2) (inr (refl, first_passed variant_read is_variant_text variant_passes (slice_split (λ c. c == 124) c.args.text.now) _ c.loop-variant.variants.items (length c.loop-variant.yielded) c.in-Some.variant.now so_far t.0 t.1 c.loop-variant.invariant.2 passed))

pub loop-variant-preserved : goal.loop-variant-preserved
loop-variant-preserved c =
    let more = each-push variant_read (map (λ (x : Bor (List ℕ)). x.now) c.loop-variant.yielded) c.loop-variant.variants.items c.in-Some.variant.now c.in_ok-from_str.field-0 c.loop-variant.invariant.2 c.in_ok-from_str.ensures in
    (tt, tt, ap (read_each variant_read) (map_push (λ (x : Bor (List ℕ)). x.now) c.loop-variant.yielded c.in-Some.variant) ∙ more ∙ rw c.in_ok-push.ensures.items refl)

pub returns : goal.returns
returns c =
    let chain = YieldsList-from_str_split 124 c.args.text.now (lit< tt) (cc) (cc) (cc) in
    let all = YieldsList-end chain c.loop-variant.yielded _ c.loop-variant.yielded_by _ _ c.in-None.is c.next.ensures.steps in
    rw (← all.0) c.loop-variant.invariant.2
