use Rattle.std.proofs.Common.{◌∙◌, List, ℕ, ap, inr, map, length, lit<, Bor, refl}
use Rattle.std.proofs.lemmas.Result.{err_from_is_err_and}
use Rattle.std.proofs.lemmas.Iterator.Consumers.{YieldsList-turn, YieldsList-so_far, YieldsList-end}
use Rattle.std.proofs.lemmas.Iterator.Splits.{YieldsList-from_str_split}
use Rattle.std.proofs.lemmas.List.{map_push}
use Rattle.std.specs.List.{slice_split}
use Rattle.std.specs.Prelude.{◌==◌}
use Rattle.pgv_value.specs.declared.tree_error.PgLQueryParseError.TheVariants.{Memory}
use Rattle.pgv_ltree.specs.TextsInTurn.{read_each}
use Rattle.pgv_ltree.proofs.EachRead.{each-push, each_gives, first_passed}
use Rattle.pgv_ltree.specs.QueryRead.{begins_level, level_read}
use Rattle.pgv_ltree.specs.LevelView.{level_of}
use Rattle.pgv_ltree.proofs.Begun.{begun_or_refused, level_passes}
use Rattle.pgv_ltree.proofs.lquery.PgLQuery.from_str.Goals as goal

pub returns-in_err-from_str : goal.returns-in_err-from_str
returns-in_err-from_str c =
    let chain = YieldsList-from_str_split 46 c.args.text.now (lit< tt) (cc) (cc) (cc) in
    let t = YieldsList-turn chain c.loop-level.yielded _ c.loop-level.yielded_by _ _ c.in-Some.level c.in-Some.is c.next.ensures.steps in
    let so_far = YieldsList-so_far chain c.loop-level.yielded _ c.loop-level.yielded_by in
    let p = err_from_is_err_and c.from_residual.result c.from_residual.ensures.1 in
    rw (p.1, p.2)
    (each_gives level_read begins_level level_passes Memory (slice_split (λ c. c == 46) c.args.text.now) _ (map level_of c.loop-level.levels.items) (length c.loop-level.yielded) c.in-Some.level.now c.in_err-from_str.field-0.0 so_far t.0 t.1 c.loop-level.invariant.2 (begun_or_refused c.in-Some.level.now c.in_err-from_str.field-0.0 c.in_err-from_str.ensures))

-- one was there before memory for the list was asked for
pub returns-in_err-push : goal.returns-in_err-push
returns-in_err-push c =
    let chain = YieldsList-from_str_split 46 c.args.text.now (lit< tt) (cc) (cc) (cc) in
    let t = YieldsList-turn chain c.loop-level.yielded _ c.loop-level.yielded_by _ _ c.in-Some.level c.in-Some.is c.next.ensures.steps in
    let so_far = YieldsList-so_far chain c.loop-level.yielded _ c.loop-level.yielded_by in
    let passed = level_passes c.in-Some.level.now (level_of c.in_ok-from_str.field-0) c.in_ok-from_str.ensures in
    let p = err_from_is_err_and c.from_residual-in_err-push.result c.from_residual-in_err-push.ensures.1 in
    rw (p.1, p.2) (inr (refl, first_passed level_read begins_level level_passes (slice_split (λ c. c == 46) c.args.text.now) _ (map level_of c.loop-level.levels.items) (length c.loop-level.yielded) c.in-Some.level.now so_far t.0 t.1 c.loop-level.invariant.2 passed))

pub loop-level-preserved : goal.loop-level-preserved
loop-level-preserved c =
    let more = each-push level_read (map (λ (x : Bor (List ℕ)). x.now) c.loop-level.yielded) (map level_of c.loop-level.levels.items) c.in-Some.level.now (level_of c.in_ok-from_str.field-0) c.loop-level.invariant.2 c.in_ok-from_str.ensures in
    (tt, tt, ap (read_each level_read) (map_push (λ (x : Bor (List ℕ)). x.now) c.loop-level.yielded c.in-Some.level) ∙ more ∙ rw (c.in_ok-push.ensures.items, map_push level_of c.loop-level.levels.items c.in_ok-from_str.field-0) refl)

pub returns : goal.returns
returns c =
    let chain = YieldsList-from_str_split 46 c.args.text.now (lit< tt) (cc) (cc) (cc) in
    let all = YieldsList-end chain c.loop-level.yielded _ c.loop-level.yielded_by _ _ c.in-None.is c.next.ensures.steps in
    rw (← all.0) c.loop-level.invariant.2
