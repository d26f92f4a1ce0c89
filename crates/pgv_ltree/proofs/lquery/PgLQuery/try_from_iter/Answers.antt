use Rattle.std.proofs.Common.{◌∙◌, ap, inr, ℕ, List, map, refl, Bor}
use Rattle.std.proofs.lemmas.List.{map_push}
use Rattle.std.proofs.lemmas.Result.{err_from_is_err_and}
use Rattle.pgv_ltree.specs.TextsInTurn.{read_each}
use Rattle.pgv_ltree.proofs.EachRead.{each-push}
use Rattle.pgv_ltree.specs.LevelView.{level_of}
use Rattle.pgv_ltree.specs.QueryRead.{level_read}
use Rattle.pgv_ltree.proofs.Begun.{begun_or_refused, level_passes}
use Rattle.pgv_ltree.proofs.lquery.PgLQuery.try_from_iter.Goals as goal

pub returns-in_err-from_str : goal.returns-in_err-from_str
returns-in_err-from_str g c =
    let p = err_from_is_err_and c.from_residual.result c.from_residual.ensures.1 in
    rw (p.1, p.2) (
      c.into_iter-level-iterator.result,
      c.in-Some.level.now,
      c.into_iter-level-iterator.ensures.into_iter_gives,
      (c.loop-level.yielded, c.in-Some.level, c.next.new.self, c.loop-level.query, (c.loop-level.level-iterator, c.loop-level.yielded_by, c.in-Some.ensures.steps), refl, c.loop-level.invariant),
      begun_or_refused c.in-Some.level.now c.in_err-from_str.field-0.0 c.in_err-from_str.ensures,
    )

pub returns-in_err-push : goal.returns-in_err-push
returns-in_err-push g c =
    let p = err_from_is_err_and c.from_residual-in_err-push.result c.from_residual-in_err-push.ensures.1 in
    rw (p.1, p.2) (
      c.into_iter-level-iterator.result,
      c.in-Some.level.now,
      c.into_iter-level-iterator.ensures.into_iter_gives,
      (c.loop-level.yielded, c.in-Some.level, c.next.new.self, c.loop-level.query, (c.loop-level.level-iterator, c.loop-level.yielded_by, c.in-Some.ensures.steps), refl, c.loop-level.invariant),
      inr (refl, level_passes c.in-Some.level.now (level_of c.in_ok-from_str.field-0) c.in_ok-from_str.ensures),
    )

pub loop-level-preserved : goal.loop-level-preserved
loop-level-preserved g c =
    ap (read_each level_read) (map_push (λ (x : Bor (List ℕ)). x.now) c.loop-level.yielded c.in-Some.level)
    ∙ each-push level_read (map (λ (x : Bor (List ℕ)). x.now) c.loop-level.yielded) c.loop-level.query c.in-Some.level.now (level_of c.in_ok-from_str.field-0) c.loop-level.invariant c.in_ok-from_str.ensures
    ∙ rw c.in_ok-push.ensures.ok refl
