use Rattle.std.proofs.Common.{◌∙◌, ap, inl, inr, map, sym, refl, string_bytes}
use Rattle.std.proofs.lemmas.List.{map_push}
use Rattle.std.proofs.lemmas.Result.{err_from_is_err_and}
use Rattle.pgv_ltree.specs.TextsInTurn.{read_each}
use Rattle.pgv_ltree.specs.Labels.{label_read}
use Rattle.pgv_ltree.proofs.EachRead.{each-push, read_is_label}
use Rattle.pgv_ltree.proofs.ltree.PgLTree.try_from_iter.Goals as goal

pub returns-in_err-new : goal.returns-in_err-new
returns-in_err-new g c =
    let p = err_from_is_err_and c.from_residual.result c.from_residual.ensures.1 in
    rw (p.1, p.2) (
      c.into_iter-label-iterator.result,
      string_bytes c.in-Some.label,
      c.into_iter-label-iterator.ensures.into_iter_gives,
      (c.loop-label.yielded, c.in-Some.label, c.next.new.self, c.loop-label.tree, (c.loop-label.label-iterator, c.loop-label.yielded_by, c.in-Some.ensures.steps), refl, c.loop-label.invariant),
      inl (sym c.in_err-new.ensures),
    )

pub returns-in_err-push : goal.returns-in_err-push
returns-in_err-push g c =
    let p = err_from_is_err_and c.from_residual-in_err-push.result c.from_residual-in_err-push.ensures.1 in
    rw (p.1, p.2) (
      c.into_iter-label-iterator.result,
      string_bytes c.in-Some.label,
      c.into_iter-label-iterator.ensures.into_iter_gives,
      (c.loop-label.yielded, c.in-Some.label, c.next.new.self, c.loop-label.tree, (c.loop-label.label-iterator, c.loop-label.yielded_by, c.in-Some.ensures.steps), refl, c.loop-label.invariant),
      inr (refl, read_is_label (string_bytes c.in-Some.label) c.in_ok-new.field-0 (sym c.in_ok-new.ensures)),
    )

pub loop-label-preserved : goal.loop-label-preserved
loop-label-preserved g c =
    ap (read_each label_read) (map_push string_bytes c.loop-label.yielded c.in-Some.label)
    ∙ each-push label_read (map string_bytes c.loop-label.yielded) c.loop-label.tree (string_bytes c.in-Some.label) c.in_ok-new.field-0 c.loop-label.invariant (sym c.in_ok-new.ensures)
    ∙ rw c.in_ok-push.ensures.ok refl
