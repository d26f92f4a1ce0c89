use Rattle.std.proofs.lemmas.Result.{err_from_is_err_and}
use Rattle.pgv_ltree.proofs.ltree.PgLTree.try_collect.Goals as goal

pub returns-in_err-push : goal.returns-in_err-push
returns-in_err-push g c =
    let it = c.into_iter-label-iterator in
    let p = err_from_is_err_and c.from_residual.result c.from_residual.ensures.1 in
    rw p.1 (it.result, c.loop-label.yielded, c.in-Some.label, c.next.new.self, it.ensures.into_iter_gives, (c.loop-label.label-iterator, c.loop-label.yielded_by, c.in-Some.ensures.steps))
