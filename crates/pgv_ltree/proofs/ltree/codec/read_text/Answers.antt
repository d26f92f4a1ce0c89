use Rattle.std.proofs.lemmas.Result.{err_from_is_err_and}
use Rattle.pgv_ltree.proofs.EachRead.{tree_fails}
use Rattle.pgv_ltree.proofs.ltree.codec.read_text.Goals as goal

pub returns-in_err-from_str : goal.returns-in_err-from_str
returns-in_err-from_str c =
    let p = err_from_is_err_and c.from_residual.result c.from_residual.ensures.1 in
    rw (p.1, p.2) (tree_fails c.args.text.now c.in_err-from_str.field-0.0 c.in_err-from_str.ensures)
