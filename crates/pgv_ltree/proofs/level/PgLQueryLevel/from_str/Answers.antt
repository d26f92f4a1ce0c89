use Rattle.std.proofs.Common.{lit<, None}
use Rattle.std.proofs.lemmas.Str.Pattern.{strip_prefix_char}
use Rattle.std.proofs.lemmas.Result.{err_from_is_err_and}
use Rattle.pgv_ltree.proofs.LevelTexts.{other_found, other_gives}
use Rattle.pgv_ltree.proofs.level.PgLQueryLevel.from_str.Goals as goal

pub returns-in_err-variants_of-2 : goal.returns-in_err-variants_of-2
returns-in_err-variants_of-2 c =
    let no_star = strip_prefix_char 42 c.args.text.now None c.in_default.ensures.cases (lit< tt) in
    let no_not = strip_prefix_char 33 c.args.text.now None c.in_default-strip_prefix.ensures.cases (lit< tt) in
    let p = err_from_is_err_and c.from_residual-in_err-variants_of-2.result c.from_residual-in_err-variants_of-2.ensures.1 in
    rw (p.1, p.2) (other_gives c.args.text.now c.is_empty.result c.in_err-variants_of-2.field-0.0 c.is_empty.ensures c.if-is_empty.false no_star no_not c.in_err-variants_of-2.ensures)

pub returns : goal.returns
returns c =
    let no_star = strip_prefix_char 42 c.args.text.now None c.in_default.ensures.cases (lit< tt) in
    let no_not = strip_prefix_char 33 c.args.text.now None c.in_default-strip_prefix.ensures.cases (lit< tt) in
    other_found c.args.text.now c.is_empty.result c.in_ok-variants_of-2.field-0.items c.is_empty.ensures c.if-is_empty.false no_star no_not c.in_ok-variants_of-2.ensures
