use Rattle.std.proofs.Common.{◌≢◌, false, get_or, lit<}
use Rattle.std.proofs.lemmas.Bool.{false≢true}
use Rattle.std.proofs.lemmas.Str.Pattern.{starts_char}
use Rattle.pgv_ltree.proofs.LevelTexts.{count_is, no_count}
use Rattle.pgv_ltree.proofs.level.count_of.Goals as goal

pub returns-in-Ok : goal.returns-in-Ok
returns-in-Ok c =
    let begins = starts_char 43 c.args.text.now false c.if-starts_with.ensures.cases (lit< tt) (lit< tt) in
    let plain : get_or c.args.text.now 0 0 ≢ 43 = λ e. false≢true (begins.1 e) in
    count_is c.args.text.now c.in-Ok.count c.parse.result c.in-Ok.is c.parse.ensures.value.0 plain

pub returns-in-Err : goal.returns-in-Err
returns-in-Err c =
    let begins = starts_char 43 c.args.text.now false c.if-starts_with.ensures.cases (lit< tt) (lit< tt) in
    let plain : get_or c.args.text.now 0 0 ≢ 43 = λ e. false≢true (begins.1 e) in
    no_count c.args.text.now c.in-Err.field-0 c.in-Err.ensures.value.0 plain
