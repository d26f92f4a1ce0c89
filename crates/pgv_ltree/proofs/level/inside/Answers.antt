use Rattle.std.proofs.Common.{sym, lit<, None, Some}
use Rattle.std.proofs.lemmas.Str.Pattern.{strip_prefix_char, strip_suffix_char}
use Rattle.pgv_ltree.proofs.LevelTexts.{inside_braces, not_braced}
use Rattle.pgv_ltree.proofs.level.inside.Goals as goal

pub returns-in_err-strip_prefix : goal.returns-in_err-strip_prefix
returns-in_err-strip_prefix c =
    rw c.from_residual.ensures (sym (not_braced c.args.text.now (strip_prefix_char 123 c.args.text.now None c.in_err-strip_prefix.ensures.cases (lit< tt))))

pub returns : goal.returns
returns c =
    let begins = strip_prefix_char 123 c.args.text.now (Some c.in_ok-strip_prefix.field-0) c.in_ok-strip_prefix.ensures.cases (lit< tt) in
    let ends = strip_suffix_char 125 c.in_ok-strip_prefix.field-0.now c.strip_suffix.result c.strip_suffix.ensures.cases (lit< tt) in
    inside_braces c.args.text.now c.in_ok-strip_prefix.field-0.now c.strip_suffix.result begins ends
