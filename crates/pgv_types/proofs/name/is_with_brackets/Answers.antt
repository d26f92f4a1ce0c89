use Rattle.std.proofs.Common.{Some, None, ap, ◌∙◌, sym, codes}
use Rattle.std.specs.Str.{bytes_eq}
use Rattle.std.proofs.lemmas.Bool.Decides.{Decides-eqb}
use Rattle.std.proofs.lemmas.Slice.Eq.{strip_suffix_is}
use Rattle.pgv_types.proofs.Same.{same_before, not_same}
use Rattle.pgv_types.proofs.name.is_with_brackets.Goals as goal

pub returns-in-Some : goal.returns-in-Some
returns-in-Some c =
    let e = strip_suffix_is Decides-eqb c.as_bytes.result.now (codes "[]") (Some c.in-Some.rest) c.in-Some.ensures.cases in
    c.eq.ensures ∙ ap (λ l. bytes_eq c.in-Some.rest.now l) c.as_bytes-in-Some.ensures.value ∙ same_before c.args.text.now c.args.front.now c.in-Some.rest.now (sym c.as_bytes.ensures.value ∙ e)

pub returns-in-None : goal.returns-in-None
returns-in-None c =
    not_same c.args.text.now c.args.front.now (λ w e. strip_suffix_is Decides-eqb c.as_bytes.result.now (codes "[]") None c.in-None.ensures.cases w (c.as_bytes.ensures.value ∙ e))
