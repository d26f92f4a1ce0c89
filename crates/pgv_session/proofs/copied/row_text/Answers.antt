use Rattle.std.proofs.Common.{◌∙◌, ap, drop, sym}
use Rattle.std.specs.Prelude.{codes, map, Some, string_bytes}
use Rattle.std.proofs.lemmas.List.{drop_all}
use Rattle.pgv_session.specs.CopiedView.{rows_of}
use Rattle.pgv_session.specs.Session.{all_with}
use Rattle.pgv_session.proofs.CopySteps.{no_column, no_value}
use Rattle.pgv_session.proofs.copied.row_text.Goals as goal

pub returns-in_default : goal.returns-in_default
returns-in_default c =
    let place = c.loop-place.place in
    let empty = drop_all place c.args.row.now c.in_default.ensures.lookup.3 in
    let text = c.in_ok-joined.ensures ∙ ap (λ ts. all_with (codes " ") (map (λ t. string_bytes t) ts)) c.as_slice.ensures.value in
    no_value (rows_of c.args.columns.now) c.args.row.now (map (λ t. string_bytes t) c.loop-place.texts.items) (rows_of (drop place c.args.columns.now)) (drop place c.args.row.now) empty c.loop-place.invariant
    ∙ ap (λ s. Some s) (sym text)

pub returns : goal.returns
returns c =
    let place = c.loop-place.place in
    let empty = ap rows_of (drop_all place c.args.columns.now c.loop-place-test.false) in
    let text = c.in_ok-joined-2.ensures ∙ ap (λ ts. all_with (codes " ") (map (λ t. string_bytes t) ts)) c.as_slice-2.ensures.value in
    no_column (rows_of c.args.columns.now) c.args.row.now (map (λ t. string_bytes t) c.loop-place.texts.items) (rows_of (drop place c.args.columns.now)) (drop place c.args.row.now) empty c.loop-place.invariant
    ∙ ap (λ s. Some s) (sym text)
