use Rattle.std.proofs.Common.{ℕ, List, ◌++◌, sym, ap, ◌∙◌}
use Rattle.pgquery.specs.RowLines.{string_of}
use Rattle.pgquery.proofs.ShownValues.{null_in_object, text_in_object}
use Rattle.pgquery.proofs.show.push_json_value.Goals as goal

pub returns-then-is_null : goal.returns-then-is_null
returns-then-is_null c =
    c.in_ok-extend_from_slice.ensures.items
    ∙ ap (λ (xs : List ℕ). c.args.line.now.items ++ xs) (sym (null_in_object c.args.row.now c.args.place c.in_ok-value.value c.in_ok-value.ensures (sym c.is_null.ensures ∙ c.if-is_null.true)))

pub returns : goal.returns
returns c =
    c.in_ok-push_string.ensures
    ∙ ap (λ (xs : List ℕ). c.args.line.now.items ++ xs)
    (ap string_of c.as_bytes.ensures.value ∙ sym (text_in_object c.args.row.now c.args.place c.in_ok-value.value _ c.in_ok-value.ensures c.in_ok-as_str.ensures.0))
