use Rattle.std.proofs.Common.{◌≡◌, ◌∙◌, sym, true}
use Rattle.std.specs.List.{list_all}
use Rattle.pgv_ltree.specs.QueryText.{is_mark}
use Rattle.pgv_ltree.proofs.VariantMarks.{variant_there}
use Rattle.pgv_ltree.proofs.variant.PgLQueryVariant.from_str.Goals as goal

pub returns : goal.returns
returns c =
    let marks = c.as_bytes-marks.result.now in
    let all : list_all is_mark marks ≡ true = sym c.are_marks.ensures ∙ c.if-not-are_marks.false in
    variant_there c.args.text.now c.split_marks.result.0.now marks c.in_ok-from_str.field-0 c.contains.result c.contains-2.result c.contains-3.result
    c.split_marks.ensures.0 (c.as_bytes-marks.ensures.value ∙ c.split_marks.ensures.1) all c.in_ok-from_str.ensures c.contains.ensures.value c.contains-2.ensures.value c.contains-3.ensures.value
