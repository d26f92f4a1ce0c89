use Rattle.std.proofs.Common.{◌∙◌, arith, sym}
use Rattle.pgv_text.proofs.CountedParts.{closing_counted, comma_counted, other_counted, rest_shorter}
use Rattle.pgv_text.proofs.parts.usual_part_count.Goals as goal

pub returns-then-closes : goal.returns-then-closes
returns-then-closes c =
    closing_counted c.args.form c.loop-left.left.now c.loop-left.count c.in-len1-up.len_at_least (sym c.is_empty.ensures ∙ c.if-is_empty.true) (sym c.closes.ensures ∙ c.if-closes.true)
    ∙ c.loop-left.invariant.0

pub loop-left-smaller-else-byte-ne44 : goal.loop-left-smaller-else-byte-ne44
loop-left-smaller-else-byte-ne44 c = rest_shorter c.loop-left.left.now c.in-len1-up.len_at_least

pub loop-left-preserved-else-byte-ne44 : goal.loop-left-preserved-else-byte-ne44
loop-left-preserved-else-byte-ne44 c = (
  comma_counted c.args.form c.loop-left.left.now c.loop-left.count c.in-len1-up.len_at_least c.if-byte-ne44.false ∙ c.loop-left.invariant.0,
  omega (arith, c.loop-left.invariant.1, rest_shorter c.loop-left.left.now c.in-len1-up.len_at_least),
)

pub loop-left-smaller : goal.loop-left-smaller
loop-left-smaller c = rest_shorter c.loop-left.left.now c.in-len1-up.len_at_least

pub loop-left-preserved : goal.loop-left-preserved
loop-left-preserved c = (
  other_counted c.args.form c.loop-left.left.now c.loop-left.count c.in-len1-up.len_at_least (c.is_never_special.ensures c.if-not-is_never_special.false c.args.form) ∙ c.loop-left.invariant.0,
  omega (arith, c.loop-left.invariant.1, rest_shorter c.loop-left.left.now c.in-len1-up.len_at_least),
)
