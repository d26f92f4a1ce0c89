use Rattle.std.proofs.Common.{rules, ap, ◌∙◌}
use Rattle.std.specs.Prelude.{map, string_bytes}
use Rattle.std.proofs.lemmas.List.{map-append}
use Rattle.pgv_session.specs.CopiedView.{rows_of}
use Rattle.pgv_session.proofs.CopySteps.{row_more, row_stops, stream_refused}
use Rattle.pgv_session.proofs.copied.rows.Goals as goal

pub returns-in-Err-next_row : goal.returns-in-Err-next_row
returns-in-Err-next_row c =
    stream_refused (rows_of c.args.columns.now) c.args.bytes.now c.loop-row.invariant.0 _ c.loop-row.reader c.in-Err-next_row.error c.refusal-in-Err-next_row.result c.loop-row.invariant.1 c.loop-row.invariant.2 c.in-Err-next_row.ensures.exact
    c.refusal-in-Err-next_row.ensures.told c.refusal-in-Err-next_row.ensures.number

pub returns-in-Refused : goal.returns-in-Refused
returns-in-Refused c =
    row_stops (rows_of c.args.columns.now) c.args.bytes.now c.loop-row.invariant.0 _ c.loop-row.reader c.next_row.new.self c.in-Ok-Some.row.items c.in-Refused.text c.loop-row.invariant.1 c.loop-row.invariant.2 (search rules) (search rules)

pub loop-row-preserved : goal.loop-row-preserved
loop-row-preserved c = (
  c.loop-row.invariant.0,
  c.loop-row.invariant.1,
  row_more (rows_of c.args.columns.now) c.loop-row.invariant.0 _ _ c.loop-row.reader c.next_row.new.self c.in-Ok-Some.row.items c.in-Said.text c.loop-row.invariant.2 (search rules) (search rules)
      (ap (map (λ t. string_bytes t)) c.in_ok-push-in-Said.ensures.items ∙ map-append (λ t. string_bytes t) _ _),
)
