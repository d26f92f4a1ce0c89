use Rattle.pgv_session.proofs.Refusals.{not_added}
use Rattle.pgv_session.proofs.value.add_value.Goals as goal

pub returns-in-Err : goal.returns-in-Err
returns-in-Err g c =
    not_added g.T.Type.info (g.T.Encode.encoding c.args.value.now) c.in-Err.error c.args.arguments.now _ c.refusal.result c.in-Err.ensures.exact c.in-Err.ensures.unchanged
    c.refusal.ensures.refused c.refusal.ensures.told c.refusal.ensures.number
