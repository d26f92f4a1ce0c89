use Rattle.std.proofs.Common.{◌∙◌}
use Rattle.pgv_buf.proofs.Layouts.{held, valid, cells_are}
use Rattle.pgv_buf.proofs.CellSteps.{bytes_joined}
use Rattle.pgv_buf.proofs.tokens.Tokens.extend_from_slice.Goals as goal

pub invariant_of-self-2 : goal.invariant_of-self-2
invariant_of-self-2 c = valid (bytes_joined (held c.args.self.now c.self.invariant (c.self.view_is ∙ c.reserve.ensures)) c.args.values.now _ c.in_ok-extend_from_slice.ensures.items)

pub returns-clause-ok : goal.returns-clause-ok
returns-clause-ok c = cells_are (bytes_joined (held c.args.self.now c.self.invariant (c.self.view_is ∙ c.reserve.ensures)) c.args.values.now _ c.in_ok-extend_from_slice.ensures.items)
