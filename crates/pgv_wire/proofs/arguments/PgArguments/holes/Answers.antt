use Rattle.std.proofs.Common.{◌∙◌, ap, length}
use Rattle.pgv_buf.specs.Proper.{length-hole_types_of}
use Rattle.pgv_wire.specs.Arguments.{all_cells}
use Rattle.pgv_wire.proofs.arguments.PgArguments.holes.Goals as goal

pub returns : goal.returns
returns c = ap length c.hole_types.ensures ∙ length-hole_types_of (all_cells c.args.self.now)
