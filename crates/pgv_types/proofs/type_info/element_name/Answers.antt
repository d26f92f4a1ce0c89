use Rattle.std.proofs.Common.{arith}
use Rattle.std.proofs.lemmas.Str.Pattern.{strip_prefix_char}
use Rattle.pgv_types.proofs.Elements.{element_after}
use Rattle.pgv_types.proofs.type_info.element_name.Goals as goal

pub returns : goal.returns
returns c = element_after c.args.name.now c.strip_prefix.result (strip_prefix_char 95 c.args.name.now c.strip_prefix.result c.strip_prefix.ensures.cases (omega arith))
