use Rattle.pgv_types.proofs.Tells.{agree_meant}
use Rattle.pgv_types.proofs.name.name_eq.Goals as goal

pub returns-clause-meaning : goal.returns-clause-meaning
returns-clause-meaning c = agree_meant c.args.first.now c.args.second.now _ _ c.agrees.result c.plain.ensures c.plain-2.ensures c.agrees.ensures
