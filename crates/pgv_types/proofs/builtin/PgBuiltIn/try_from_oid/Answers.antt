use Rattle.std.proofs.Common.{rules}
use Rattle.pgv_types.proofs.UnknownOid.{none_found}
use Rattle.pgv_types.proofs.builtin.PgBuiltIn.try_from_oid.Goals as goal

pub returns-in_default : goal.returns-in_default
returns-in_default c = none_found c.args.oid.0 (search rules)
