use Rattle.pgv_types.proofs.Same.{begins_whole}
use Rattle.pgv_types.proofs.name.PgTypeName.begins_unicode.Goals as goal

pub returns : goal.returns
returns c = begins_whole c.begins_unicode.result c.args.self.now.text.now c.args.self.now.brackets c.begins_unicode.ensures
