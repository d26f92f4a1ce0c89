use Rattle.pgv_scalar_text.proofs.Calendar.{date_number}
use Rattle.pgv_scalar_text.proofs.date_times.date_of.Goals as goal

pub returns : goal.returns
returns c = date_number c.args.year c.args.month c.args.day c.new.result c.ok.result c.requires.year c.requires.month c.requires.day c.new.ensures.succeeds c.new.ensures.value c.ok.ensures.value
