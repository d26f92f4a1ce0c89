use Rattle.pgv_text.proofs.Contents.{range_is}
use Rattle.pgv_text.proofs.laws.range_is_computed.Goals as goal

pub returns : goal.returns
returns c = range_is
