use Rattle.pgv_more.proofs.Kept.{bit_read}
use Rattle.pgv_more.proofs.bit_vec.BitVec.get.Goals as goal

pub returns : goal.returns
returns c = bit_read c.self.inside.bytes.items c.self.inside.count c.args.index c.index.result.now c.args.self.now c.self.invariant.0 c.if-index-self.false c.self.view_is c.index.ensures
