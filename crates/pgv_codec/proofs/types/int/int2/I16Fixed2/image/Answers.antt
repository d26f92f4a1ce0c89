use Rattle.std.proofs.Common.{rules, refl, arith}
use Rattle.std.specs.Int.{w16}
use Rattle.pgv_codec.proofs.FixedImages.{signed_framed}
use Rattle.pgv_codec.proofs.types.int.int2.I16Fixed2.image.Goals as goal

pub returns : goal.returns
returns c = signed_framed 0 w16 _ 2 c.args.self.now c.to_be_bytes.result (omega arith) refl (search rules) c.to_be_bytes.ensures (search rules) (omega arith)
