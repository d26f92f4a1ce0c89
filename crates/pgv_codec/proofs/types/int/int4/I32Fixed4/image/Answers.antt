use Rattle.std.proofs.Common.{rules, refl, arith}
use Rattle.std.specs.Int.{w32}
use Rattle.pgv_codec.proofs.FixedImages.{signed_framed}
use Rattle.pgv_codec.proofs.types.int.int4.I32Fixed4.image.Goals as goal

pub returns : goal.returns
returns c = signed_framed 0 w32 _ 4 c.args.self.now c.to_be_bytes.result (omega arith) refl (search rules) c.to_be_bytes.ensures (search rules) (omega arith)
