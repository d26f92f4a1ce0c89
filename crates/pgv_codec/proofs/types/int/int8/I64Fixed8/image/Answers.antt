use Rattle.std.proofs.Common.{rules, refl, arith}
use Rattle.std.specs.Int.{w64}
use Rattle.pgv_codec.proofs.FixedImages.{signed_framed}
use Rattle.pgv_codec.proofs.types.int.int8.I64Fixed8.image.Goals as goal

pub returns : goal.returns
returns c = signed_framed 0 w64 _ 8 c.args.self.now c.to_be_bytes.result (omega arith) refl (search rules) c.to_be_bytes.ensures (search rules) (omega arith)
