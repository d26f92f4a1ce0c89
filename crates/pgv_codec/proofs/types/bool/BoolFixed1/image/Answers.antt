use Rattle.std.proofs.Common.{◌∷◌, [], rules, refl, arith}
use Rattle.pgv_codec.specs.ScalarImage.{bool_image}
use Rattle.pgv_codec.proofs.FixedImages.{image_framed}
use Rattle.pgv_codec.proofs.types.bool.BoolFixed1.image.Goals as goal

pub returns : goal.returns
returns c = image_framed 0 (bool_image c.args.self.now) 1 (c.from.result ∷ []) (omega arith) (search (c.from.ensures, rules)) refl (omega arith)
