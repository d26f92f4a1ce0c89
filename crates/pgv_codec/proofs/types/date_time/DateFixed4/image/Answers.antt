use Rattle.std.proofs.Common.{rules, ap, sym, arith}
use Rattle.std.specs.Int.{w32}
use Rattle.pgv_codec.specs.ScalarImage.{signed_image}
use Rattle.pgv_codec.proofs.FixedImages.{signed_framed}
use Rattle.pgv_codec.proofs.types.date_time.DateFixed4.image.Goals as goal

pub returns : goal.returns
returns c = signed_framed 4 w32 _ 4 c.days_from_2000.result c.to_be_bytes.result (omega arith) (ap (signed_image w32) (sym c.days_from_2000.ensures)) (search rules) c.to_be_bytes.ensures (search rules) (omega arith)
