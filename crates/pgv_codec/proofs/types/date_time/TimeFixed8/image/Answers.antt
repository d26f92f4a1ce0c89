use Rattle.std.proofs.Common.{rules, ap, sym, arith}
use Rattle.std.specs.Int.{w64}
use Rattle.pgv_codec.specs.ScalarImage.{signed_image}
use Rattle.pgv_codec.proofs.FixedImages.{signed_framed}
use Rattle.pgv_codec.proofs.types.date_time.TimeFixed8.image.Goals as goal

pub returns : goal.returns
returns c = signed_framed 8 w64 _ 8 c.micros_of_day.result c.to_be_bytes.result (omega arith) (ap (signed_image w64) (sym c.micros_of_day.ensures)) (search rules) c.to_be_bytes.ensures (search rules) (omega arith)
