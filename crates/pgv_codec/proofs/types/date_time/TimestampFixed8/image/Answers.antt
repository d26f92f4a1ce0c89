use Rattle.std.proofs.Common.{◌∙◌, rules, ap, sym, arith}
use Rattle.std.specs.Int.{w64, w128}
use Rattle.std.proofs.lemmas.Int.{to_z-of_z}
use Rattle.pgv_codec.specs.DateTimeImage.{micros_of}
use Rattle.pgv_codec.specs.ScalarImage.{signed_image}
use Rattle.pgv_codec.proofs.FixedImages.{signed_framed}
use Rattle.pgv_codec.proofs.types.date_time.TimestampFixed8.image.Goals as goal

pub returns : goal.returns
returns c = signed_framed 8 w64 _ 8 c.micros_from_2000.result c.to_be_bytes.result (omega arith) (ap (signed_image w64) (sym (c.micros_from_2000.ensures ∙ ap micros_of (to_z-of_z w128 c.as_nanosecond.result (search rules) ∙ c.as_nanosecond.ensures)))) (search rules) c.to_be_bytes.ensures (search rules) (omega arith)
