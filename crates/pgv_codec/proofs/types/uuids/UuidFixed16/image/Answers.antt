use Rattle.std.proofs.Common.{◌≡◌, length, rules, refl, arith}
use Rattle.pgv_codec.specs.ScalarImage.{uuid_image}
use Rattle.pgv_codec.proofs.FixedImages.{image_framed}
use Rattle.pgv_codec.proofs.types.uuids.UuidFixed16.image.Goals as goal

pub returns : goal.returns
returns c =
    let long : length c.into_bytes.result ≡ 16 = search rules in
    image_framed 0 (uuid_image c.args.self.now) 16 c.into_bytes.result (omega arith) (rw (← c.into_bytes.ensures, long) refl) long (omega arith)
