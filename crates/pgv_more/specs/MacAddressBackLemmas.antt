-- What is written of a MAC address is read back as it.
use Rattle.std.specs.Prelude.{◌==◌, length, Some, refl}
use Rattle.pgv_buf.specs.Tokens.{bytes}
use Rattle.pgv_codec.specs.Back.{ReadsBack, always, image_is}
use Rattle.pgv_codec.specs.PartBackLemmas.{guarded}
use Rattle.pgv_codec.specs.ScalarBackLemmas.{part_is}
use Rattle.pgv_codec.specs.Encoding.{image_of, with_hint, writes}
use Rattle.pgv_more.specs.MacAddressCodec.{mac_image, parse_mac}
use Rattle.pgv_value.specs.Outcome.{reading_of, without_memory}

pub mac_back : ReadsBack (λ address. with_hint 6 (writes (mac_image address))) (reading_of (without_memory parse_mac)) (λ address. address) always
mac_back address i t p os e whole small fit =
    let g = guarded (length address == 6) (Some (image_of (bytes address))) i (image_is (mac_image address) i e) in
    rw (part_is address i p os g.1, g.0) refl
