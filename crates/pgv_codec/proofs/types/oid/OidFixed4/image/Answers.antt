use Rattle.std.proofs.Common.{◌≡◌, ◌^◌, nat_lt, ℕ, List, Option, Some, true, rules, ap, sym, arith}
use Rattle.std.specs.Int.{w32}
use Rattle.std.proofs.lemmas.Bool.{lt-ltb}
use Rattle.pgv_buf.specs.Tokens.{bytes}
use Rattle.pgv_codec.specs.Encoding.{Image, image_of}
use Rattle.pgv_codec.specs.ScalarImage.{unsigned_image}
use Rattle.pgv_codec.proofs.FixedImages.{image_framed}
use Rattle.pgv_codec.proofs.types.oid.OidFixed4.image.Goals as goal

pub returns : goal.returns
returns c =
    let n = c.args.self.now.0 in
    let value = c.to_be_bytes.result in
    let small : nat_lt n (2 ^ 32) ≡ true = lt-ltb n (2 ^ 32) (search rules) in
    let image : unsigned_image w32 n ≡ Some (image_of (bytes value)) = rw small (ap (λ (xs : List ℕ). let o : Option Image = Some (image_of (bytes xs)) in o) (sym c.to_be_bytes.ensures)) in
    image_framed 0 (unsigned_image w32 n) 4 value (omega arith) image (search rules) (omega arith)
