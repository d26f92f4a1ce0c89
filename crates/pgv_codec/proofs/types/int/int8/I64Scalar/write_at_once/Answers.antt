use Rattle.std.proofs.Common.{◌≡◌, ◌∙◌, ℕ, ℤ, List, Option, Some, rules, ap, sym}
use mir.Val.{SFits}
use Rattle.std.specs.Int.{w64, cast_unsigned, to_be_bytes}
use Rattle.std.proofs.lemmas.Int.{to_z-of_z}
use Rattle.pgv_buf.specs.Tokens.{bytes}
use Rattle.pgv_value.specs.OwnBytesLemmas.{signed_fits}
use Rattle.pgv_codec.specs.Encoding.{Image, image_of, frame, plainly, writes}
use Rattle.pgv_codec.specs.ScalarImage.{signed_image}
use Rattle.pgv_codec.proofs.OneFrame.{at_once}
use Rattle.pgv_codec.proofs.types.int.int8.I64Scalar.write_at_once.Goals as goal

pub returns-clause-ok : goal.returns-clause-ok
returns-clause-ok c =
    let v = c.args.self.now in
    let fits : SFits w64 v = search rules in
    let value = c.to_be_bytes.result in
    let is : value ≡ to_be_bytes w64 (cast_unsigned w64 v) = c.to_be_bytes.ensures ∙ ap (λ (z : ℤ). to_be_bytes w64 (cast_unsigned w64 z)) (to_z-of_z w64 v fits) in
    let image : signed_image w64 v ≡ Some (image_of (bytes value)) = rw (signed_fits w64 v fits) (ap (λ (xs : List ℕ). let o : Option Image = Some (image_of (bytes xs)) in o) (sym is)) in
    at_once c.push_frame.result (frame (plainly (writes (Some (image_of (bytes value)))))) (frame (plainly (writes (signed_image w64 v)))) c.args.out.now c.push_frame.new.self
    (ap (λ (i : Option Image). frame (plainly (writes i))) (sym image)) c.push_frame.ensures.ok
