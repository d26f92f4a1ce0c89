-- The frames of images that have the same number of bytes for every value of a type.
use mir.Val.{SFits}
use Rattle.std.proofs.Common.{◌≡◌, ◌∙◌, ◌++◌, ℕ, ℤ, ◌≤◌, List, Option, Some, Ok, length, ap, sym, arith}
use Rattle.std.specs.Int.{Width, cast_signed, cast_unsigned, to_be_bytes}
use Rattle.std.proofs.lemmas.Int.{to_z-of_z}
use Rattle.pgv_buf.specs.Tokens.{be4, bytes}
use Rattle.pgv_value.specs.OwnBytesLemmas.{signed_fits}
use Rattle.pgv_codec.specs.Encoding.{Image, frame, image_of, with_hint, writes}
use Rattle.pgv_codec.specs.ScalarImage.{signed_image}
use Rattle.pgv_codec.proofs.Lists.{Answer}
use Rattle.pgv_codec.proofs.OneFrame.{hinted_frame}

pub image_framed : (hint : ℕ) (image : Option Image) (n : ℕ) (xs : List ℕ) → hint ≤ 16 → image ≡ Some (image_of (bytes xs)) → length xs ≡ n → n ≤ 16 →
    (frame (with_hint hint (writes image))).answer ≡ Ok (bytes (be4 n ++ xs))
image_framed hint image n xs le is long few = rw is (hinted_frame hint xs (omega (arith, le)) (omega (arith, long, few)) ∙ ap (λ (m : ℕ). let r : Answer = Ok (bytes (be4 m ++ xs)) in r) long)

-- a number's bytes, as they are made of it
pub signed_framed : (hint : ℕ) (w : Width) (image : Option Image) (n : ℕ) (v : ℤ) (xs : List ℕ) → hint ≤ 16 → image ≡ signed_image w v → SFits w v →
    xs ≡ to_be_bytes w (cast_unsigned w (cast_signed w (cast_unsigned w v))) → length xs ≡ n → n ≤ 16 → (frame (with_hint hint (writes image))).answer ≡ Ok (bytes (be4 n ++ xs))
signed_framed hint w image n v xs le of_number fits made long few =
    let is : xs ≡ to_be_bytes w (cast_unsigned w v) = made ∙ ap (λ (z : ℤ). to_be_bytes w (cast_unsigned w z)) (to_z-of_z w v fits) in
    let made_of : signed_image w v ≡ Some (image_of (bytes xs)) = rw (signed_fits w v fits) (ap (λ (ys : List ℕ). let o : Option Image = Some (image_of (bytes ys)) in o) (sym is)) in
    image_framed hint image n xs le (of_number ∙ made_of) long few
