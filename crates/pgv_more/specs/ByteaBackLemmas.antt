-- What is written of a string of bytes is read back as it.
use Rattle.std.specs.Prelude.{ℕ, ◌==◌, length, Some, refl}
use Rattle.std.proofs.Common.{ap}
use Rattle.pgv_buf.specs.Tokens.{bytes}
use Rattle.pgv_value.specs.Outcome.{reading_of, without_memory}
use Rattle.pgv_value.specs.FrameBinary.{Part}
use Rattle.pgv_value.specs.declared.value.PgValueFormat.TheVariants.{Binary}
use Rattle.pgv_codec.specs.Back.{ReadsBack, always, image_is}
use Rattle.pgv_codec.specs.PartBackLemmas.{guarded}
use Rattle.pgv_codec.specs.ScalarBackLemmas.{part_is}
use Rattle.pgv_codec.specs.Encoding.{image_of, plainly, writes}
use Rattle.pgv_codec.specs.ScalarImage.{text_image}
use Rattle.pgv_more.specs.ByteaText.{parse_bytea, parse_bytea_sized, bytea_sized_image}
use Rattle.pgv_more.specs.declared.bytea.PgBytea.{PgBytea}
use Rattle.pgv_more.specs.declared.bytea.array.PgByteaArray.{PgByteaArray}

pub bytea_back : ReadsBack {A = PgBytea} (λ b. plainly (writes (text_image b.0.items))) (reading_of parse_bytea) (λ b. b.0.items) always
bytea_back b i t p os e whole small fit = ap (λ (part : Part). reading_of parse_bytea t Binary part) (part_is b.0.items i p os (image_is (text_image b.0.items) i e))

pub sized_back : (n : ℕ) → ReadsBack {A = PgByteaArray n} (λ b. plainly (writes (bytea_sized_image n b.0))) (reading_of (without_memory (parse_bytea_sized n))) (λ b. b.0) always
sized_back n b i t p os e whole small fit =
    let g = guarded (length b.0 == n) (Some (image_of (bytes b.0))) i (image_is (bytea_sized_image n b.0) i e) in
    rw (part_is b.0 i p os g.1, g.0) refl
