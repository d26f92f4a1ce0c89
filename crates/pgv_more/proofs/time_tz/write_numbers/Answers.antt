use mir.Val.{SFits}
use Rattle.std.proofs.Common.{◌≡◌, ◌∙◌, ◌++◌, ℕ, ℤ, List, Some, rules, refl, ap}
use Rattle.std.specs.Int.{w32, w64, cast_signed, cast_unsigned, to_be_bytes}
use Rattle.std.proofs.lemmas.Int.{to_z-of_z}
use Rattle.pgv_buf.specs.Tokens.{bytes}
use Rattle.pgv_value.specs.OwnBytesLemmas.{signed_fits}
use Rattle.pgv_codec.specs.Encoding.{image_of}
use Rattle.pgv_codec.specs.PlainBytes.{appended_parts}
use Rattle.pgv_more.specs.TimeTzCodec.{image_of_numbers}
use Rattle.pgv_codec.proofs.Extensions.{extends_itself, on_err, ran_out}
use Rattle.pgv_more.proofs.time_tz.write_numbers.Goals as goal

image_is : (micros west : ℤ) (a b : List ℕ) → SFits w64 micros → SFits w32 west →
    a ≡ to_be_bytes w64 (cast_unsigned w64 (cast_signed w64 (cast_unsigned w64 micros))) → b ≡ to_be_bytes w32 (cast_unsigned w32 (cast_signed w32 (cast_unsigned w32 west))) →
    image_of_numbers micros west ≡ Some (image_of (bytes (a ++ b)))
image_is micros west a b f g e k =
    let first = e ∙ ap (λ (z : ℤ). to_be_bytes w64 (cast_unsigned w64 z)) (to_z-of_z w64 micros f) in
    let second = k ∙ ap (λ (z : ℤ). to_be_bytes w32 (cast_unsigned w32 z)) (to_z-of_z w32 west g) in
    rw (signed_fits w64 micros f, first, second) refl

pub returns-clause-encodes : goal.returns-clause-encodes
returns-clause-encodes c =
    let micros = c.to_be_bytes-micros.result in
    let west = c.to_be_bytes-west.result in
    let all = appended_parts c.args.out.now c.extend_from_slice.new.self c.extend_from_slice-2.new.self micros west c.in_ok-extend_from_slice.ensures.ok c.in_ok-extend_from_slice-2.ensures.ok in
    (bytes (micros ++ west), rw (image_is c.args.micros c.args.west micros west (search rules) (search rules) c.to_be_bytes-micros.ensures c.to_be_bytes-west.ensures) refl, all)

pub returns-in_err-extend_from_slice-clause-encodes : goal.returns-in_err-extend_from_slice-clause-encodes
returns-in_err-extend_from_slice-clause-encodes c =
    ran_out _ c.args.out.now _ c.from_residual.result _ refl c.from_residual.ensures.1 c.in_err-extend_from_slice.ensures.err.0

pub returns-in_err-extend_from_slice-2-clause-encodes : goal.returns-in_err-extend_from_slice-2-clause-encodes
returns-in_err-extend_from_slice-2-clause-encodes c =
    ran_out _ c.args.out.now _ c.from_residual-in_err-extend_from_slice-2.result _ refl c.from_residual-in_err-extend_from_slice-2.ensures.1 c.in_err-extend_from_slice-2.ensures.err.0

pub returns-in_err-extend_from_slice-clause-appended : goal.returns-in_err-extend_from_slice-clause-appended
returns-in_err-extend_from_slice-clause-appended c = on_err c.from_residual.result (rw c.in_err-extend_from_slice.ensures.err.1 (extends_itself c.args.out.now))

pub returns-in_err-extend_from_slice-2-clause-appended : goal.returns-in_err-extend_from_slice-2-clause-appended
returns-in_err-extend_from_slice-2-clause-appended c =
    on_err c.from_residual-in_err-extend_from_slice-2.result (rw c.in_err-extend_from_slice-2.ensures.err.1 (_, c.in_ok-extend_from_slice.ensures.ok))
