use mir.Val.{SFits}
use Rattle.std.proofs.Common.{◌≡◌, ◌∙◌, ◌++◌, ℕ, ℤ, List, Some, rules, refl, ap}
use Rattle.std.specs.Int.{w32, w64, cast_signed, cast_unsigned, to_be_bytes}
use Rattle.std.proofs.lemmas.Int.{to_z-of_z}
use Rattle.pgv_buf.specs.Tokens.{blank, bytes}
use Rattle.pgv_value.specs.declared.interval.PgInterval.{PgInterval}
use Rattle.pgv_value.specs.OwnBytesLemmas.{signed_fits}
use Rattle.pgv_codec.specs.Encoding.{image_of}
use Rattle.pgv_codec.specs.Intervals.{interval_image}
use Rattle.pgv_codec.specs.PlainBytes.{appended_parts}
use Rattle.pgv_codec.proofs.Extensions.{extends_further, extends_itself, on_err, ran_out}
use Rattle.pgv_codec.proofs.types.interval.write_interval.Goals as goal

image_is : (i : PgInterval) (a b d : List ℕ) → SFits w64 i.microseconds → SFits w32 i.days → SFits w32 i.months →
    a ≡ to_be_bytes w64 (cast_unsigned w64 (cast_signed w64 (cast_unsigned w64 i.microseconds))) → b ≡ to_be_bytes w32 (cast_unsigned w32 (cast_signed w32 (cast_unsigned w32 i.days))) →
    d ≡ to_be_bytes w32 (cast_unsigned w32 (cast_signed w32 (cast_unsigned w32 i.months))) →
    interval_image i ≡ Some (image_of (bytes (a ++ (b ++ d))))
image_is i a b d f g h e k l =
    let first = e ∙ ap (λ (z : ℤ). to_be_bytes w64 (cast_unsigned w64 z)) (to_z-of_z w64 i.microseconds f) in
    let second = k ∙ ap (λ (z : ℤ). to_be_bytes w32 (cast_unsigned w32 z)) (to_z-of_z w32 i.days g) in
    let third = l ∙ ap (λ (z : ℤ). to_be_bytes w32 (cast_unsigned w32 z)) (to_z-of_z w32 i.months h) in
    rw (signed_fits w64 i.microseconds f, signed_fits w32 i.days g, signed_fits w32 i.months h, first, second, third) refl

pub returns-clause-encodes : goal.returns-clause-encodes
returns-clause-encodes c =
    let i = c.args.interval in
    let a = c.to_be_bytes.result in
    let b = c.to_be_bytes-2.result in
    let d = c.to_be_bytes-3.result in
    let two = appended_parts c.extend_from_slice.new.self c.extend_from_slice-2.new.self c.extend_from_slice-3.new.self b d c.in_ok-extend_from_slice-2.ensures.ok c.in_ok-extend_from_slice-3.ensures.ok in
    let all = appended_parts c.args.out.now c.extend_from_slice.new.self c.extend_from_slice-3.new.self a (b ++ d) c.in_ok-extend_from_slice.ensures.ok two in
    (bytes (a ++ (b ++ d)), rw (image_is i a b d (search rules) (search rules) (search rules) c.to_be_bytes.ensures c.to_be_bytes-2.ensures c.to_be_bytes-3.ensures) refl, all)

pub returns-in_err-extend_from_slice-clause-encodes : goal.returns-in_err-extend_from_slice-clause-encodes
returns-in_err-extend_from_slice-clause-encodes c =
    ran_out _ c.args.out.now _ c.from_residual.result _ refl c.from_residual.ensures.1 c.in_err-extend_from_slice.ensures.err.0

pub returns-in_err-extend_from_slice-2-clause-encodes : goal.returns-in_err-extend_from_slice-2-clause-encodes
returns-in_err-extend_from_slice-2-clause-encodes c =
    ran_out _ c.args.out.now _ c.from_residual-in_err-extend_from_slice-2.result _ refl c.from_residual-in_err-extend_from_slice-2.ensures.1 c.in_err-extend_from_slice-2.ensures.err.0

pub returns-in_err-extend_from_slice-3-clause-encodes : goal.returns-in_err-extend_from_slice-3-clause-encodes
returns-in_err-extend_from_slice-3-clause-encodes c =
    ran_out _ c.args.out.now _ c.from_residual-in_err-extend_from_slice-3.result _ refl c.from_residual-in_err-extend_from_slice-3.ensures.1 c.in_err-extend_from_slice-3.ensures.err.0

pub returns-in_err-extend_from_slice-clause-appended : goal.returns-in_err-extend_from_slice-clause-appended
returns-in_err-extend_from_slice-clause-appended c = on_err c.from_residual.result (rw c.in_err-extend_from_slice.ensures.err.1 (extends_itself c.args.out.now))

pub returns-in_err-extend_from_slice-2-clause-appended : goal.returns-in_err-extend_from_slice-2-clause-appended
returns-in_err-extend_from_slice-2-clause-appended c =
    on_err c.from_residual-in_err-extend_from_slice-2.result (rw c.in_err-extend_from_slice-2.ensures.err.1 (blank (bytes c.to_be_bytes.result), c.in_ok-extend_from_slice.ensures.ok))

pub returns-in_err-extend_from_slice-3-clause-appended : goal.returns-in_err-extend_from_slice-3-clause-appended
returns-in_err-extend_from_slice-3-clause-appended c =
    let two =
    extends_further c.args.out.now c.extend_from_slice.new.self c.extend_from_slice-2.new.self (blank (bytes c.to_be_bytes.result), c.in_ok-extend_from_slice.ensures.ok) (blank (bytes c.to_be_bytes-2.result), c.in_ok-extend_from_slice-2.ensures.ok) in
    on_err c.from_residual-in_err-extend_from_slice-3.result (rw c.in_err-extend_from_slice-3.ensures.err.1 two)
