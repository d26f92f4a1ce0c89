use mir.Val.{SFits}
use Rattle.std.proofs.Common.{◌≡◌, ℤ, List, Result, rules, subst, sym}
use Rattle.std.proofs.lemmas.Int.{to_z-of_z}
use Rattle.std.specs.Int.{w16}
use Rattle.pgv_buf.specs.Tokens.{Cell}
use Rattle.pgv_value.specs.declared.error.CodecError.{CodecError}
use Rattle.pgv_codec.specs.Appending.{Encodes}
use Rattle.pgv_codec.specs.declared.buffer.IsNull.{IsNull}
use Rattle.pgv_more.specs.Numeric.{number, numeric_image, numeric_of}
use Rattle.pgv_more.specs.declared.numeric.PgNumericSign.{PgNumericSign}
use Rattle.pgv_more.specs.declared.numeric.PgNumeric.{PgNumeric}
use Rattle.pgv_more.proofs.numeric.codec.PgNumericEncode.encode_by_ref.Goals as goal

-- a number of the same digits, weight and scale is encoded so
encodes_same :
    (sign : PgNumericSign) (ds es : List ℤ) (v w s t : ℤ) (out new : List Cell) (result : Result IsNull CodecError) → ds ≡ es → v ≡ w → s ≡ t →
    Encodes (numeric_image (number sign ds v s)) out new result → Encodes (numeric_image (number sign es w t)) out new result
encodes_same sign ds es v w s t out new result a b c told =
    subst (λ (xs : List ℤ). Encodes (numeric_image (number sign xs w t)) out new result) a
    (subst (λ (x : ℤ). Encodes (numeric_image (number sign ds x t)) out new result) b (subst (λ (x : ℤ). Encodes (numeric_image (number sign ds v x)) out new result) c told))

pub returns-in-Number-clause-encodes : goal.returns-in-Number-clause-encodes
returns-in-Number-clause-encodes c =
    let n = c.in-Number in
    let weight_fits : SFits w16 n.weight = search rules in
    let scale_fits : SFits w16 n.scale = search rules in
    subst (λ (v : PgNumeric). Encodes (numeric_image (numeric_of v)) c.args.out.now c.write_number.new.out c.write_number.result) (sym n.is)
    (encodes_same n.sign c.as_slice.result.now n.digits.items _ n.weight _ n.scale c.args.out.now c.write_number.new.out c.write_number.result c.as_slice.ensures.value
    (to_z-of_z w16 n.weight weight_fits) (to_z-of_z w16 n.scale scale_fits) c.write_number.ensures.encodes)
