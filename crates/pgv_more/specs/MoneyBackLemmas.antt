-- What is written of an amount of money is read back as it.
use Rattle.std.specs.Prelude.{◌≡◌, true, ℤ, Option, Some, ok_or}
use Rattle.std.specs.Int.{w64, cast_unsigned, to_be_bytes}
use Rattle.std.proofs.Common.{ap, ◌∙◌}
use Rattle.pgv_buf.specs.Tokens.{bytes}
use Rattle.pgv_value.specs.FrameBinary.{Part}
use Rattle.pgv_value.specs.IntBinary.{fits_signed}
use Rattle.pgv_value.specs.Outcome.{ok_of, reading_of, stated, without_memory}
use Rattle.pgv_value.specs.Parsed.{Parsed}
use Rattle.pgv_value.specs.declared.error.CodecError.TheVariants.{Short}
use Rattle.pgv_value.specs.OwnBytesLemmas.{eight_again}
use Rattle.pgv_value.specs.declared.value.PgValueFormat.TheVariants.{Binary}
use Rattle.pgv_codec.specs.Back.{ReadsBack, always, image_is}
use Rattle.pgv_codec.specs.PartBackLemmas.{guarded}
use Rattle.pgv_codec.specs.ScalarBackLemmas.{part_is}
use Rattle.pgv_codec.specs.Encoding.{image_of, plainly, writes}
use Rattle.pgv_codec.specs.ScalarImage.{signed_image}
use Rattle.pgv_more.specs.MoneyCodec.{money_in_binary, parse_money}
use Rattle.pgv_more.specs.declared.money.PgMoney.{PgMoney}

money_again : (v : ℤ) → fits_signed w64 v ≡ true → money_in_binary (to_be_bytes w64 (cast_unsigned w64 v)) ≡ Some v
money_again v room = ap (λ (n : ℤ). Some n) (eight_again v room)

pub money_back : ReadsBack {A = PgMoney} (λ amount. plainly (writes (signed_image w64 amount.0))) (reading_of (without_memory parse_money)) (λ amount. amount.0) always
money_back v i t p os e whole small fit =
    let form = to_be_bytes w64 (cast_unsigned w64 v.0) in
    let g = guarded (fits_signed w64 v.0) (Some (image_of (bytes form))) i (image_is (signed_image w64 v.0) i e) in
    ap (λ (part : Part). reading_of (without_memory parse_money) t Binary part) (part_is form i p os g.1)
    ∙ ap (λ (o : Option ℤ). ok_of (stated (let p : Parsed ℤ = ok_or o Short in p))) (money_again v.0 g.0)
