-- A plain type of one's own: its values are not made of others, as a number or a text.
use Rattle.std.specs.Prelude.{◌≡◌, Bool, None}
use Rattle.pgv_types.specs.Ty.{Ty}
use Rattle.pgv_value.specs.Outcome.{Outcome, fails, reading_of}
use Rattle.pgv_value.specs.ValueView.{Given, given}
use Rattle.pgv_value.specs.declared.error.CodecError.TheVariants.{UnexpectedNull}
use Rattle.pgv_value.specs.declared.value.PgValueFormat.{PgValueFormat as Format}
use Rattle.pgv_codec.specs.Back.{ReadsBack, always}
use Rattle.pgv_codec.specs.Encoding.{Image, plainly}

-- What such a type is: the type of its values and that of their arrays; the types under which values are read; what a
-- value says; what is written of that, or why it is refused; what null or bytes are read as, or why they are refused;
-- that null is refused with C13 and without memory; and that what is written of a value is read back as the same.
pub record PlainRules (A : Type 0) : Type 1 where
  pub info : Ty
  pub array_info : Ty
  pub accepts : Ty → Bool
  pub View : Type 0
  pub view : A → View
  pub image : View → Outcome Image
  pub parse : Given → Outcome View
  pub null : (t : Ty) (format : Format) → parse (given t format None) ≡ fails UnexpectedNull
  pub back : ReadsBack (λ v. plainly (image (view v))) (reading_of parse) view always
