-- What is plain fits.
use Rattle.std.proofs.Common.{◌≡◌, ℕ, Bool, List, map, Option, Some, None, refl, sym, ◌∙◌, ap}
use Rattle.std.proofs.lemmas.Option.{same_Some}
use Rattle.pgv_types.specs.Ty.{Ty}
use Rattle.pgv_types.specs.Facts.{built_in, oid_of, element_of}
use Rattle.pgv_types.specs.declared.oid.Oid.{Oid}
use Rattle.pgv_codec.specs.ArrayGrammar.{element_type}
use Rattle.pgv_codec.specs.Back.{ArrayFits, FieldFits, written_oid}
use Rattle.pgv_codec.specs.NestBinary.{HasFieldType, of_record, of_composite, of_domain}
use Rattle.pgv_codec.specs.Encoding.{Encoding, value_type, written_element}
use Rattle.pgv_codec.specs.PlainFit.{ArrayIsPlain, HasField, in_composite, in_domain, in_record, FieldIsPlain}

element_is : (t u : Ty) (oid : ℕ) (o : Option Ty) → built_in oid ≡ o → element_of t ≡ Some u → ((other : Ty) → built_in oid ≡ Some other → other ≡ u) → element_type t oid ≡ Some u
element_is t u oid None o_is e own = rw (o_is, element_type) e
element_is t u oid (Some other) o_is e own = rw (o_is, element_type) (ap (λ (x : Ty). let r : Option Ty = Some x in r) (own other o_is))

field_is : (place oid : ℕ) (u t : Ty) → HasField place u t → oid_of u ≡ Some oid → HasFieldType place oid u t
field_is place oid u t (in_composite own name fields e) f = of_composite own name fields e f
field_is place oid u t (in_domain own name base h) f = of_domain own name base (field_is place oid u base h f)
field_is place oid u t (in_record other e b) f =
    let same : other ≡ oid = same_Some other oid (sym e ∙ f) in
    of_record (ap built_in (sym same) ∙ b)

module _ {A : Type 0} (info : Ty) (encoding : A → Encoding) (fits : A → Ty → List Oid → Type 0) where
  pub array_fits : (xs : List A) (t : Ty) (os : List Oid) → ArrayIsPlain info encoding fits xs t os → ArrayFits info encoding fits xs t os
  array_fits xs t os h = (h.0, element_is t h.0 (written_oid (oid_of (written_element info (map encoding xs))) os) _ refl h.1 h.2.1, h.3)

  pub field_fits : (accepts : Ty → Bool) (x : A) (t : Ty) (place : ℕ) (os : List Oid) → FieldIsPlain info encoding accepts fits x t place os → FieldFits info encoding accepts fits x t place os
  field_fits accepts x t place os h = (h.0, field_is place (written_oid (oid_of (value_type info (encoding x))) os) h.0 t h.1 h.2, h.3, h.4)
