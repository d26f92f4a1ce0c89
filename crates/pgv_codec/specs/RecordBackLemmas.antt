-- The laws of a record's fields, over the law of each field's value.
use Rattle.std.specs.Prelude.{◌≡◌, ℕ, ◌+◌, suc, ◌==◌, Bool, List, ◌∷◌, ◌++◌, length, drop, Option, Ok, refl}
use Rattle.std.proofs.Common.{sym, ap, ◌∙◌, subst, append_assoc}
use Rattle.std.proofs.lemmas.List.{drop-drop}
use Rattle.pgv_types.specs.Ty.{Ty}
use Rattle.pgv_types.specs.Facts.{oid_of}
use Rattle.pgv_types.specs.declared.oid.Oid.{Oid}
use Rattle.pgv_buf.specs.Tokens.{Token, bytes, be4, tokens_holes}
use Rattle.pgv_value.specs.Outcome.{Outcome, ok_of, reading_of, done, ◌>>=◌}
use Rattle.pgv_value.specs.declared.error.CodecError.TheVariants.{FieldCount}
use Rattle.pgv_value.proofs.Outcomes.{answer_is, taken, tested}
use Rattle.pgv_value.specs.ValueView.{Given, given}
use Rattle.pgv_value.specs.declared.value.PgValueFormat.TheVariants.{Binary}
use Rattle.pgv_codec.specs.Writing.{write}
use Rattle.pgv_codec.specs.Back.{AreOids, SlotsFit, ImageFits, ReadsBack, holes_in, holes_of, holes_among, written_oid, oids_after, FieldFits, Followed, FieldReadsBack, FieldsBack, RecordReadsBack, RecordFieldsFollow}
use Rattle.pgv_codec.specs.PartBackLemmas.{type_written, oids_left, frame_parts, image_parts, tokens_holes-append, SlotsFit-front, SlotsFit-back, AreOids-drop, AreOids-after, frame_back}
use Rattle.pgv_codec.specs.FoundLemmas.{next_there}
use Rattle.pgv_value.proofs.Numbers.{number_of_four}
use Rattle.pgv_codec.specs.NestBinary.{IsRecordField}
use Rattle.pgv_value.specs.FrameBinary.{IsFrame, null_length}
use Rattle.pgv_codec.specs.Encoding.{Encoding, Image, null_image, image_of, frame, frame_of, typed, value_type, field, counted_field, fields_from, record_image, most_fields}
use Rattle.pgv_codec.specs.Writing.{image_holes, written_part}
use Rattle.pgv_codec.specs.RecordGrammar.{Left, binary_fields, next_field, begin_fields, parse_record, ◌then◌}

-- ---- the tokens of a record

-- a field is written, and the further ones
one_by_one : (n : ℕ) (f : Outcome (List Token)) (fs : List (Outcome (List Token))) (ts : List Token) → (fields_from n (f ∷ fs)).answer ≡ Ok ts →
    (g : List Token) × (gs : List Token) × (f.answer ≡ Ok g) × ((fields_from (n + 1) fs).answer ≡ Ok gs) × (g ++ gs ≡ ts)
one_by_one n f fs ts e =
    let a = taken (counted_field n f) (λ first. fields_from (n + 1) fs >>= λ others. done (first ++ others)) ts e in
    let b = taken (fields_from (n + 1) fs) (λ others. done (a.0 ++ others)) ts a.2 in
    (a.0, b.0, (tested (n == most_fields) FieldCount f a.0 a.1).1, b.1, answer_is _ ts b.2)

record_parts : (fs : List (Outcome (List Token))) (i : Image) → (record_image fs).answer ≡ Ok i → (gs : List Token) × ((fields_from 0 fs).answer ≡ Ok gs) × (image_of (bytes (be4 (length fs)) ++ gs) ≡ i)
unfolding record_image
record_parts fs i e =
    let a = taken (fields_from 0 fs) (λ all. done (image_of (bytes (be4 (length fs)) ++ all))) i e in
    (a.0, a.1, answer_is _ i a.2)

-- ---- one field

field_parts : (info : Ty) (e : Encoding) (g : List Token) → (field info e).answer ≡ Ok g → (ys : List Token) × (f : List Token) × ((typed (value_type info e)).answer ≡ Ok ys) × ((frame e).answer ≡ Ok f) × (ys ++ f ≡ g)
unfolding field
field_parts info e g is =
    let a = taken (typed (value_type info e)) (λ oid. frame e >>= λ part. done (oid ++ part)) g is in
    let b = taken (frame e) (λ part. done (a.0 ++ part)) g a.2 in
    (a.0, b.0, a.1, b.1, answer_is _ g b.2)

image_frame_holes : (i : Image) (f : List Token) → (frame_of i).answer ≡ Ok f → tokens_holes f ≡ image_holes i
image_frame_holes null_image f e = rw (← answer_is (bytes (be4 null_length)) f e) refl
image_frame_holes (image_of ts) f e = rw (← (image_parts ts f e).1) refl

frame_holes : (e : Encoding) (f : List Token) → (frame e).answer ≡ Ok f → tokens_holes f ≡ holes_of e
frame_holes e f is =
    let a = frame_parts e f is in
    image_frame_holes a.0 f a.2 ∙ sym (ap (λ r. holes_in (ok_of r)) a.1)

module _ {A M : Type 0} (info : Ty) (encoding : A → Encoding) (accepts : Ty → Bool) (parse : Given → Outcome M) (kept : A → M) (fits : A → Ty → List Oid → Type 0) (law : ReadsBack encoding (reading_of parse) kept fits) where
  -- a field is read, and what comes after it is left, with the OIDs that are left
  pub is_field : (x : A) (g after : List Token) (t : Ty) (place : ℕ) (p : Option Ty) (os : List Oid) → (field info (encoding x)).answer ≡ Ok g → SlotsFit g → AreOids os → FieldFits info encoding accepts fits x t place os →
      IsRecordField accepts parse t place (write p os (g ++ after)) (kept x) (write p (drop (tokens_holes g) os) after)
  is_field x g after t place p os e whole small fit =
      let a = field_parts info (encoding x) g e in
      let w = value_type info (encoding x) in
      let left : List Oid = oids_after (oid_of w) os in
      let both : SlotsFit (a.0 ++ a.1) = subst SlotsFit (sym a.4) whole in
      let type_is = type_written w (oid_of w) a.0 (a.1 ++ after) p os small a.2 in
      let one = frame_back encoding parse kept fits law x a.1 after fit.0 p left a.3 (SlotsFit-back a.0 a.1 both) (AreOids-after (oid_of w) os small) fit.3 in
      let taken_are : drop (holes_of (encoding x)) left ≡ drop (tokens_holes g) os =
      ap (λ (r : List Oid). drop (holes_of (encoding x)) r) (sym (oids_left w (oid_of w) a.0 os a.2))
      ∙ (drop-drop _ _ os
      ∙ ap (λ (n : ℕ). drop n os) (ap (λ (n : ℕ). tokens_holes a.0 + n) (sym (frame_holes (encoding x) a.1 a.3)) ∙ (sym (tokens_holes-append a.0 a.1) ∙ ap tokens_holes a.4))) in
      record {
        oid = written_oid (oid_of w) os;
        own = fit.0;
        part = one.0;
        rest_after = write p left (a.1 ++ after);
        whole = ap (λ (r : List Token). write p os (r ++ after)) (sym a.4) ∙ (ap (λ (r : List Token). write p os r) (append_assoc a.0 a.1 after) ∙ type_is.1);
        framed = subst (λ (r : List Oid). IsFrame (write p left (a.1 ++ after)) one.0 (write p r after)) taken_are one.1;
        oid_fits = type_is.0;
        typed = fit.1;
        accepted = fit.2;
        read = one.2;
      }

  -- the next step reads it, and leaves what comes after it
  pub next_back : FieldReadsBack info encoding accepts parse kept fits
  unfolding FieldReadsBack
  next_back x g after t place p os e whole small fit =
      next_there accepts parse t place (write p os (g ++ after)) (kept x) (write p (drop (tokens_holes g) os) after) (is_field x g after t place p os e whole small fit)

  -- ---- fields, one after another

  -- the last field that is read
  pub last_back : (x : A) (fs : List (Outcome (List Token))) → FieldsBack (next_field accepts parse) (field info (encoding x) ∷ fs) (kept x) (FieldFits info encoding accepts fits x)
  unfolding FieldReadsBack
  last_back x fs = record {
    back = λ n t place p os gs e whole small fit.
        let a = one_by_one n (field info (encoding x)) fs gs e in
        let both : SlotsFit (a.0 ++ a.1) = subst SlotsFit (sym a.4) whole in
        let one = next_back x a.0 a.1 t place p os a.2 (SlotsFit-front a.0 a.1 both) small fit in
        (binary_fields t (suc place) (write p (drop (tokens_holes a.0) os) a.1), ap (λ (r : List Token). (next_field accepts parse (binary_fields t place (write p os r))).answer) (sym a.4) ∙ one);
  }

  -- a field, and further ones
  pub further_back : (x : A) {B : Type 0} {steps : Left → Outcome (B × Left)} {fs : List (Outcome (List Token))} {others : B} {fit : Ty → ℕ → List Oid → Type 0} → FieldsBack steps fs others fit →
      FieldsBack (next_field accepts parse then steps) (field info (encoding x) ∷ fs) (kept x, others) (Followed (FieldFits info encoding accepts fits x) (field info (encoding x)) fit)
  unfolding FieldReadsBack
  further_back x {B} {steps} {fs} {others} {fit} further = record {
    back = λ n t place p os gs e whole small fits_there.
        let a = one_by_one n (field info (encoding x)) fs gs e in
        let both : SlotsFit (a.0 ++ a.1) = subst SlotsFit (sym a.4) whole in
        let one = next_back x a.0 a.1 t place p os a.2 (SlotsFit-front a.0 a.1 both) small fits_there.0 in
        let left : List Oid = drop (tokens_holes a.0) os in
        let rest = further.back (n + 1) t (suc place) p left a.1 a.3 (SlotsFit-back a.0 a.1 both) (AreOids-drop (tokens_holes a.0) os small) (subst (λ r. fit t (suc place) (drop (holes_among (ok_of r)) os)) a.2 fits_there.1) in
        (rest.0, ap (λ (r : List Token). ((next_field accepts parse then steps) (binary_fields t place (write p os r))).answer) (sym a.4) ∙ rw (one, rest.1) refl);
  }

-- a record of fields, the first of which are read
pub record_back : {M : Type 0} {steps : Left → Outcome (M × Left)} {fs : List (Outcome (List Token))} {kept : M} {fit : Ty → ℕ → List Oid → Type 0} → FieldsBack steps fs kept fit → RecordReadsBack (reading_of (parse_record steps)) fs kept fit
record_back {M} {steps} {fs} {kept} {fit} fields i t p os e whole small fits_there =
    let a = record_parts fs i e in
    let gs_fit : SlotsFit a.0 = SlotsFit-back (bytes (be4 (length fs))) a.0 (subst ImageFits (sym a.2) whole) in
    let rest = fields.back 0 t 0 p os a.0 a.1 gs_fit small fits_there in
    rw (← a.2, number_of_four (be4 (length fs)) (write p os a.0) refl, rest.1) refl

-- the fields come after four bytes
pub fields_back : RecordFieldsFollow
fields_back fs i t p os e =
    let a = record_parts fs i e in
    let there : (begin_fields (given t Binary (written_part (image_of (bytes (be4 (length fs)) ++ a.0)) p os))).answer ≡ Ok (binary_fields t 0 (write p os a.0)) = rw (number_of_four (be4 (length fs)) (write p os a.0) refl) refl in
    (a.0, a.1, a.2, subst (λ (j : Image). (begin_fields (given t Binary (written_part j p os))).answer ≡ Ok (binary_fields t 0 (write p os a.0))) a.2 there)
