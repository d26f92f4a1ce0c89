-- What is read from an array or a record in text is what its characters are.
use Rattle.std.proofs.Common.{◌≡◌, ℕ, Bool, true, false, ◌==◌, List, [], ◌∷◌, drop, length, Option, Some, Result, Ok, refl, sym, ◌∙◌, ap, subst}
use Rattle.std.specs.Prelude.{not, ok_or, if◌then◌else◌}
use Rattle.std.proofs.lemmas.Bool.{eq-eqb, eqb-true}
use Rattle.pgv_types.specs.Ty.{Ty, by_oid}
use Rattle.pgv_text.specs.NestLaws.{ArrayIsItsValues, RecordIsItsValues}
use Rattle.pgv_text.specs.NestPieces.{Pairwise}
use Rattle.pgv_text.specs.Copies.{copies_of}
use Rattle.pgv_text.specs.Values.{array_values, record_values}
use Rattle.pgv_text.specs.declared.scanner.TextForm.TheVariants.{Record}
use Rattle.pgv_value.specs.FrameBinary.{Part}
use Rattle.pgv_value.specs.Outcome.{Outcome, Reads, done, fails}
use Rattle.pgv_value.specs.Text.{is_utf8}
use Rattle.pgv_value.specs.ValueView.{Given, given}
use Rattle.pgv_value.specs.declared.error.CodecError.{CodecError}
use Rattle.pgv_value.specs.declared.error.CodecError.TheVariants.{Utf8, Syntax, ElementCount}
use Rattle.pgv_value.specs.declared.value.PgValueFormat.TheVariants.{Text}
use Rattle.pgv_value.proofs.Outcomes.{answer_is, answers_are, taken, taken_exactly, tested, found_or}
use Rattle.pgv_codec.specs.ArrayGrammar.{array_in_text, each, parse_array, parse_sized}
use Rattle.pgv_codec.specs.NestText.{IsArrayInText, IsSizedInText, TextStretch, IsTextField, ◌before◌, IsRecordInText, TextIs, RecordTextBegins, TextFieldIsItsValue, FindInText}
use Rattle.pgv_codec.specs.RecordGrammar.{Left, text_fields, next_field, begin_fields, parse_record, ◌then◌}
use Rattle.pgv_codec.specs.RecordLemmas.{held}

-- ---- arrays

module _ {M : Type 0} (parse : Given → Outcome M) (t : Ty) where
  abbrev ReadsPart : Part → M → Type 0
  ReadsPart part m = Reads parse (given t Text part) m

  each_is : (parts : List Part) (ms : List M) → (each parse t parts).answer ≡ Ok ms → Pairwise ReadsPart parts ms
  unfolding each
  each_is [] ms e = subst (λ (ns : List M). Pairwise ReadsPart [] ns) (answer_is {A = List M} [] ms e) tt
  each_is (part ∷ parts) ms e =
      let a = taken (parse (given t Text part)) _ ms e in
      let b = taken (each parse t parts) _ ms a.2 in
      subst (λ (ns : List M). Pairwise ReadsPart (part ∷ parts) ns) (answer_is (a.0 ∷ b.0) ms b.2) (a.1, each_is parts b.0 b.1)

  each_there : (parts : List Part) (ms : List M) → Pairwise ReadsPart parts ms → (each parse t parts).answer ≡ Ok ms
  unfolding each
  each_there [] [] h = refl
  each_there [] (m ∷ ms) h = absurd h
  each_there (part ∷ parts) [] h = absurd h
  each_there (part ∷ parts) (m ∷ ms) h = rw (h.0, each_there parts ms h.1) refl

pub whole_text : {A : Type 0} (b : Bool) (o : Outcome A) (y : A) → (if b then o else fails Utf8).answer ≡ Ok y → (b ≡ true) × (o.answer ≡ Ok y)
whole_text true o y e = (refl, e)
whole_text false o y e = absurd cc

module _ (law : ArrayIsItsValues) {M : Type 0} (info : Ty) (parse : Given → Outcome M) where
  pub array_text : TextIs (parse_array info parse) (IsArrayInText parse info)
  unfolding TextIs array_in_text ArrayIsItsValues
  array_text t bytes ms = (
    λ e.
        let u = whole_text (is_utf8 bytes) (array_in_text parse info bytes) ms e in
        let v = taken_exactly (ok_or (array_values bytes) Syntax) _ ms u.1 in
        record { elements = v.0; utf8 = u.0; whole = (law bytes v.0).0 (found_or (array_values bytes) Syntax v.0 v.1); each = each_is parse info v.0 ms v.2 },
    λ h. rw (h.utf8, (law bytes h.elements).1 h.whole, each_there parse info h.elements ms h.each) refl,
  )

  pub sized_text : (n : ℕ) → TextIs (parse_sized n info parse) (IsSizedInText n parse info)
  unfolding TextIs
  sized_text n t bytes ms = (
    λ e.
        let a = taken (parse_array info parse (given t Text (Some bytes))) _ ms e in
        let b = tested (not (length a.0 == n)) (ElementCount (length a.0)) _ ms a.2 in
        let same = answer_is a.0 ms b.1 in
        ((array_text t bytes ms).0 (a.1 ∙ ap (λ (ns : List M). let r : Result (List M) (Option CodecError) = Ok ns in r) same), ap length (sym same) ∙ eqb-true (length a.0) n (held _ b.0)),
    λ h. rw ((array_text t bytes ms).1 h.0, h.1, eq-eqb n n refl) refl,
  )

-- ---- records

module _ (law : RecordIsItsValues) where
  pub text_begins : RecordTextBegins
  unfolding RecordTextBegins RecordIsItsValues
  text_begins t bytes left = (
    λ e.
        let u = tested (not (is_utf8 bytes)) Utf8 _ left e in
        let v = taken_exactly (ok_or (record_values bytes) Syntax) _ left u.1 in
        (v.0, sym (answer_is (text_fields (length v.0) (copies_of Record bytes) v.0) left v.2), held _ u.0, (law bytes v.0).0 (found_or (record_values bytes) Syntax v.0 v.1)),
    λ h. rw (h.2, (law bytes h.0).1 h.3) (ap (λ (l : Left). let r : Result Left (Option CodecError) = Ok l in r) (sym h.1)),
  )

pub text_field : {M : Type 0} (accepts : Ty → Bool) (parse : Given → Outcome M) → TextFieldIsItsValue accepts parse
text_field accepts parse n copied [] m left = (λ e. absurd cc, λ h. absurd cc)
text_field {M} accepts parse n copied (part ∷ parts) m left = (
  λ e.
      let b = taken (parse (given (by_oid 0) Text part)) (λ (x : M). done (x, text_fields n (drop 1 copied) parts)) (m, left) e in
      let k = answers_are b.0 m (text_fields n (drop 1 copied) parts) left b.2 in
      (parts, sym k.1, (part, refl, b.1 ∙ ap (λ (x : M). let r : Result M (Option CodecError) = Ok x in r) k.0)),
  λ h.
      let same : part ∷ parts ≡ h.2.0 ∷ h.0 = h.2.1 in
      let first : part ≡ h.2.0 = cc in
      let others : parts ≡ h.0 = cc in
      rw (first, h.2.2, h.1, others) refl,
)

pub one_field_text : {M : Type 0} (accepts : Ty → Bool) (parse : Given → Outcome M) → FindInText (next_field accepts parse) (IsTextField parse)
one_field_text accepts parse n copied parts m = (
  λ left e. let h = (text_field accepts parse n copied parts m left).0 e in (drop 1 copied, h.0, h.1, h.2),
  λ rest h. (drop 1 copied, (text_field accepts parse n copied parts m (text_fields n (drop 1 copied) rest)).1 (rest, refl, h)),
)

pub further_text :
    {A B : Type 0} (accepts : Ty → Bool) (parse : Given → Outcome A) (steps : Left → Outcome (B × Left)) (fields : TextStretch B) →
    FindInText steps fields → FindInText (next_field accepts parse then steps) (IsTextField parse before fields)
further_text {A} {B} accepts parse steps fields found n copied parts m = (
  λ left e.
      let one = taken (next_field accepts parse (text_fields n copied parts)) _ (m, left) e in
      let further = taken (steps one.0.1) _ (m, left) one.2 in
      let both_are = answers_are {A = A × B} {B = Left} (one.0.0, further.0.0) m further.0.1 left further.2 in
      let k = (text_field accepts parse n copied parts one.0.0 one.0.1).0 one.1 in
      let after : (steps (text_fields n (drop 1 copied) k.0)).answer ≡ Ok (further.0.0, further.0.1) = ap (λ (l : Left). (steps l).answer) (sym k.1) ∙ further.1 in
      let rest = (found n (drop 1 copied) k.0 further.0.0).0 further.0.1 after in
      (rest.0, rest.1, ◌∙◌ {c = text_fields n rest.0 rest.1} (sym both_are.1) rest.2, subst (λ (x : A × B). (IsTextField parse before fields) parts x rest.1) both_are.0 (k.0, k.2, rest.3)),
  λ rest h.
      let one = (text_field accepts parse n copied parts m.0 (text_fields n (drop 1 copied) h.0)).1 (h.0, refl, h.1) in
      let further = (found n (drop 1 copied) h.0 m.1).1 rest h.2 in
      (further.0, rw (one, further.1) refl),
)

pub record_text : {M : Type 0} (law : RecordIsItsValues) (steps : Left → Outcome (M × Left)) (fields : TextStretch M) → FindInText steps fields → TextIs (parse_record steps) (IsRecordInText fields)
unfolding TextIs RecordTextBegins
record_text {M} law steps fields found t bytes m = (
  λ e.
      let start = taken (begin_fields (given t Text (Some bytes))) _ m e in
      let x = taken (steps start.0) _ m start.2 in
      let b = (text_begins law t bytes start.0).0 start.1 in
      let first : (steps (text_fields (length b.0) (copies_of Record bytes) b.0)).answer ≡ Ok (x.0.0, x.0.1) = ap (λ (l : Left). (steps l).answer) (sym b.1) ∙ x.1 in
      let k = (found (length b.0) (copies_of Record bytes) b.0 x.0.0).0 x.0.1 first in
      record { parts = b.0; rest = k.1; utf8 = b.2; whole = b.3; read = subst (λ (y : M). fields b.0 y k.1) (answer_is x.0.0 m x.2) k.3 },
  λ h.
      let start = (text_begins law t bytes (text_fields (length h.parts) (copies_of Record bytes) h.parts)).1 (h.parts, refl, h.utf8, h.whole) in
      let x = (found (length h.parts) (copies_of Record bytes) h.parts m).1 h.rest h.read in
      rw (start, x.1) refl,
)
