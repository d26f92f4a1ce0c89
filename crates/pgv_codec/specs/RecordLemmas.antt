-- What is read from a record in binary is what its bytes are.
use Rattle.std.proofs.Common.{◌≡◌, ℕ, suc, Bool, true, false, List, ◌++◌, length, Option, Some, None, Result, Ok, refl, sym, ◌∙◌, ap, subst}
use Rattle.std.specs.Int.{w32, to_be_bytes}
use Rattle.std.specs.Prelude.{◌↔◌, ◌==◌, not, ok_or, if◌then◌else◌}
use Rattle.std.proofs.lemmas.Bool.{eqb-true}
use Rattle.pgv_types.specs.Ty.{Ty, builtin, custom, named, by_oid, array_of, Kind, simple, pseudo, domain, composite, array, enumeration, range}
use Rattle.pgv_types.specs.Facts.{built_in, has_oid, is_oid, oid_of}
use Rattle.pgv_value.specs.FrameBinary.{IsFrame}
use Rattle.pgv_value.specs.Fronts.{u32_front, value_front}
use Rattle.pgv_value.specs.FrameLaws.{AreBytes}
use Rattle.pgv_value.specs.Outcome.{Outcome, done, fails, or_fail}
use Rattle.pgv_value.specs.ValueView.{Given, given}
use Rattle.pgv_value.specs.declared.error.CodecError.{CodecError}
use Rattle.pgv_value.specs.declared.error.CodecError.TheVariants.{NotARecord, NoField, FieldOid, FieldTypeUnknown, MismatchedTypes}
use Rattle.pgv_value.specs.declared.value.PgValueFormat.TheVariants.{Binary}
use Rattle.pgv_value.proofs.Numbers.{number_of_four, bytes_after, after_four, after_frame}
use Rattle.pgv_value.proofs.Outcomes.{answer_is, answers_are, taken, taken_exactly, tested, found_or, stated_is}
use Rattle.pgv_value.proofs.ValueFronts.{u32_is, u32_splits, value_is}
use Rattle.pgv_codec.specs.FoundLemmas.{field_type_there, field_there, next_there}
use Rattle.pgv_codec.specs.NestBinary.{FindExactly, HasFieldType, of_record, of_custom_record, of_composite, of_domain, Stretch, IsRecordField, ◌and◌, RecordIsItsFields, FieldIsItsValue, OneField, RecordBegins}
use Rattle.pgv_codec.specs.RecordGrammar.{field_at, composite_field, field_type, field_type_in, field_head, field_in_binary, Left, binary_fields, next_field, begin_fields, parse_record, ◌then◌}

-- ---- the types of fields

pub held : (b : Bool) → not b ≡ false → b ≡ true
held true e = refl
held false e = absurd cc

record_type : (own oid : ℕ) (found : Ty) (b : Bool) → (own == 2249) ≡ b →
    (if b then or_fail (built_in oid) (FieldTypeUnknown (record { 0 = oid })) else fails NotARecord).answer ≡ Ok found → (own ≡ 2249) × (built_in oid ≡ Some found)
record_type own oid found true e f = (eqb-true own 2249 e, found_or (built_in oid) (FieldTypeUnknown (record { 0 = oid })) found (read f))
  where
    read : (or_fail (built_in oid) (FieldTypeUnknown (record { 0 = oid }))).answer ≡ Ok found → (let p : Result Ty CodecError = ok_or (built_in oid) (FieldTypeUnknown (record { 0 = oid })) in p) ≡ Ok found
    read is = stated_is _ found is
record_type own oid found false e f = absurd cc

own_field : (at : Option Ty) (place oid : ℕ) (found : Ty) → (composite_field place at oid).answer ≡ Ok found → (at ≡ Some found) × (oid_of found ≡ Some oid)
own_field None place oid found e = absurd cc
own_field (Some t) place oid found e =
    let k = tested (not (has_oid oid t)) FieldOid _ found e in
    let t_is = answer_is t found k.1 in
    (ap (λ (u : Ty). let o : Option Ty = Some u in o) t_is, ap oid_of (sym t_is) ∙ known (oid_of t) oid (held _ k.0))
  where
    known : (own : Option ℕ) (oid : ℕ) → is_oid own oid ≡ true → own ≡ Some oid
    known None oid e = absurd cc
    known (Some own) oid e = ap Some (eqb-true own oid e)

mutual
  field_type_is : (t : Ty) (place oid : ℕ) (found : Ty) → (field_type t place oid).answer ≡ Ok found → HasFieldType place oid found t
  field_type_is (builtin own) place oid found e =
      let k = record_type own oid found _ refl e in
      subst (λ (o : ℕ). HasFieldType place oid found (builtin o)) (sym k.0) (of_record k.1)
  field_type_is (custom own name kind) place oid found e = kind_is own name kind place oid found e
  field_type_is (named name) place oid found e = absurd cc
  field_type_is (by_oid own) place oid found e = absurd cc
  field_type_is (array_of name) place oid found e = absurd cc

  kind_is : (own : ℕ) (name : List ℕ) (kind : Kind) (place oid : ℕ) (found : Ty) → (field_type_in own kind place oid).answer ≡ Ok found → HasFieldType place oid found (custom own name kind)
  kind_is own name simple place oid found e =
      let k = record_type own oid found _ refl e in
      subst (λ (o : ℕ). HasFieldType place oid found (custom o name simple)) (sym k.0) (of_custom_record name k.1)
  kind_is own name pseudo place oid found e = absurd cc
  kind_is own name (domain base) place oid found e = of_domain own name base (field_type_is base place oid found e)
  kind_is own name (composite fields) place oid found e =
      let k = own_field (field_at fields place) place oid found e in
      of_composite own name fields k.0 k.1
  kind_is own name (array element) place oid found e = absurd cc
  kind_is own name (enumeration labels) place oid found e = absurd cc
  kind_is own name (range element) place oid found e = absurd cc

pub field_type_found : (t : Ty) (place oid : ℕ) (found : Ty) → ((field_type t place oid).answer ≡ Ok found) ↔ HasFieldType place oid found t
field_type_found t place oid found = (field_type_is t place oid found, field_type_there place oid found t)

-- ---- fields

module _ {M : Type 0} (accepts : Ty → Bool) (parse : Given → Outcome M) (t : Ty) (place : ℕ) where
  field_is : (bytes : List ℕ) (m : M) (rest : List ℕ) → AreBytes bytes → (field_in_binary accepts parse t place bytes).answer ≡ Ok (m, rest) → IsRecordField accepts parse t place bytes m rest
  unfolding field_in_binary field_head
  field_is bytes m rest b e =
      let h = taken (field_head t place bytes) _ (m, rest) e in
      let some = tested (length bytes == 0) (NoField place) _ h.0 h.1 in
      let oid = taken_exactly (u32_front bytes) _ h.0 some.1 in
      let o = u32_is bytes oid.0 b oid.1 in
      let own = taken (field_type t place oid.0.0) _ h.0 oid.2 in
      let h_is = answer_is {A = Ty × List ℕ} (own.0, oid.0.1) h.0 own.2 in
      let accepted = tested (not (accepts h.0.0)) MismatchedTypes _ (m, rest) h.2 in
      let value = taken_exactly (value_front h.0.0 Binary h.0.1) _ (m, rest) accepted.1 in
      let read = taken (parse value.0.0) _ (m, rest) value.2 in
      let k = answers_are read.0 m value.0.1 rest read.2 in
      let whole : bytes ≡ to_be_bytes w32 oid.0.0 ++ h.0.1 = o.1 ∙ ap (λ (x : Ty × List ℕ). to_be_bytes w32 oid.0.0 ++ x.1) h_is in
      let v = value_is h.0.0 h.0.1 value.0.0 value.0.1 (after_four oid.0.0 bytes h.0.1 whole b) value.1 in
      record {
        oid = oid.0.0;
        own = h.0.0;
        part = v.0;
        rest_after = h.0.1;
        whole = whole;
        framed = subst (λ (r : List ℕ). IsFrame h.0.1 v.0 r) k.1 v.1;
        oid_fits = o.0;
        typed = field_type_is t place oid.0.0 h.0.0 (own.1 ∙ ap (λ (x : Ty × List ℕ). let r : Result Ty (Option CodecError) = Ok x.0 in r) h_is);
        accepted = held (accepts h.0.0) accepted.0;
        read = ap (λ (g : Given). (parse g).answer) v.2 ∙ (read.1 ∙ ap (λ (x : M). let r : Result M (Option CodecError) = Ok x in r) k.0);
      }

  after_field : (bytes : List ℕ) (m : M) (rest : List ℕ) → IsRecordField accepts parse t place bytes m rest → AreBytes bytes → AreBytes rest
  after_field bytes m rest f b = after_frame f.rest_after f.part rest f.framed (after_four f.oid bytes f.rest_after f.whole b)

  -- one step
  next_is : (bytes : List ℕ) (m : M) (left : Left) → AreBytes bytes → (next_field accepts parse (binary_fields t place bytes)).answer ≡ Ok (m, left) →
      (rest : List ℕ) × (left ≡ binary_fields t (suc place) rest) × IsRecordField accepts parse t place bytes m rest
  next_is bytes m left b e =
      let x = taken (field_in_binary accepts parse t place bytes) _ (m, left) e in
      let k = answers_are x.0.0 m (binary_fields t (suc place) x.0.1) left x.2 in
      (x.0.1, sym k.1, subst (λ (y : M). IsRecordField accepts parse t place bytes y x.0.1) k.0 (field_is bytes x.0.0 x.0.1 b x.1))

-- ---- records

begins : (t : Ty) (bytes : List ℕ) (left : Left) → (begin_fields (given t Binary (Some bytes))).answer ≡ Ok left →
    (count rest : List ℕ) × (bytes ≡ count ++ rest) × (length count ≡ 4) × (binary_fields t 0 rest ≡ left)
begins t bytes left e =
    let c = taken_exactly (u32_front bytes) (λ (x : ℕ × List ℕ). done (binary_fields t 0 x.1)) left e in
    let four = u32_splits bytes c.0 c.1 in
    (four.0, c.0.1, four.1, four.2, answer_is (binary_fields t 0 c.0.1) left c.2)

place_is : (t : Ty) (a b : List ℕ) → binary_fields t 0 a ≡ binary_fields t 0 b → a ≡ b
place_is t a b e = cc

pub field_is_its_value : {M : Type 0} (accepts : Ty → Bool) (parse : Given → Outcome M) → FieldIsItsValue accepts parse
unfolding FieldIsItsValue
field_is_its_value accepts parse t place bytes m rest b = (field_is accepts parse t place bytes m rest b, field_there accepts parse t place bytes m rest)

pub one_field_value : {M : Type 0} (accepts : Ty → Bool) (parse : Given → Outcome M) → OneField accepts parse
unfolding OneField
one_field_value accepts parse t place bytes m n rest others f g = answers_are m n rest others (sym (field_there accepts parse t place bytes m rest f) ∙ field_there accepts parse t place bytes n others g)

pub record_begins : RecordBegins
unfolding RecordBegins
record_begins t bytes rest = (
  λ e.
      let k = begins t bytes (binary_fields t 0 rest) e in
      (k.0, k.2 ∙ ap (λ (r : List ℕ). k.0 ++ r) (place_is t k.1 rest k.4), k.3),
  λ h. rw (h.1, number_of_four h.0 rest h.2) refl,
)

pub one_found : {M : Type 0} (accepts : Ty → Bool) (parse : Given → Outcome M) → FindExactly (next_field accepts parse) (IsRecordField accepts parse)
one_found accepts parse t place bytes m b = (
  λ h.
      let k = next_is accepts parse t place bytes m h.0 b h.1 in
      (k.0, k.2),
  λ h. (binary_fields t (suc place) h.0, next_there accepts parse t place bytes m h.0 h.1),
)

pub further_found :
    {A B : Type 0} (accepts : Ty → Bool) (parse : Given → Outcome A) (steps : Left → Outcome (B × Left)) (fields : Stretch B) →
    FindExactly steps fields → FindExactly (next_field accepts parse then steps) (IsRecordField accepts parse and fields)
further_found {A} {B} accepts parse steps fields found t place bytes m b = (
  λ h.
      let one = taken (next_field accepts parse (binary_fields t place bytes)) _ (m, h.0) h.1 in
      let further = taken (steps one.0.1) _ (m, h.0) one.2 in
      let both_are = answers_are {A = A × B} {B = Left} (one.0.0, further.0.0) m further.0.1 h.0 further.2 in
      let k = next_is accepts parse t place bytes one.0.0 one.0.1 b one.1 in
      let after : (steps (binary_fields t (suc place) k.0)).answer ≡ Ok (further.0.0, further.0.1) = ap (λ (left : Left). (steps left).answer) (sym k.1) ∙ further.1 in
      let rest = (found t (suc place) k.0 further.0.0 (after_field accepts parse t place bytes one.0.0 k.0 k.2 b)).0 (further.0.1, after) in
      subst (λ (x : A × B). (rest : List ℕ) × (IsRecordField accepts parse and fields) t place bytes x rest) both_are.0 (rest.0, (k.0, k.2, rest.1)),
  λ h.
      let one = next_there accepts parse t place bytes m.0 h.1.0 h.1.1 in
      let further = (found t (suc place) h.1.0 m.1 (after_field accepts parse t place bytes m.0 h.1.0 h.1.1 b)).1 (h.0, h.1.2) in
      (further.0, rw (one, further.1) refl),
)

pub record_found : {M : Type 0} (steps : Left → Outcome (M × Left)) (fields : Stretch M) → FindExactly steps fields → RecordIsItsFields (parse_record steps) fields
unfolding RecordIsItsFields
record_found {M} steps fields found t bytes m b = (
  λ e.
      let start = taken (begin_fields (given t Binary (Some bytes))) _ m e in
      let x = taken (steps start.0) _ m start.2 in
      let k = begins t bytes start.0 start.1 in
      let first : (steps (binary_fields t 0 k.1)).answer ≡ Ok (x.0.0, x.0.1) = ap (λ (left : Left). (steps left).answer) k.4 ∙ x.1 in
      let rest = (found t 0 k.1 x.0.0 (bytes_after k.0 k.1 (subst AreBytes k.2 b))).0 (x.0.1, first) in
      (k.0, k.1, rest.0, k.2, k.3, subst (λ (y : M). fields t 0 k.1 y rest.0) (answer_is x.0.0 m x.2) rest.1),
  λ h.
      let steps_taken = (found t 0 h.1 m (bytes_after h.0 h.1 (subst AreBytes h.3 b))).1 (h.2, h.5) in
      rw (h.3, number_of_four h.0 h.1 h.4, steps_taken.1) refl,
)
