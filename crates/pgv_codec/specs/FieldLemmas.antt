-- For a caller that writes a record field by field: the record's image, from what each call ensures.
use Rattle.std.specs.Prelude.{◌≡◌, ℕ, ◌+◌, List, [], ◌∷◌, ◌++◌, length, Option, Result, Ok, refl}
use Rattle.std.proofs.Common.{sym, ap, ◌∙◌, arith, append_assoc}
use Rattle.std.proofs.lemmas.List.{append-nil, length-append}
use Rattle.pgv_buf.specs.Tokens.{Token, Cell, blank, bytes, be4}
use Rattle.pgv_value.specs.Outcome.{Outcome, done, ◌>>=◌}
use Rattle.pgv_value.proofs.Outcomes.{answer_is, taken}
use Rattle.pgv_value.specs.declared.error.CodecError.{CodecError}
use Rattle.pgv_codec.specs.Encoding.{counted_field, fields_from, record_image, image_of}
use Rattle.pgv_codec.specs.Appending.{Encoded}
use Rattle.pgv_codec.specs.Record.{RecordWriting, begun, so_far, with_fields, AddsField, WritesFields}
use Rattle.pgv_codec.specs.declared.buffer.IsNull.TheVariants.{No}

-- these fields have been written after what was there
pub record HasFields (was : List Cell) (fs : List (Outcome (List Token))) (w : RecordWriting) : Type 0 where
  pub before_is : w.before ≡ was
  pub count_is : w.count ≡ length fs
  pub fields_are : (fields_from 0 fs).answer ≡ Ok w.fields

pub no_fields : {was : List Cell} {w : RecordWriting} → w ≡ begun was → HasFields was [] w
no_fields {was} {w} e = rw e (record { before_is = refl; count_is = refl; fields_are = refl })

-- a step that is taken
bound : {A B : Type 0} (o : Outcome A) (next : A → Outcome B) (x : A) → o.answer ≡ Ok x → (o >>= next).answer ≡ (next x).answer
bound o next x is = rw is refl

-- one more after those that are written
one_more : (n : ℕ) (fs : List (Outcome (List Token))) (f : Outcome (List Token)) (before ts : List Token) → (fields_from n fs).answer ≡ Ok before → (counted_field (n + length fs) f).answer ≡ Ok ts →
    (fields_from n (fs ++ f ∷ [])).answer ≡ Ok (before ++ ts)
one_more n [] f before ts e h =
    let z : n + 0 ≡ n = omega arith in
    let f_is : (counted_field n f).answer ≡ Ok ts = ap (λ (k : ℕ). (counted_field k f).answer) (sym z) ∙ h in
    bound (counted_field n f) (λ first. fields_from (n + 1) [] >>= λ others. done (first ++ others)) ts f_is
    ∙ ap (λ (r : List Token). let o : Result (List Token) (Option CodecError) = Ok r in o) (append-nil ts ∙ ap (λ (r : List Token). r ++ ts) (answer_is [] before e))
one_more n (x ∷ fs) f before ts e h =
    let a = taken (counted_field n x) (λ first. fields_from (n + 1) fs >>= λ others. done (first ++ others)) before e in
    let b = taken (fields_from (n + 1) fs) (λ others. done (a.0 ++ others)) before a.2 in
    let next : n + length (x ∷ fs) ≡ (n + 1) + length fs = omega arith in
    let more = one_more (n + 1) fs f b.0 ts b.1 (ap (λ (k : ℕ). (counted_field k f).answer) (sym next) ∙ h) in
    bound (counted_field n x) (λ first. fields_from (n + 1) (fs ++ f ∷ []) >>= λ others. done (first ++ others)) a.0 a.1
    ∙ (bound (fields_from (n + 1) (fs ++ f ∷ [])) (λ others. done (a.0 ++ others)) (b.0 ++ ts) more
    ∙ ap (λ (r : List Token). let o : Result (List Token) (Option CodecError) = Ok r in o) (sym (append_assoc a.0 b.0 ts) ∙ ap (λ (r : List Token). r ++ ts) (answer_is _ before b.2)))

pub more_fields : {was : List Cell} {fs : List (Outcome (List Token))} {w w' : RecordWriting} (f : Outcome (List Token)) → HasFields was fs w → AddsField (counted_field w.count f) w w' → HasFields was (fs ++ f ∷ []) w'
more_fields {was} {fs} {w} {w'} f h a =
    let count : w.count ≡ 0 + length fs = h.count_is ∙ omega arith in
    rw a.2 (record {
      before_is = h.before_is;
      count_is = ap (λ n. n + 1) h.count_is ∙ sym (length-append fs (f ∷ []));
      fields_are = one_more 0 fs f w.fields a.0 h.fields_are (ap (λ n. (counted_field n f).answer) (sym count) ∙ a.1);
    })

pub all_fields : {was now : List Cell} {fs : List (Outcome (List Token))} {w : RecordWriting} → HasFields was fs w → now ≡ so_far w → Encoded No (record_image fs) was now
unfolding record_image
all_fields {was} {now} {fs} {w} h e = (
  bytes (be4 (length fs)) ++ w.fields,
  rw h.fields_are refl,
  e ∙ rw (h.before_is, h.count_is) refl,
)

-- the record of fields that were written one after another from the first on
pub record_written : {was now : List Cell} (fs : List (Outcome (List Token))) {w w' : RecordWriting} → w ≡ begun was → WritesFields fs w w' (Ok tt) → now ≡ so_far w' → Encoded No (record_image fs) was now
unfolding record_image
record_written {was} {now} fs {w} {w'} e a n =
    let from_start : (fields_from 0 fs).answer ≡ Ok a.0 = ap (λ (v : RecordWriting). (fields_from v.count fs).answer) (sym e) ∙ a.1 in
    let count : 0 + length fs ≡ length fs = omega arith in
    let left : w' ≡ with_fields (begun was) (length fs) a.0 = a.2 ∙ ap (λ (v : RecordWriting). with_fields v (length fs) a.0) e in (
      bytes (be4 (length fs)) ++ a.0,
      bound (fields_from 0 fs) (λ all. done (image_of (bytes (be4 (length fs)) ++ all))) a.0 from_start,
      n ∙ (ap so_far left ∙ ap (λ (k : ℕ). was ++ blank (bytes (be4 k) ++ a.0)) count),
    )
