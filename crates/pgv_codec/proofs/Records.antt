-- A record that is being written.
use Rattle.std.proofs.Common.{◌≡◌, ◌≢◌, ℕ, List, ◌++◌, refl, sym, ◌∙◌, ap, append_assoc, inl}
use Rattle.std.proofs.lemmas.Bool.{ne_eqb}
use Rattle.pgv_buf.specs.declared.Mark.{Mark}
use Rattle.pgv_buf.specs.Tokens.{Token, Cell, bytes, be4, blank, fixed_bytes, width, hole_count, slot_count}
use Rattle.pgv_buf.specs.Blank.{blank-append, plain-blank}
use Rattle.pgv_buf.specs.Marks.{mark_of}
use Rattle.pgv_codec.specs.TokenLemmas.{front_is, rest_after_is}
use Rattle.pgv_value.specs.Outcome.{Outcome, Fails}
use Rattle.pgv_value.specs.declared.error.CodecError.TheVariants.{FieldCount}
use Rattle.pgv_codec.specs.Encoding.{counted_field}
use Rattle.pgv_codec.specs.Record.{RecordWriting, writing_at, IsOpen}

-- what is being written, where the buffer is known
pub writing_is : (m : Mark) (n : ℕ) (now was : List Cell) (fs : List Token) → m ≡ mark_of was → now ≡ was ++ blank (bytes (be4 n) ++ fs) → writing_at m n now ≡ record { before = was; count = n; fields = fs }
unfolding writing_at
writing_is m n now was fs e f =
    rw (e, f, front_is was (blank (bytes (be4 n) ++ fs)) (width was) (hole_count was) (slot_count was) refl refl refl, rest_after_is was (blank (bytes (be4 n) ++ fs)) (width was) (hole_count was) (slot_count was) refl refl refl, plain-blank fs) refl

pub open_by : (m : Mark) (n : ℕ) (now was : List Cell) (fs : List Token) → m ≡ mark_of was → now ≡ was ++ blank (bytes (be4 n) ++ fs) → IsOpen m n now
open_by m n now was fs e f = rw (writing_is m n now was fs e f) (e, f)

-- the parts of the buffer with one more field, and with its count in place
pub parts : (m : Mark) (n : ℕ) (was now : List Cell) (ts : List Token) → IsOpen m n was → now ≡ was ++ blank ts →
    now ≡ (writing_at m n was).before ++ fixed_bytes (be4 n) ++ blank ((writing_at m n was).fields ++ ts)
unfolding writing_at
parts m n was now ts o e =
    let w : RecordWriting = writing_at m n was in
    e ∙ (ap (λ r. r ++ blank ts) o.1 ∙ (append_assoc w.before (blank (bytes (be4 n) ++ w.fields)) (blank ts)
    ∙ (ap (λ r. w.before ++ (fixed_bytes (be4 n) ++ r)) (sym (blank-append w.fields ts)) ∙ sym (append_assoc w.before (fixed_bytes (be4 n)) (blank (w.fields ++ ts))))))

pub counted : (n : ℕ) (before next : List Cell) (fs : List Token) → next ≡ before ++ fixed_bytes (be4 n) ++ blank fs → next ≡ before ++ blank (bytes (be4 n) ++ fs)
counted n before next fs e = e ∙ append_assoc before (fixed_bytes (be4 n)) (blank fs)

pub field_counted : (n : ℕ) (f : Outcome (List Token)) → n ≢ 4294967295 → counted_field n f ≡ f
field_counted n f l = rw (ne_eqb n 4294967295 l) refl

pub full_field : (n : ℕ) (f : Outcome (List Token)) → n ≡ 4294967295 → Fails FieldCount (counted_field n f)
full_field n f e = rw e (inl refl)
