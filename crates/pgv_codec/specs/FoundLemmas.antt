-- What is in bytes is found there: numbers, arrays and the fields of records.
use Rattle.std.specs.Prelude.{◌≡◌, ◌==◌, ℕ, suc, ◌<◌, ◌^◌, Bool, false, nat_lt, List, [], ◌∷◌, ◌++◌, length, Some, Ok, refl}
use Rattle.std.specs.Int.{w32, to_be_bytes}
use Rattle.std.proofs.Common.{inl, inr, arith}
use Rattle.std.proofs.lemmas.Bool.{le-ltb, eq-eqb}
use Rattle.std.proofs.lemmas.Bool.Decides.{nat_tests}
use Rattle.pgv_types.specs.Ty.{Ty}
use Rattle.pgv_value.specs.FrameBinary.{max_length}
use Rattle.pgv_value.specs.Outcome.{Outcome}
use Rattle.pgv_value.specs.ValueView.{Given}
use Rattle.pgv_value.proofs.Fronts.{frame_in_front}
use Rattle.pgv_value.proofs.Numbers.{number_of_four, number_there}
use Rattle.pgv_codec.specs.ArrayGrammar.{element_type, one_dimension, head, parse_frames, elements, array_in_binary}
use Rattle.pgv_codec.specs.NestBinary.{BeginWithFrames, IsArray, HasFieldType, of_record, of_custom_record, of_composite, of_domain, IsRecordField}
use Rattle.pgv_codec.specs.RecordGrammar.{field_type, field_head, field_in_binary, binary_fields, next_field}

-- ---- arrays

module _ {M : Type 0} (parse : Given → Outcome M) where
  pub frames_there : (t : Ty) (bytes : List ℕ) (ms : List M) → BeginWithFrames parse t bytes ms → (parse_frames parse t (length ms) bytes).answer ≡ Ok ms
  unfolding parse_frames
  frames_there t bytes [] h = refl
  frames_there t bytes (m ∷ ms) h = rw (frame_in_front bytes h.0 h.1 h.2, h.3, frames_there t h.1 ms h.4) refl

pub one_dimension_there :
    (t : Ty) (flags parse_frames : List ℕ) (oid n : ℕ) (element : Ty) → length flags ≡ 4 → oid < 2 ^ 32 → n < 2 ^ 31 → element_type t oid ≡ Some element →
    (one_dimension t (flags ++ (to_be_bytes w32 oid ++ (to_be_bytes w32 n ++ (to_be_bytes w32 1 ++ parse_frames))))).answer ≡ Ok (record { element = element; count = n; frames = parse_frames })
unfolding one_dimension
one_dimension_there t flags parse_frames oid n element four oid_fits count_fits typed =
    let small : nat_lt max_length n ≡ false = le-ltb _ _ (omega arith) in
    rw (number_of_four flags (to_be_bytes w32 oid ++ (to_be_bytes w32 n ++ (to_be_bytes w32 1 ++ parse_frames))) four, number_there oid (to_be_bytes w32 n ++ (to_be_bytes w32 1 ++ parse_frames)) oid_fits, typed, number_there n (to_be_bytes w32 1 ++ parse_frames) (omega arith), small, number_there 1 parse_frames (omega arith)) refl

module _ {M : Type 0} (parse : Given → Outcome M) where
  pub array_there : (t : Ty) (bytes : List ℕ) (ms : List M) → IsArray parse t bytes ms → (array_in_binary parse t bytes).answer ≡ Ok ms
  unfolding array_in_binary head elements
  array_there t bytes ms (inl h) = rw (h.1, h.2, number_there 0 h.0 (omega arith)) refl
  array_there t bytes ms (inr h) =
      let rest_after : List ℕ = h.flags ++ (to_be_bytes w32 h.oid ++ (to_be_bytes w32 (length ms) ++ (to_be_bytes w32 1 ++ h.frames))) in
      rw (h.whole, number_there 1 rest_after (omega arith), one_dimension_there t h.flags h.frames h.oid (length ms) h.element h.four_flags h.oid_fits h.count_fits h.typed)
      (frames_there parse h.element h.frames ms h.framed)

-- ---- the fields of records

pub field_type_there : (place oid : ℕ) (found t : Ty) → HasFieldType place oid found t → (field_type t place oid).answer ≡ Ok found
field_type_there place oid found t (of_record e) = rw e refl
field_type_there place oid found t (of_custom_record name e) = rw e refl
field_type_there place oid found t (of_composite own name _ e f) = rw (e, f, eq-eqb oid oid refl) refl
field_type_there place oid found t (of_domain own name base h) = field_type_there place oid found base h

-- bytes that begin with a number are some
has_bytes : (n : ℕ) (rest : List ℕ) → length (to_be_bytes w32 n ++ rest) == 0 ≡ false
has_bytes n rest = grind (arith, nat_tests)

module _ {M : Type 0} (accepts : Ty → Bool) (parse : Given → Outcome M) (t : Ty) (place : ℕ) where
  pub field_there : (bytes : List ℕ) (m : M) (rest : List ℕ) → IsRecordField accepts parse t place bytes m rest → (field_in_binary accepts parse t place bytes).answer ≡ Ok (m, rest)
  unfolding field_in_binary field_head
  field_there bytes m rest f =
      rw (f.whole, has_bytes f.oid f.rest_after, number_there f.oid f.rest_after f.oid_fits, field_type_there place f.oid f.own t f.typed, f.accepted, frame_in_front f.rest_after f.part rest f.framed, f.read) refl

  pub next_there : (bytes : List ℕ) (m : M) (rest : List ℕ) → IsRecordField accepts parse t place bytes m rest → (next_field accepts parse (binary_fields t place bytes)).answer ≡ Ok (m, binary_fields t (suc place) rest)
  next_there bytes m rest f = rw (field_there bytes m rest f) refl
