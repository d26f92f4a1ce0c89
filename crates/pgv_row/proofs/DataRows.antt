-- The body of a DataRow is read as a row exactly where it is that row.
use Rattle.std.proofs.Common.{◌≡◌, ◌≢◌, ℕ, ℤ, ◌≤◌, Bool, true, false, cond, nat_lt, nat_eq, List, [], ◌++◌, length, take, drop, Option, Some, None, Result, Ok, Err, refl, sym, ap, ◌∙◌, subst, append-nil}
use Rattle.std.specs.Prelude.{flat_map, not, ok_or, IfErr}
use Rattle.std.specs.Int.{w16, w32, to_be_bytes, from_be_bytes, cast_signed}
use Rattle.std.proofs.lemmas.Bool.{le-ltb}
use Rattle.pgv_value.specs.FrameBinary.{Part, front, front_length, frame_fault, field_bytes, FitsLength}
use Rattle.pgv_value.specs.FrameLaws.{AreBytes}
use Rattle.pgv_value.specs.declared.error.CodecError.{CodecError}
use Rattle.pgv_value.specs.declared.error.CodecError.TheVariants.{Memory, FieldCount, NegativeLength, Short, WrongLength}
use Rattle.pgv_value.proofs.Numbers.{bytes_after}
use Rattle.pgv_row.proofs.FrameCounts.{frames_read, frames_are}
use Rattle.pgv_row.specs.DataRow.{IsDataRow, data_row, DataRowIsRead, frames_front}
use Rattle.pgv_value.specs.Fronts.{one_part, part_front, u16_front}
use Rattle.pgv_value.specs.Outcome.{Outcome, Gives, GivesWhole, stated, in_place, allocates, fails_if, done, ◌>>=◌, ◌>>◌}
use Rattle.pgv_value.specs.Parsed.{Parsed, ◌>>=◌ as ◌and_then◌}
use Rattle.pgv_value.specs.Several.{several}
use Rattle.pgv_value.proofs.ReadFronts.{reads_part, nothing_is}
use Rattle.pgv_value.proofs.Outcomes.{answer_is, taken, taken_exactly, tested, IsOther, free_then, other_then, only_memory, another}
use Rattle.pgv_value.proofs.Several.{are_several, several_read, never_allocate, never_out_of_memory}

row_by : (room width : ℕ) (bytes frames : List ℕ) (row : List Part) → frames_front width bytes ≡ Ok frames → (several one_part width frames).answer ≡ Ok (row, []) → (data_row room width bytes).answer ≡ Ok row
unfolding data_row
row_by room width bytes frames row count found = rw (count, found) refl

-- the frames of a row come after the number of columns
pub frames_of_row : (width : ℕ) (bytes : List ℕ) (row : List Part) → AreBytes bytes → IsDataRow width bytes row → (frames : List ℕ) × (frames_front width bytes ≡ Ok frames) × ((several one_part width frames).answer ≡ Ok (row, []))
frames_of_row width bytes row h s =
    let frames : List ℕ = flat_map field_bytes row in
    let whole : bytes ≡ to_be_bytes w16 width ++ frames = s.whole ∙ ap (λ (n : ℕ). to_be_bytes w16 n ++ frames) s.wide in
    let left : AreBytes frames = bytes_after (to_be_bytes w16 width) frames (subst AreBytes whole h) in (
      frames,
      frames_read width bytes frames s.width_fits whole,
      several_read FitsLength field_bytes one_part reads_part width frames row [] left (record { many = s.wide; each = s.each; whole = sym (append-nil frames) }),
    )

is_read : (room width : ℕ) (bytes : List ℕ) (row : List Part) → AreBytes bytes → IsDataRow width bytes row → (data_row room width bytes).answer ≡ Ok row
is_read room width bytes row h s =
    let f = frames_of_row width bytes row h s in
    row_by room width bytes f.0 row f.1 f.2

is_row : (room width : ℕ) (bytes : List ℕ) (row : List Part) → AreBytes bytes → (data_row room width bytes).answer ≡ Ok row → IsDataRow width bytes row
unfolding data_row
is_row room width bytes row h e =
    let a = taken_exactly (frames_front width bytes) _ row e in
    let k = frames_are width bytes a.0 h a.1 in
    let b = taken (several one_part width a.0) _ row a.2 in
    let t = tested (not (nat_eq (length b.0.1) 0)) (WrongLength (length bytes)) (done b.0.0) row b.2 in
    let left : AreBytes a.0 = bytes_after (to_be_bytes w16 width) a.0 (subst AreBytes k.1 h) in
    let p = are_several FitsLength field_bytes one_part reads_part width a.0 b.0.0 b.0.1 left b.1 in
    let row_is : b.0.0 ≡ row = answer_is {A = List Part} b.0.0 row t.1 in
    let frames : a.0 ≡ flat_map field_bytes b.0.0 = p.whole ∙ ap (λ (xs : List ℕ). flat_map field_bytes b.0.0 ++ xs) (nothing_is b.0.1 t.0) ∙ append-nil (flat_map field_bytes b.0.0) in
    subst (IsDataRow width bytes) row_is (record {
      whole = k.1 ∙ ap (λ (xs : List ℕ). to_be_bytes w16 width ++ xs) frames ∙ ap (λ (n : ℕ). to_be_bytes w16 n ++ flat_map field_bytes b.0.0) (sym p.many);
      wide = p.many;
      width_fits = k.0;
      each = p.each;
    })

-- frames after the number of columns are those of a row
pub row_of_frames : (width : ℕ) (bytes frames : List ℕ) (row : List Part) → AreBytes bytes → frames_front width bytes ≡ Ok frames → (several one_part width frames).answer ≡ Ok (row, []) → IsDataRow width bytes row
row_of_frames width bytes frames row h count found = is_row 0 width bytes row h (row_by 0 width bytes frames row count found)

pub data_row_is_read : DataRowIsRead
unfolding DataRowIsRead
data_row_is_read room width bytes row h = (is_row room width bytes row h, is_read room width bytes row h)

-- ---- memory

abbrev NotMemory : {A : Type 0} → Parsed A → Type 0
NotMemory p = IfErr p (λ e. e ≢ Memory)

stated_is_other : {A : Type 0} (p : Parsed A) → NotMemory p → IsOther (stated p)
stated_is_other (Ok x) other = tt
stated_is_other (Err e) other = λ is. other (let same : e ≡ Memory = cc in same)

or_other : {A : Type 0} (o : Option A) (e : CodecError) → e ≢ Memory → NotMemory (let p : Parsed A = ok_or o e in p)
or_other (Some x) e other = tt
or_other None e other = other

test_is_other : {A : Type 0} (b : Bool) (p q : Parsed A) → NotMemory p → NotMemory q → NotMemory (cond b p q)
test_is_other true p q left right = left
test_is_other false p q left right = right

and_then_is_other : {A B : Type 0} (p : Parsed A) (f : A → Parsed B) → NotMemory p → ((x : A) → NotMemory (f x)) → NotMemory (p and_then f)
and_then_is_other (Ok x) f left right = right x
and_then_is_other (Err e) f left right = left

fault_is_other : (x y : Bool) (z : ℤ) → cond {A = CodecError} x Short (cond y (NegativeLength z) Short) ≢ Memory
fault_is_other true y z e = absurd cc
fault_is_other false true z e = absurd cc
fault_is_other false false z e = absurd cc

part_is_other : (bytes : List ℕ) → IsOther (one_part bytes).answer
part_is_other bytes = stated_is_other (part_front bytes) (or_other (front bytes) (frame_fault bytes) (fault_is_other (nat_lt (length bytes) 4) (nat_lt 2147483647 (front_length bytes)) (cast_signed w32 (front_length bytes))))

short_is_other : Short ≢ Memory
short_is_other e = absurd cc

count_is_other : FieldCount ≢ Memory
count_is_other e = absurd cc

u16_is_other : (bytes : List ℕ) → NotMemory (u16_front bytes)
unfolding u16_front
u16_is_other bytes = test_is_other (nat_lt (length bytes) 2) (Err Short) (Ok (from_be_bytes w16 (take 2 bytes), drop 2 bytes)) short_is_other tt

frames_are_other : (width : ℕ) (bytes : List ℕ) → NotMemory (frames_front width bytes)
unfolding frames_front
frames_are_other width bytes = and_then_is_other (u16_front bytes) _ (u16_is_other bytes) (λ count. test_is_other (nat_eq count.0 width) (Ok count.1) (Err FieldCount) tt count_is_other)

rest_is_other : {B : Type 0} (b : Bool) (n : ℕ) (o : Outcome B) → IsOther o.answer → IsOther (fails_if b (WrongLength n) >> o).answer
rest_is_other true n o other = λ is. absurd cc
rest_is_other false n o other = other

row_is_other : (room width : ℕ) (bytes : List ℕ) → IsOther (data_row room width bytes).answer
unfolding data_row
row_is_other room width bytes =
    other_then (in_place (frames_front width bytes)) _ (stated_is_other (frames_front width bytes) (frames_are_other width bytes)) (λ frames.
    other_then (several one_part width frames) _ (never_out_of_memory one_part part_is_other width frames) (λ row. rest_is_other (not (nat_eq (length row.1) 0)) (length bytes) (done row.0) tt))

abbrev end_of : ℕ → List Part × List ℕ → Outcome (List Part)
end_of n row = fails_if (not (nat_eq (length row.1) 0)) (WrongLength n) >> done row.0

end_is_free : {B : Type 0} (b : Bool) (n : ℕ) (x : B) → (fails_if b (WrongLength n) >> done x).may_alloc ≡ false
end_is_free true n x = refl
end_is_free false n x = refl

parts_are_free : (room width n : ℕ) (frames : List ℕ) → nat_lt room width ≡ false → (allocates (nat_lt room width) >> (several one_part width frames >>= end_of n)).may_alloc ≡ false
parts_are_free room width n frames enough =
    rw enough (free_then (several one_part width frames) (end_of n) (never_allocate one_part (λ b. refl) width frames) (λ row. end_is_free (not (nat_eq (length row.1) 0)) n row.0))

row_is_free : (room width : ℕ) (bytes : List ℕ) → nat_lt room width ≡ false → (data_row room width bytes).may_alloc ≡ false
unfolding data_row
row_is_free room width bytes enough =
    free_then (in_place (frames_front width bytes)) (λ frames. allocates (nat_lt room width) >> (several one_part width frames >>= end_of (length bytes))) refl (λ frames. parts_are_free room width (length bytes) frames enough)

-- ---- as a reader answers

module _ {V : Type 0} (view : V → List Part) (room width : ℕ) (bytes : List ℕ) where
  pub row_read : (result : Result V CodecError) → AreBytes bytes → Gives view (data_row room width bytes) result → GivesWhole view (data_row room width bytes) (IsDataRow width bytes) result
  row_read (Ok v) h gives = (gives, (is_row room width bytes (view v) h gives, λ row s. answer_is {A = List Part} (view v) row (sym gives ∙ is_read room width bytes row h s)))
  row_read (Err e) h gives = (gives, λ row s. (only_memory (data_row room width bytes) e row (is_read room width bytes row h s) gives).0)

  pub enough_room : (result : Result V CodecError) → Gives view (data_row room width bytes) result → width ≤ room → IfErr result (λ e. e ≢ Memory)
  enough_room (Ok v) gives le = tt
  enough_room (Err e) gives le = another (data_row room width bytes) e (row_is_other room width bytes) (row_is_free room width bytes (le-ltb room width le)) gives
