-- What is read in front leaves the end of the bytes.
use Rattle.std.proofs.Common.{get_or, suc, ◌≡◌, ℕ, ◌+◌, ◌-◌, ◌<◌, ◌≤◌, Bool, true, false, cond, nat_lt, List, [], ◌∷◌, length, take, drop, Option, Some, None, Ok, Err, refl, sym, ap, ◌∙◌, subst, arith}
use Rattle.std.specs.Prelude.{ℤ, bytes_eq}
use Rattle.std.proofs.lemmas.Bool.{ltb-false}
use Rattle.std.proofs.lemmas.List.{drop_all, drop-drop, length-drop, take_all}
use Rattle.std.proofs.lemmas.Option.{same_Some}
use Rattle.pgv_types.specs.Ty.{Ty}
use Rattle.pgv_value.specs.FrameBinary.{Part, front, front_length, frame_fault}
use Rattle.pgv_value.specs.Fronts.{i16_front, u32_front, part_front}
use Rattle.pgv_value.specs.Parsed.{Parsed, ◌>>=◌}
use Rattle.pgv_value.specs.ReadingSteps.{number, signed_two}
use Rattle.pgv_value.specs.ValueView.{Given}
use Rattle.pgv_value.specs.declared.error.CodecError.{CodecError}
use Rattle.pgv_value.specs.declared.error.CodecError.TheVariants.{Short, FieldCount}
use Rattle.pgv_value.proofs.Numbers.{test_failed}
use Rattle.pgv_value.proofs.Outcomes.{and_then_taken, failed, found_or, held, ok_is}
use Rattle.pgv_copy.specs.CopyBinary.{Step, signature, after_signature, after_flags, after_extension, after_count, field_in_front, fields, reader_before, reader_ended, step}
use Rattle.pgv_copy.specs.CopyPieces.{AreHeld, IsEnd, IsRowIn, after_begin, next_of, rest_after, row_at, row_by}
use Rattle.pgv_copy.proofs.FieldLoop.{field_of, with_first}

cut : (n : ℕ) (bytes rest : List ℕ) → n ≤ length bytes → drop n bytes ≡ rest → IsEnd bytes rest
cut n bytes rest le e = (n, le, sym e)

pub end_of_end : (a b c : List ℕ) → IsEnd a b → IsEnd b c → IsEnd a c
end_of_end a b c (n, le, is) (m, le_b, is_c) =
    let len : length b ≡ length a - n = ap length is ∙ length-drop n a in
    (n + m, omega (arith, le, le_b, len), is_c ∙ ap (drop m) is ∙ drop-drop m n a)

-- by how many bytes it is shorter
pub end_at : (bytes rest : List ℕ) → IsEnd bytes rest → rest ≡ drop (length bytes - length rest) bytes
end_at bytes rest (n, le, is) =
    let len : length rest ≡ length bytes - n = ap length is ∙ length-drop n bytes in
    let same : n ≡ length bytes - length rest = omega (arith, le, len) in
    is ∙ ap (λ (k : ℕ). drop k bytes) same

pub end_within : (bytes rest : List ℕ) → IsEnd bytes rest → length rest ≤ length bytes
end_within bytes rest (n, le, is) = let len : length rest ≡ length bytes - n = ap length is ∙ length-drop n bytes in omega (arith, len)

-- ---- numbers

number_end : (bytes rest : List ℕ) (n : ℕ) → u32_front bytes ≡ Ok (n, rest) → IsEnd bytes rest
unfolding number
number_end bytes rest n e =
    let t = test_failed (nat_lt (length bytes) 4) _ (n, rest) (found_or (number bytes) Short (n, rest) e) in
    cut 4 bytes rest (ltb-false (length bytes) 4 t.0) (ap (λ (p : ℕ × List ℕ). p.1) (same_Some {A = ℕ × List ℕ} _ _ t.1))

two_end : (bytes rest : List ℕ) (n : ℤ) → i16_front bytes ≡ Ok (n, rest) → IsEnd bytes rest
unfolding signed_two
two_end bytes rest n e =
    let t = test_failed (nat_lt (length bytes) 2) _ (n, rest) (found_or (signed_two bytes) Short (n, rest) e) in
    cut 2 bytes rest (ltb-false (length bytes) 2 t.0) (ap (λ (p : ℤ × List ℕ). p.1) (same_Some {A = ℤ × List ℕ} _ _ t.1))

-- ---- frames

part_end : (left rest : List ℕ) (n : ℕ) (part : Part) (x y z : Bool) → nat_lt (length left) n ≡ z →
    cond {A = Option (Part × List ℕ)} x (Some (None, left)) (cond y None (cond z None (Some (Some (take n left), drop n left)))) ≡ Some (part, rest) → IsEnd left rest
part_end left rest n part true y z short e = cut 0 left rest (omega arith) (ap (λ (p : Part × List ℕ). p.1) (same_Some {A = Part × List ℕ} _ _ e))
part_end left rest n part false true z short e = absurd cc
part_end left rest n part false false true short e = absurd cc
part_end left rest n part false false false short e = cut n left rest (ltb-false (length left) n short) (ap (λ (p : Part × List ℕ). p.1) (same_Some {A = Part × List ℕ} _ _ e))

front_end : (bytes rest : List ℕ) (part : Part) → front bytes ≡ Some (part, rest) → IsEnd bytes rest
unfolding front
front_end bytes rest part e =
    let t = test_failed (nat_lt (length bytes) 4) _ (part, rest) e in
    let long : 4 ≤ length bytes = ltb-false (length bytes) 4 t.0 in
    end_of_end bytes (drop 4 bytes) rest (cut 4 bytes (drop 4 bytes) long refl) (part_end (drop 4 bytes) rest (front_length bytes) part _ _ _ refl t.1)

field_end : (t : Ty) (bytes rest : List ℕ) (v : Given) → field_in_front t bytes ≡ Ok (v, rest) → IsEnd bytes rest
field_end t bytes rest v e =
    let p = and_then_taken {A = Part × List ℕ} (part_front bytes) _ (v, rest) e in
    let is : p.0.1 ≡ rest = ap (λ (x : Given × List ℕ). x.1) (ok_is {A = Given × List ℕ} _ _ p.2) in
    front_end bytes rest p.0.0 (found_or (front bytes) (frame_fault bytes) (p.0.0, rest) (p.1 ∙ ap (λ (xs : List ℕ). let r : Parsed (Part × List ℕ) = Ok (p.0.0, xs) in r) is))

pub fields_end : (types : List Ty) (bytes rest : List ℕ) (given : List Given) → fields types bytes ≡ Ok (given, rest) → IsEnd bytes rest
unfolding fields
fields_end [] bytes rest given e = cut 0 bytes rest (omega arith) (ap (λ (x : List Given × List ℕ). x.1) (ok_is {A = List Given × List ℕ} _ _ e))
fields_end (t ∷ types) bytes rest given e =
    let a = and_then_taken {A = Given × List ℕ} (field_in_front t bytes) _ (given, rest) e in
    let b = and_then_taken {A = List Given × List ℕ} (fields types a.0.1) _ (given, rest) a.2 in
    let is : b.0.1 ≡ rest = ap (λ (x : List Given × List ℕ). x.1) (ok_is {A = List Given × List ℕ} _ _ b.2) in
    end_of_end bytes a.0.1 rest (field_end t bytes a.0.1 a.0.0 a.1) (subst (IsEnd a.0.1) is (fields_end types a.0.1 b.0.1 b.0.0 b.1))

-- ---- the header, and the number of fields

signature_end : (bytes rest : List ℕ) → after_signature bytes ≡ Ok rest → IsEnd bytes rest
unfolding after_signature
signature_end bytes rest e =
    let long = failed (nat_lt (length bytes) 11) _ _ rest e in
    let same = held (bytes_eq (take 11 bytes) signature) _ _ rest long.1 in
    cut 11 bytes rest (ltb-false (length bytes) 11 long.0) (ok_is {A = List ℕ} _ _ same.1)

flags_end : (bytes rest : List ℕ) → after_flags bytes ≡ Ok rest → IsEnd bytes rest
unfolding after_flags
flags_end bytes rest e =
    let a = and_then_taken {A = ℕ × List ℕ} (u32_front bytes) _ rest e in
    let few = failed (nat_lt 65535 a.0.0) _ _ rest a.2 in
    subst (IsEnd bytes) (ok_is {A = List ℕ} _ _ few.1) (number_end bytes a.0.1 a.0.0 a.1)

extension_end : (bytes rest : List ℕ) → after_extension bytes ≡ Ok rest → IsEnd bytes rest
unfolding after_extension
extension_end bytes rest e =
    let a = and_then_taken {A = ℕ × List ℕ} (u32_front bytes) _ rest e in
    let small = failed (nat_lt 2147483647 a.0.0) _ _ rest a.2 in
    let enough = failed (nat_lt (length a.0.1) a.0.0) _ _ rest small.1 in
    end_of_end bytes a.0.1 rest (number_end bytes a.0.1 a.0.0 a.1) (cut a.0.0 a.0.1 rest (ltb-false (length a.0.1) a.0.0 enough.0) (ok_is {A = List ℕ} _ _ enough.1))

begin_end : (in_header : Bool) (bytes rest : List ℕ) → after_begin in_header bytes ≡ Ok rest → IsEnd bytes rest
begin_end true bytes rest e =
    let c = and_then_taken {A = List ℕ} (after_signature bytes >>= after_flags) after_extension rest e in
    let b = and_then_taken {A = List ℕ} (after_signature bytes) after_flags c.0 c.1 in
    end_of_end bytes b.0 rest (signature_end bytes b.0 b.1) (end_of_end b.0 c.0 rest (flags_end b.0 c.0 b.2) (extension_end c.0 rest c.2))
begin_end false bytes rest e = cut 0 bytes rest (omega arith) (ok_is {A = List ℕ} _ _ e)

counted : (end negative same : Bool) (d : CodecError) (rest x : List ℕ) → cond {A = Parsed (Option (List ℕ))} end (Ok None) (cond negative (Err d) (cond same (Ok (Some rest)) (Err FieldCount))) ≡ Ok (Some x) → rest ≡ x
counted true negative same d rest x e = absurd cc
counted false true same d rest x e = absurd cc
counted false false true d rest x e = cc
counted false false false d rest x e = absurd cc

count_end : (width : ℕ) (bytes rest : List ℕ) → after_count width bytes ≡ Ok (Some rest) → IsEnd bytes rest
unfolding after_count
count_end width bytes rest e =
    let a = and_then_taken {A = ℤ × List ℕ} (i16_front bytes) _ (Some rest) e in
    subst (IsEnd bytes) (counted _ _ _ _ a.0.1 rest a.2) (two_end bytes a.0.1 a.0.0 a.1)

two_shorter : (bytes rest : List ℕ) (n : ℤ) → i16_front bytes ≡ Ok (n, rest) → length rest < length bytes
unfolding signed_two
two_shorter bytes rest n e =
    let t = test_failed (nat_lt (length bytes) 2) _ (n, rest) (found_or (signed_two bytes) Short (n, rest) e) in
    let is : drop 2 bytes ≡ rest = ap (λ (p : ℤ × List ℕ). p.1) (same_Some {A = ℤ × List ℕ} _ _ t.1) in
    omega (arith, ltb-false (length bytes) 2 t.0, ap length is, length-drop 2 bytes)

count_shorter : (width : ℕ) (bytes rest : List ℕ) → after_count width bytes ≡ Ok (Some rest) → length rest < length bytes
unfolding after_count
count_shorter width bytes rest e =
    let a = and_then_taken {A = ℤ × List ℕ} (i16_front bytes) _ (Some rest) e in
    subst (λ (xs : List ℕ). length xs < length bytes) (counted _ _ _ _ a.0.1 rest a.2) (two_shorter bytes a.0.1 a.0.0 a.1)

-- ---- the next row

module _ (types : List Ty) (in_header : Bool) (bytes rest : List ℕ) (begun : after_begin in_header bytes ≡ Ok rest) where
  pub at_end : after_count (length types) rest ≡ Ok None → next_of types in_header bytes ≡ Ok (None, reader_ended types)
  unfolding step
  at_end counts = rw (begun, counts) refl

  pub no_count : (e : CodecError) → after_count (length types) rest ≡ Err e → next_of types in_header bytes ≡ Err e
  unfolding step
  no_count e counts = rw (begun, counts) refl

  pub no_field : (row : List ℕ) (e : CodecError) → after_count (length types) rest ≡ Ok (Some row) → rest_after (fields types row) ≡ Err e → next_of types in_header bytes ≡ Err e
  unfolding step
  no_field row e counts missing = rw (begun, counts) (none (fields types row) missing)
    where
      none : (r : Parsed (List Given × List ℕ)) → rest_after r ≡ Err e → (r >>= λ x. let s : Step = Ok (Some x.0, reader_before types x.1) in s) ≡ Err e
      none (Ok x) is = absurd cc
      none (Err d) is = ap (λ (c : CodecError). let s : Step = Err c in s) (same d is)
        where
          same : (d : CodecError) → (let r : Parsed (List ℕ) = Err d in r) ≡ Err e → d ≡ e
          same d is = cc

  a_row : (row after : List ℕ) (given : List Given) → after_count (length types) rest ≡ Ok (Some row) → fields types row ≡ Ok (given, after) → next_of types in_header bytes ≡ Ok (Some given, reader_before types after)
  unfolding step
  a_row row after given counts found = rw (begun, counts, found) refl

  pub row_there : (row after : List ℕ) → after_count (length types) rest ≡ Ok (Some row) → rest_after (fields types row) ≡ Ok after → IsRowIn types in_header bytes row after
  row_there row after counts found =
      let f = and_then_taken {A = List Given × List ℕ} (fields types row) _ after found in
      let read : fields types row ≡ Ok (f.0.0, after) = f.1 ∙ ap (λ (xs : List ℕ). let r : Parsed (List Given × List ℕ) = Ok (f.0.0, xs) in r) (ok_is {A = List ℕ} _ _ f.2) in
      let row_is = end_of_end bytes rest row (begin_end in_header bytes rest begun) (count_end (length types) rest row counts) in
      record {
        given = f.0.0;
        row_end = row_is;
        rest_end = end_of_end bytes row after row_is (fields_end types row after f.0.0 read);
        found = read;
        read = a_row row after f.0.0 counts read;
        shorter = omega (arith, end_within row after (fields_end types row after f.0.0 read), count_shorter (length types) rest row counts, end_within bytes rest (begin_end in_header bytes rest begun));
      }

-- ---- the loop over the fields

abbrev pub Rest : Type 0
Rest = Parsed (List ℕ)

rest_of_first : (v : Given) (r : Parsed (List Given × List ℕ)) → rest_after (with_first v r) ≡ rest_after r
rest_of_first v (Ok x) = refl
rest_of_first v (Err e) = refl

pub one_field : (t : Ty) (types : List Ty) (bytes rest : List ℕ) (part : Part) → front bytes ≡ Some (part, rest) → rest_after (fields (t ∷ types) bytes) ≡ rest_after (fields types rest)
unfolding fields
one_field t types bytes rest part found = rw found (rest_of_first _ (fields types rest))

pub no_front : (t : Ty) (types : List Ty) (bytes : List ℕ) → front bytes ≡ None → rest_after (fields (t ∷ types) bytes) ≡ Err (frame_fault bytes)
unfolding fields
no_front t types bytes none = rw none refl

pub no_types : (bytes : List ℕ) → rest_after (fields [] bytes) ≡ Ok bytes
unfolding fields
no_types bytes = refl

pub field_at : (types : List Ty) (i : ℕ) (bytes rest : List ℕ) (part : Part) (t : Ty) → front bytes ≡ Some (part, rest) → t ≡ get_or types i t → i < length types →
    rest_after (fields (drop i types) bytes) ≡ rest_after (fields (drop (i + 1) types) rest)
field_at types i bytes rest part t found is lt =
    let next : suc i ≡ i + 1 = omega arith in
    ap (λ (us : List Ty). rest_after (fields us bytes)) (field_of t types i lt is) ∙ one_field t (drop (suc i) types) bytes rest part found
    ∙ ap (λ (k : ℕ). rest_after (fields (drop k types) rest)) next

pub no_field_at : (types : List Ty) (i : ℕ) (bytes : List ℕ) → length types ≤ i → rest_after (fields (drop i types) bytes) ≡ Ok bytes
no_field_at types i bytes le = ap (λ (us : List Ty). rest_after (fields us bytes)) (drop_all i types le) ∙ no_types bytes

-- ---- in the bytes that are held

-- the end of the bytes that are left, as a place in those that are held
held_end : (next : ℕ) (held rest : List ℕ) → next ≤ length held → IsEnd (drop next held) rest → (length held - length rest ≤ length held) × (drop (length held - length rest) held ≡ rest)
held_end next held rest le end =
    let whole : IsEnd held rest = end_of_end held (drop next held) rest (next, le, refl) end in
    (omega arith, sym (end_at held rest whole))

pub held_row : (types : List Ty) (in_header : Bool) (next : ℕ) (held row rest : List ℕ) (size again : ℕ) → next ≤ length held → size ≡ length held → again ≡ length held → IsRowIn types in_header (drop next held) row rest →
    AreHeld true types (size - length row) (again - length rest) held
held_row types in_header next held row rest size again le is is_again r =
    let row_at = held_end next held row le r.row_end in
    let rest_at = held_end next held rest le r.rest_end in
    rw (is, is_again) (record {
      next_within = rest_at.0;
      row_within = row_at.0;
      row_whole = λ _. ((r.given, rest), ap (fields types) row_at.1 ∙ r.found);
    })

pub record Advanced (types : List Ty) (in_header : Bool) (bytes left : List ℕ) (row : Option (List Given)) : Type 0 where
  pub given : List Given
  pub read : next_of types in_header bytes ≡ Ok (Some given, reader_before types left)
  pub row_is : row ≡ Some given
  pub shorter : length left < length bytes

pub advanced : (types : List Ty) (in_header : Bool) (next : ℕ) (held row rest : List ℕ) (size again : ℕ) → next ≤ length held → size ≡ length held → again ≡ length held → IsRowIn types in_header (drop next held) row rest →
    Advanced types in_header (drop next held) (drop (again - length rest) held) (row_at true types (drop (size - length row) held))
advanced types in_header next held row rest size again le is is_again r =
    let row_is = held_end next held row le r.row_end in
    let rest_is = held_end next held rest le r.rest_end in
    rw (is, is_again) (record {
      given = r.given;
      read = r.read ∙ ap (λ (xs : List ℕ). let s : Step = Ok (Some r.given, reader_before types xs) in s) (sym rest_is.1);
      row_is = ap (λ (xs : List ℕ). row_by (fields types xs)) row_is.1 ∙ ap row_by r.found;
      shorter = subst (λ (xs : List ℕ). length xs < length (drop next held)) (sym rest_is.1) r.shorter;
    })

-- what a range up to the end gives
pub whole_end : (next : ℕ) (held : List ℕ) → take (length held - next) (drop next held) ≡ drop next held
whole_end next held = take_all (length held - next) (drop next held) (omega (arith, length-drop next held))
