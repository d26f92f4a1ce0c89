-- What is read from bytes is what they are.
use Rattle.std.proofs.Common.{◌≡◌, ℕ, suc, ◌+◌, ◌-◌, ◌<◌, ◌≤◌, ◌^◌, Bool, true, false, cond, nat_lt, List, [], ◌∷◌, ◌++◌, length, get_or, take, drop, map, Option, Some, None, Ok, Err, refl, sym, ap, ◌∙◌, subst, append_assoc, arith}
use Rattle.std.specs.Prelude.{flat_map, ok_or, bytes_eq, ℤ, pos, negsuc, int_lt}
use Rattle.std.specs.Ordering.{int_eq}
use Rattle.std.specs.List.{AllByRecursion}
use Rattle.std.specs.Int.{w16, w32, to_be_bytes, from_be_bytes, cast_signed}
use Rattle.std.specs.Cmp.{signed_Decides}
use Rattle.std.proofs.lemmas.Bool.{ltb-false, ltb-true}
use Rattle.std.proofs.lemmas.Slice.Eq.{bytes_eq-Decides}
use Rattle.std.proofs.lemmas.Nat.{be_bytes_2}
use Rattle.std.proofs.lemmas.List.{take-append-drop, length-take-le}
use Rattle.pgv_types.specs.Ty.{Ty}
use Rattle.pgv_value.specs.FrameBinary.{Part, front, frame_fault, field_bytes, row_bytes, FitsLength}
use Rattle.pgv_value.specs.FrameLaws.{AreBytes}
use Rattle.pgv_value.specs.ReadingSteps.{number, signed_two}
use Rattle.pgv_value.specs.ValueView.{Given}
use Rattle.pgv_value.specs.declared.error.CodecError.{CodecError}
use Rattle.pgv_value.specs.declared.error.CodecError.TheVariants.{Short, NegativeLength, FieldCount}
use Rattle.pgv_value.specs.declared.value.PgValueFormat.TheVariants.{Binary}
use Rattle.pgv_value.proofs.Fronts.{front_exactly}
use Rattle.pgv_value.proofs.ReadFronts.{frame_bytes}
use Rattle.pgv_value.proofs.Numbers.{bytes_below, bytes_after, number_is}
use Rattle.pgv_value.specs.Parsed.{Parsed, ◌>>=◌}
use Rattle.pgv_value.proofs.Outcomes.{and_then_taken as taken, found_or as there, held, failed, ok_is}
use Rattle.pgv_copy.specs.CopyBinary.{Step, signature, after_signature, after_flags, after_extension, after_count, after_header, field_in_front, fields, reader_before, reader_ended, row_or_end, step}
use Rattle.pgv_copy.specs.CopyStream.{IsHeader, trailer, IsRow, Answer, called, call, answers, values, RowsAreOfACopy}
use Rattle.pgv_copy.specs.CopyView.{Copying}

-- ---- steps and tests

is_there : {A : Type 0} (b : Bool) (p q : A) → cond {A = Option A} b None (Some p) ≡ Some q → (b ≡ false) × (p ≡ q)
is_there true p q e = absurd cc
is_there false p q e = (refl, cc)

some_is : {A : Type 0} (x y : A) → (let o : Option A = Some x in o) ≡ Some y → x ≡ y
some_is x y e = cc

not_none : {A : Type 0} (x : A) → (let o : Option A = Some x in o) ≡ None → ⊥
not_none x e = cc

-- ---- numbers

-- two bytes in front, and the number that they are
pub record IsTwo (bytes rest : List ℕ) (v : ℤ) : Type 0 where
  pub n : ℕ
  pub value : cast_signed w16 n ≡ v
  pub whole : bytes ≡ to_be_bytes w16 n ++ rest
  pub fits : n < 65536

two_is : (bytes rest : List ℕ) (v : ℤ) → AreBytes bytes → signed_two bytes ≡ Some (v, rest) → IsTwo bytes rest v
unfolding signed_two
two_is [] rest v h e = absurd cc
two_is (a ∷ []) rest v h e = absurd cc
two_is (a ∷ b ∷ more) rest v h e =
    let t = is_there {A = ℤ × List ℕ} (nat_lt (length (a ∷ b ∷ more)) 2) (cast_signed w16 (from_be_bytes w16 (a ∷ b ∷ [])), more) (v, rest) e in
    let n : ℕ = from_be_bytes w16 (a ∷ b ∷ []) in
    let below : (i : ℕ) → get_or (a ∷ b ∷ []) i 0 < 256 = bytes_below (a ∷ b ∷ []) (h.0, (h.1.0, tt)) in
    let two : to_be_bytes w16 n ≡ a ∷ b ∷ [] = be_bytes_2 (a ∷ b ∷ []) n refl below refl in
    let small_a : a < 256 = h.0 in
    let small_b : b < 256 = h.1.0 in
    record {
      n = n;
      value = ap (λ (p : ℤ × List ℕ). p.0) t.1;
      whole = ap (λ (p : ℤ × List ℕ). a ∷ b ∷ p.1) t.1 ∙ ap (λ (xs : List ℕ). xs ++ rest) (sym two);
      fits = omega arith;
    }

-- ---- the header

signature_is : (bytes rest : List ℕ) → after_signature bytes ≡ Ok rest → bytes ≡ signature ++ rest
unfolding after_signature
signature_is bytes rest e =
    let long = failed (nat_lt (length bytes) 11) _ _ rest e in
    let same = held (bytes_eq (take 11 bytes) signature) _ _ rest long.1 in
    let is : take 11 bytes ≡ signature = (bytes_eq-Decides (take 11 bytes) signature).0 same.0 in
    sym (take-append-drop 11 bytes) ∙ ap (λ (xs : List ℕ). xs ++ drop 11 bytes) is ∙ ap (λ (xs : List ℕ). signature ++ xs) (ok_is {A = List ℕ} (drop 11 bytes) rest same.1)

flags_are : (bytes rest : List ℕ) → AreBytes bytes → after_flags bytes ≡ Ok rest → (n : ℕ) × (n < 2 ^ 16) × (bytes ≡ to_be_bytes w32 n ++ rest)
unfolding after_flags
flags_are bytes rest h e =
    let a = taken {A = ℕ × List ℕ} (ok_or (number bytes) Short) _ rest e in
    let few = failed (nat_lt 65535 a.0.0) _ _ rest a.2 in
    let small : a.0.0 ≤ 65535 = ltb-false 65535 a.0.0 few.0 in
    let whole = (number_is bytes a.0.1 a.0.0 h (there (number bytes) Short a.0 a.1)).1 in
    (a.0.0, omega arith, whole ∙ ap (λ (xs : List ℕ). to_be_bytes w32 a.0.0 ++ xs) (ok_is {A = List ℕ} a.0.1 rest few.1))

extension_is : (bytes rest : List ℕ) → AreBytes bytes → after_extension bytes ≡ Ok rest → (extension : List ℕ) × (length extension < 2 ^ 31) × (bytes ≡ to_be_bytes w32 (length extension) ++ (extension ++ rest))
unfolding after_extension
extension_is bytes rest h e =
    let a = taken {A = ℕ × List ℕ} (ok_or (number bytes) Short) _ rest e in
    let fits = failed (nat_lt 2147483647 a.0.0) _ _ rest a.2 in
    let enough = failed (nat_lt (length a.0.1) a.0.0) _ _ rest fits.1 in
    let small : a.0.0 ≤ 2147483647 = ltb-false 2147483647 a.0.0 fits.0 in
    let le : a.0.0 ≤ length a.0.1 = ltb-false (length a.0.1) a.0.0 enough.0 in
    let len : length (take a.0.0 a.0.1) ≡ a.0.0 = length-take-le a.0.0 a.0.1 le in
    let whole = (number_is bytes a.0.1 a.0.0 h (there (number bytes) Short a.0 a.1)).1 in
    let split : a.0.1 ≡ take a.0.0 a.0.1 ++ rest = sym (take-append-drop a.0.0 a.0.1) ∙ ap (λ (xs : List ℕ). take a.0.0 a.0.1 ++ xs) (ok_is {A = List ℕ} (drop a.0.0 a.0.1) rest enough.1) in (
      take a.0.0 a.0.1,
      omega (arith, len),
      whole ∙ ap (λ (xs : List ℕ). to_be_bytes w32 a.0.0 ++ xs) split ∙ ap (λ (n : ℕ). to_be_bytes w32 n ++ (take a.0.0 a.0.1 ++ rest)) (sym len),
    )

pub header_is : (bytes rest : List ℕ) → AreBytes bytes → after_header bytes ≡ Ok rest → (head : List ℕ) × IsHeader head × (bytes ≡ head ++ rest)
header_is bytes rest h e =
    let c = taken (after_signature bytes >>= after_flags) after_extension rest e in
    let b = taken (after_signature bytes) after_flags c.0 c.1 in
    let first = signature_is bytes b.0 b.1 in
    let h1 : AreBytes b.0 = bytes_after signature b.0 (subst AreBytes first h) in
    let flags = flags_are b.0 c.0 h1 b.2 in
    let h2 : AreBytes c.0 = bytes_after (to_be_bytes w32 flags.0) c.0 (subst AreBytes flags.2 h1) in
    let extension = extension_is c.0 rest h2 c.2 in
    let head : List ℕ = signature ++ (to_be_bytes w32 flags.0 ++ (to_be_bytes w32 (length extension.0) ++ extension.0)) in (
      head,
      record { flags = flags.0; extension = extension.0; whole = refl; none_critical = flags.1; length_fits = extension.1 },
      first ∙ ap (λ (xs : List ℕ). signature ++ xs) flags.2 ∙ ap (λ (xs : List ℕ). signature ++ (to_be_bytes w32 flags.0 ++ xs)) extension.2,
    )

-- ---- rows

-- the number of fields, or the end
pos_is : (n m : ℕ) → pos n ≡ pos m → n ≡ m
pos_is n m e = cc

negsuc_is : (n m : ℕ) → negsuc n ≡ negsuc m → n ≡ m
negsuc_is n m e = cc

width_by : (n width : ℕ) (small : Bool) → nat_lt n 32768 ≡ small → cond small (pos n) (negsuc (65536 - suc n)) ≡ pos width → (n ≡ width) × (width < 2 ^ 15)
width_by n width true lt e =
    let same = pos_is n width e in
    let below : n < 32768 = ltb-true n 32768 lt in
    (same, omega (arith, same))
width_by n width false lt e = absurd cc

signed_width : (n width : ℕ) → n < 65536 → cast_signed w16 n ≡ pos width → (n ≡ width) × (width < 2 ^ 15)
signed_width n width fits e = width_by n width (nat_lt n 32768) refl e

end_by : (n : ℕ) (small : Bool) → n < 65536 → cond small (pos n) (negsuc (65536 - suc n)) ≡ negsuc 0 → n ≡ 65535
end_by n true fits e = absurd cc
end_by n false fits e = let none = negsuc_is (65536 - suc n) 0 e in omega (arith, none)

signed_end : (n : ℕ) → n < 65536 → cast_signed w16 n ≡ negsuc 0 → n ≡ 65535
signed_end n fits e = end_by n (nat_lt n 32768) fits e

-- the three tests of a number of fields
counted_row : (end negative same : Bool) (d : CodecError) (rest x : List ℕ) → cond {A = Parsed (Option (List ℕ))} end (Ok None) (cond negative (Err d) (cond same (Ok (Some rest)) (Err FieldCount))) ≡ Ok (Some x) → (same ≡ true) × (rest ≡ x)
counted_row true negative same d rest x e = absurd cc
counted_row false true same d rest x e = absurd cc
counted_row false false true d rest x e = (refl, cc)
counted_row false false false d rest x e = absurd cc

counted_end : (end negative same : Bool) (d : CodecError) (rest : List ℕ) → cond {A = Parsed (Option (List ℕ))} end (Ok None) (cond negative (Err d) (cond same (Ok (Some rest)) (Err FieldCount))) ≡ Ok None → end ≡ true
counted_end true negative same d rest e = refl
counted_end false true same d rest e = absurd cc
counted_end false false true d rest e = absurd cc
counted_end false false false d rest e = absurd cc

count_is : (width : ℕ) (bytes rest : List ℕ) → AreBytes bytes → after_count width bytes ≡ Ok (Some rest) → (width < 2 ^ 15) × (bytes ≡ to_be_bytes w16 width ++ rest)
unfolding after_count
count_is width bytes rest h e =
    let a = taken {A = ℤ × List ℕ} (ok_or (signed_two bytes) Short) _ (Some rest) e in
    let row = counted_row (int_eq a.0.0 (negsuc 0)) (int_lt a.0.0 (pos 0)) (int_eq a.0.0 (pos width)) (NegativeLength a.0.0) a.0.1 rest a.2 in
    let two = two_is bytes a.0.1 a.0.0 h (there (signed_two bytes) Short a.0 a.1) in
    let is : a.0.0 ≡ pos width = (signed_Decides a.0.0 (pos width)).0 row.0 in
    let w = signed_width two.n width two.fits (two.value ∙ is) in
    (w.1, two.whole ∙ ap (λ (n : ℕ). to_be_bytes w16 n ++ a.0.1) w.0 ∙ ap (λ (xs : List ℕ). to_be_bytes w16 width ++ xs) row.1)

end_is : (width : ℕ) (bytes : List ℕ) → AreBytes bytes → after_count width bytes ≡ Ok None → (rest : List ℕ) × (bytes ≡ trailer ++ rest)
unfolding after_count
end_is width bytes h e =
    let a = taken {A = ℤ × List ℕ} (ok_or (signed_two bytes) Short) _ None e in
    let end = counted_end (int_eq a.0.0 (negsuc 0)) (int_lt a.0.0 (pos 0)) (int_eq a.0.0 (pos width)) (NegativeLength a.0.0) a.0.1 a.2 in
    let two = two_is bytes a.0.1 a.0.0 h (there (signed_two bytes) Short a.0 a.1) in
    let is : a.0.0 ≡ negsuc 0 = (signed_Decides a.0.0 (negsuc 0)).0 end in
    (a.0.1, two.whole ∙ ap (λ (n : ℕ). to_be_bytes w16 n ++ a.0.1) (signed_end two.n two.fits (two.value ∙ is)))

-- what is read as fields of these types
record AreFields (types : List Ty) (bytes rest : List ℕ) (row : List Given) : Type 0 where
  parts : List Part
  wide : length parts ≡ length types
  each : AllByRecursion FitsLength parts
  row_is : row ≡ values types parts
  whole : bytes ≡ flat_map field_bytes parts ++ rest

fields_are : (types : List Ty) (bytes rest : List ℕ) (row : List Given) → AreBytes bytes → fields types bytes ≡ Ok (row, rest) → AreFields types bytes rest row
unfolding fields
fields_are [] bytes rest row h e =
    let p = ok_is {A = List Given × List ℕ} ([], bytes) (row, rest) e in
    record { parts = []; wide = refl; each = tt; row_is = sym (ap (λ (q : List Given × List ℕ). q.0) p); whole = ap (λ (q : List Given × List ℕ). q.1) p }
fields_are (t ∷ types) bytes rest row h e =
    let a = taken (field_in_front t bytes) _ (row, rest) e in
    let f = taken {A = Part × List ℕ} (ok_or (front bytes) (frame_fault bytes)) _ a.0 a.1 in
    let part : Part = f.0.0 in
    let frame = frame_bytes bytes part f.0.1 ((front_exactly bytes part f.0.1 h).0 (there (front bytes) (frame_fault bytes) f.0 f.1)) in
    let first = ok_is {A = Given × List ℕ} (record { bytes = part; type_info = t; format = Binary }, f.0.1) a.0 f.2 in
    let left : f.0.1 ≡ a.0.1 = ap (λ (q : Given × List ℕ). q.1) first in
    let h1 : AreBytes a.0.1 = subst AreBytes left (bytes_after (field_bytes part) f.0.1 (subst AreBytes frame.1 h)) in
    let b = taken {A = List Given × List ℕ} (fields types a.0.1) _ (row, rest) a.2 in
    let p = ok_is {A = List Given × List ℕ} (a.0.0 ∷ b.0.0, b.0.1) (row, rest) b.2 in
    let more = fields_are types a.0.1 b.0.1 b.0.0 h1 b.1 in
    let rest_is : b.0.1 ≡ rest = ap (λ (q : List Given × List ℕ). q.1) p in
    let wide : length more.parts ≡ length types = more.wide in
    record {
      parts = part ∷ more.parts;
      wide = ap suc wide;
      each = (frame.0, more.each);
      row_is = sym (ap (λ (q : List Given × List ℕ). q.0) p) ∙ ap (λ (q : Given × List ℕ). q.0 ∷ b.0.0) (sym first) ∙ ap (λ (vs : List Given). record { bytes = part; type_info = t; format = Binary } ∷ vs) more.row_is;
      whole = frame.1 ∙ ap (λ (xs : List ℕ). field_bytes part ++ xs) (left ∙ more.whole ∙ ap (λ (xs : List ℕ). flat_map field_bytes more.parts ++ xs) rest_is)
          ∙ sym (append_assoc (field_bytes part) (flat_map field_bytes more.parts) rest);
    }

-- ---- calls

-- a call that answers a row
record IsRowStep (types : List Ty) (bytes : List ℕ) (row : List Given) (next : Copying) : Type 0 where
  parts : List Part
  rest : List ℕ
  is_row : IsRow (length types) parts
  row_is : row ≡ values types parts
  next_is : next ≡ reader_before types rest
  whole : bytes ≡ row_bytes parts ++ rest
  left : AreBytes rest

row_step_from : (types : List Ty) (bytes : List ℕ) (row : List Given) (next : Copying) (counted : Option (List ℕ)) → AreBytes bytes → after_count (length types) bytes ≡ Ok counted → row_or_end types counted ≡ Ok (Some row, next) → IsRowStep types bytes row next
row_step_from types bytes row next None h c e =
    let p = ok_is {A = Option (List Given) × Copying} (None, reader_ended types) (Some row, next) e in
    absurd (not_none row (sym (ap (λ (q : Option (List Given) × Copying). q.0) p)))
row_step_from types bytes row next (Some rest) h c e =
    let count = count_is (length types) bytes rest h c in
    let h1 : AreBytes rest = bytes_after (to_be_bytes w16 (length types)) rest (subst AreBytes count.1 h) in
    let a = taken (fields types rest) _ (Some row, next) e in
    let f = fields_are types rest a.0.1 a.0.0 h1 a.1 in
    let p = ok_is {A = Option (List Given) × Copying} (Some a.0.0, reader_before types a.0.1) (Some row, next) a.2 in
    let wide : length f.parts ≡ length types = f.wide in
    let row_is : a.0.0 ≡ row = some_is a.0.0 row (ap (λ (q : Option (List Given) × Copying). q.0) p) in
    record {
      parts = f.parts;
      rest = a.0.1;
      is_row = record { wide = wide; width_fits = count.0; each = f.each };
      row_is = sym row_is ∙ f.row_is;
      next_is = sym (ap (λ (q : Option (List Given) × Copying). q.1) p);
      whole = count.1 ∙ ap (λ (n : ℕ). to_be_bytes w16 n ++ rest) (sym wide) ∙ ap (λ (xs : List ℕ). to_be_bytes w16 (length f.parts) ++ xs) f.whole
          ∙ sym (append_assoc (to_be_bytes w16 (length f.parts)) (flat_map field_bytes f.parts) a.0.1);
      left = bytes_after (flat_map field_bytes f.parts) a.0.1 (subst AreBytes f.whole h1);
    }

row_step : (types : List Ty) (bytes : List ℕ) (row : List Given) (next : Copying) → AreBytes bytes → step (reader_before types bytes) ≡ Ok (Some row, next) → IsRowStep types bytes row next
unfolding step
row_step types bytes row next h e =
    let a = taken (after_count (length types) bytes) (row_or_end types) (Some row, next) e in
    row_step_from types bytes row next a.0 h a.1 a.2

end_step_from : (types : List Ty) (bytes : List ℕ) (next : Copying) (counted : Option (List ℕ)) → AreBytes bytes → after_count (length types) bytes ≡ Ok counted → row_or_end types counted ≡ Ok (None, next) → (rest : List ℕ) × (bytes ≡ trailer ++ rest)
end_step_from types bytes next None h c e = end_is (length types) bytes h c
end_step_from types bytes next (Some rest) h c e =
    let a = taken (fields types rest) _ (None, next) e in
    let p = ok_is {A = Option (List Given) × Copying} (Some a.0.0, reader_before types a.0.1) (None, next) a.2 in
    absurd (not_none a.0.0 (ap (λ (q : Option (List Given) × Copying). q.0) p))

end_step : (types : List Ty) (bytes : List ℕ) (next : Copying) → AreBytes bytes → step (reader_before types bytes) ≡ Ok (None, next) → (rest : List ℕ) × (bytes ≡ trailer ++ rest)
unfolding step
end_step types bytes next h e =
    let a = taken (after_count (length types) bytes) (row_or_end types) (None, next) e in
    end_step_from types bytes next a.0 h a.1 a.2

-- the first answer, and those after it
first_is : (s : Step) (reader : Copying) (row : Option (List Given)) → (called s reader).0 ≡ Ok row → (next : Copying) × (s ≡ Ok (row, next)) × ((called s reader).1 ≡ next)
first_is (Ok x) reader row e = (x.1, ap (λ (r : Option (List Given)). let s : Step = Ok (r, x.1) in s) (ok_is {A = Option (List Given)} x.0 row e), refl)
first_is (Err d) reader row e = absurd cc

answers_split : (n : ℕ) (reader : Copying) (row : Option (List Given)) (more : List Answer) → answers (suc n) reader ≡ Ok row ∷ more → (next : Copying) × (step reader ≡ Ok (row, next)) × (answers n next ≡ more)
answers_split n reader row more e =
    let first : (call reader).0 ≡ Ok row = cc in
    let later : answers n (call reader).1 ≡ more = cc in
    let f = first_is (step reader) reader row first in
    (f.0, f.1, ap (answers n) (sym f.2) ∙ later)

record AreRows (types : List Ty) (bytes : List ℕ) (rows : List (List Given)) : Type 0 where
  parts : List (List Part)
  follows : List ℕ
  each : AllByRecursion (IsRow (length types)) parts
  rows_are : rows ≡ map (values types) parts
  whole : bytes ≡ flat_map row_bytes parts ++ (trailer ++ follows)

rows_are : (types : List Ty) (bytes : List ℕ) (rows : List (List Given)) → AreBytes bytes → answers (length rows + 1) (reader_before types bytes) ≡ map (λ row. Ok (Some row)) rows ++ Ok None ∷ [] → AreRows types bytes rows
rows_are types bytes [] h e =
    let a = answers_split 0 (reader_before types bytes) None [] e in
    let end = end_step types bytes a.0 h a.1 in
    record { parts = []; follows = end.0; each = tt; rows_are = refl; whole = end.1 }
rows_are types bytes (row ∷ rows) h e =
    let count : length (row ∷ rows) + 1 ≡ suc (length rows + 1) = omega arith in
    let a = answers_split (length rows + 1) (reader_before types bytes) (Some row) _ (sym (ap (λ (k : ℕ). answers k (reader_before types bytes)) count) ∙ e) in
    let r = row_step types bytes row a.0 h a.1 in
    let more = rows_are types r.rest rows r.left (ap (answers (length rows + 1)) (sym r.next_is) ∙ a.2) in
    record {
      parts = r.parts ∷ more.parts;
      follows = more.follows;
      each = (r.is_row, more.each);
      rows_are = ap (λ (v : List Given). v ∷ rows) r.row_is ∙ ap (λ (vs : List (List Given)). values types r.parts ∷ vs) more.rows_are;
      whole = r.whole ∙ ap (λ (xs : List ℕ). row_bytes r.parts ++ xs) more.whole ∙ sym (append_assoc (row_bytes r.parts) (flat_map row_bytes more.parts) (trailer ++ more.follows));
    }

pub rows_are_of_a_copy : RowsAreOfACopy
unfolding RowsAreOfACopy
rows_are_of_a_copy types bytes rest rows h begins e =
    let head = header_is bytes rest h begins in
    let h1 : AreBytes rest = bytes_after head.0 rest (subst AreBytes head.2 h) in
    let r = rows_are types rest rows h1 e in
    (r.parts, r.follows, record { head = head.0; whole = head.2 ∙ ap (λ (xs : List ℕ). head.0 ++ xs) r.whole; begins = head.1; each = r.each }, r.rows_are)
