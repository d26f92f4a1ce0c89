-- What stands in a stream is found there: the header in front, and the rows.
use Rattle.std.proofs.Common.{◌≡◌, ℕ, ◌<◌, ◌^◌, true, false, nat_lt, List, ◌∷◌, ◌++◌, length, Some, None, Ok, refl, sym, subst, lit<, arith, zero, suc, ◌+◌, [], replicate, Option, ap, ◌∙◌, append_assoc}
use Rattle.std.specs.Prelude.{pos, flat_map}
use Rattle.std.specs.Ordering.{int_eq}
use Rattle.std.specs.Int.{w16, w32, to_be_bytes, cast_signed}
use Rattle.std.proofs.lemmas.Bool.{le-ltb, lt-ltb}
use Rattle.std.proofs.lemmas.Nat.{from_be_bytes-to_be_bytes_2}
use Rattle.std.proofs.lemmas.List.{drop_at, length-append}
use Rattle.pgv_value.specs.ReadingSteps.{signed_two}
use Rattle.pgv_value.proofs.Numbers.{number_there}
use Rattle.pgv_copy.specs.CopyBinary.{signature, after_signature, after_flags, after_extension, after_count, after_header, Step, fields, reader_before, reader_ended, step}
use Rattle.pgv_copy.specs.CopyStream.{IsHeader, trailer, IsRow, Answer, called, answers, values, row_answers, CopyIsItsRows}
use Rattle.std.specs.List.{AllByRecursion}
use Rattle.pgv_types.specs.Ty.{Ty}
use Rattle.pgv_value.specs.FrameBinary.{Part, front, field_bytes, row_bytes, FitsLength}
use Rattle.pgv_value.specs.ValueView.{Given}
use Rattle.pgv_value.specs.declared.value.PgValueFormat.TheVariants.{Binary}
use Rattle.pgv_value.proofs.Fronts.{frame_in_front}
use Rattle.pgv_value.proofs.ReadFronts.{framed}
use Rattle.pgv_copy.specs.CopyView.{Copying}
use Rattle.pgv_copy.proofs.FieldLoop.{with_first, field_there}

pub two_there : (n : ℕ) (rest : List ℕ) → n < 2 ^ 16 → signed_two (to_be_bytes w16 n ++ rest) ≡ Some (cast_signed w16 n, rest)
unfolding signed_two
two_there n rest lt =
    let long : nat_lt (length (to_be_bytes w16 n ++ rest)) 2 ≡ false = le-ltb _ _ (omega arith) in
    rw (long, from_be_bytes-to_be_bytes_2 n lt) refl

pub signature_there : (rest : List ℕ) → after_signature (signature ++ rest) ≡ Ok rest
unfolding after_signature
signature_there rest =
    let long : nat_lt (length (signature ++ rest)) 11 ≡ false = le-ltb _ _ (omega arith) in
    rw long refl

pub flags_there : (n : ℕ) (rest : List ℕ) → n < 2 ^ 16 → after_flags (to_be_bytes w32 n ++ rest) ≡ Ok rest
unfolding after_flags
flags_there n rest lt =
    let small : nat_lt 65535 n ≡ false = le-ltb _ _ (omega arith) in
    let few : n < 2 ^ 32 = omega arith in
    rw (number_there n rest few, small) refl

extension_by : (n : ℕ) (extension rest : List ℕ) → length extension ≡ n → n < 2 ^ 31 → after_extension (to_be_bytes w32 n ++ (extension ++ rest)) ≡ Ok rest
unfolding after_extension
extension_by n extension rest len lt =
    let small : nat_lt 2147483647 n ≡ false = le-ltb _ _ (omega arith) in
    let few : n < 2 ^ 32 = omega arith in
    let enough : nat_lt (length (extension ++ rest)) n ≡ false = le-ltb _ _ (omega (arith, length-append extension rest)) in
    rw (number_there n (extension ++ rest) few, small, enough, drop_at extension rest n len) refl

pub extension_there : (extension rest : List ℕ) → length extension < 2 ^ 31 → after_extension (to_be_bytes w32 (length extension) ++ (extension ++ rest)) ≡ Ok rest
extension_there extension rest lt = extension_by (length extension) extension rest refl lt

header_by : (bytes flags extension rest : List ℕ) → after_signature bytes ≡ Ok flags → after_flags flags ≡ Ok extension → after_extension extension ≡ Ok rest → after_header bytes ≡ Ok rest
header_by bytes flags extension rest a b c = rw (a, b, c) refl

pub header_there : (head rest : List ℕ) → IsHeader head → after_header (head ++ rest) ≡ Ok rest
header_there head rest h =
    let flags = to_be_bytes w32 h.flags in
    let size = to_be_bytes w32 (length h.extension) in
    let whole : head ++ rest ≡ signature ++ (flags ++ (size ++ (h.extension ++ rest))) = rw h.whole refl in
    subst (λ (bytes : List ℕ). after_header bytes ≡ Ok rest) (sym whole)
    (header_by (signature ++ (flags ++ (size ++ (h.extension ++ rest)))) _ _ rest (signature_there _) (flags_there h.flags _ h.none_critical) (extension_there h.extension rest h.length_fits))

-- ---- the number of fields

signed_same : (n : ℕ) → n < 2 ^ 15 → cast_signed w16 n ≡ pos n
signed_same n lt = let small : nat_lt n 32768 ≡ true = lt-ltb n 32768 (omega arith) in rw small refl

pub count_there : (n : ℕ) (rest : List ℕ) → n < 2 ^ 15 → after_count n (to_be_bytes w16 n ++ rest) ≡ Ok (Some rest)
unfolding after_count
count_there n rest lt =
    let few : n < 2 ^ 16 = omega arith in
    let never : nat_lt n n ≡ false = le-ltb n n (omega arith) in
    let same : int_eq (pos n) (pos n) ≡ true = rw never refl in
    let positive : nat_lt n 0 ≡ false = le-ltb n 0 (omega arith) in
    rw (two_there n rest few, signed_same n lt, positive, same) refl

pub end_there : (width : ℕ) (rest : List ℕ) → after_count width (255 ∷ 255 ∷ rest) ≡ Ok None
unfolding after_count
end_there width rest = rw (two_there 65535 rest (lit< tt)) refl

-- ---- rows

-- ---- a row

no_fields : (rest : List ℕ) → fields [] rest ≡ Ok ([], rest)
unfolding fields
no_fields rest = refl

pub fields_there : (types : List Ty) (row : List Part) (rest : List ℕ) → length row ≡ length types → AllByRecursion FitsLength row → fields types (flat_map field_bytes row ++ rest) ≡ Ok (values types row, rest)
fields_there [] [] rest len each = no_fields rest
fields_there [] (part ∷ row) rest len each = absurd (omega (arith, len))
fields_there (t ∷ types) [] rest len each = absurd (omega (arith, len))
fields_there (t ∷ types) (part ∷ row) rest len each =
    let v : Given = record { bytes = part; type_info = t; format = Binary } in
    let more = flat_map field_bytes row ++ rest in
    let same : length row ≡ length types = omega (arith, len) in
    let found : front (field_bytes part ++ more) ≡ Some (part, more) = frame_in_front (field_bytes part ++ more) part more (framed part more each.0) in
    ap (fields (t ∷ types)) (append_assoc (field_bytes part) (flat_map field_bytes row) rest)
    ∙ field_there t types (field_bytes part ++ more) v more (rw found refl)
    ∙ ap (with_first v) (fields_there types row rest same each.1)

step_by : (types : List Ty) (bytes rest after : List ℕ) (row : List Given) → after_count (length types) bytes ≡ Ok (Some rest) → fields types rest ≡ Ok (row, after) → step (reader_before types bytes) ≡ Ok (Some row, reader_before types after)
unfolding step
step_by types bytes rest after row counted read = rw (counted, read) refl

pub row_there : (types : List Ty) (row : List Part) (rest : List ℕ) → IsRow (length types) row → step (reader_before types (row_bytes row ++ rest)) ≡ Ok (Some (values types row), reader_before types rest)
row_there types row rest h =
    let more = flat_map field_bytes row ++ rest in
    let split : row_bytes row ++ rest ≡ to_be_bytes w16 (length row) ++ more = append_assoc (to_be_bytes w16 (length row)) (flat_map field_bytes row) rest in
    let counted : after_count (length types) (row_bytes row ++ rest) ≡ Ok (Some more) =
    ap (after_count (length types)) split ∙ ap (λ (n : ℕ). after_count (length types) (to_be_bytes w16 n ++ more)) h.wide ∙ count_there (length types) more h.width_fits in
    step_by types (row_bytes row ++ rest) more rest (values types row) counted (fields_there types row rest h.wide h.each)

-- ---- the end

trailer_by : (types : List Ty) (bytes : List ℕ) → after_count (length types) bytes ≡ Ok None → step (reader_before types bytes) ≡ Ok (None, reader_ended types)
unfolding step
trailer_by types bytes counted = rw counted refl

pub trailer_there : (types : List Ty) (rest : List ℕ) → step (reader_before types (trailer ++ rest)) ≡ Ok (None, reader_ended types)
trailer_there types rest = trailer_by types (trailer ++ rest) (end_there (length types) rest)

after_end : (types : List Ty) → step (reader_ended types) ≡ Ok (None, reader_ended types)
unfolding step
after_end types = refl

-- ---- calls one after another

pub one_call : (n : ℕ) (reader next : Copying) (row : Option (List Given)) → step reader ≡ Ok (row, next) → answers (suc n) reader ≡ Ok row ∷ answers n next
one_call n reader next row e = ap (λ (s : Step). (called s reader).0 ∷ answers n (called s reader).1) e

none_for_ever : (types : List Ty) (n : ℕ) → answers n (reader_ended types) ≡ replicate n (Ok None)
none_for_ever types zero = refl
none_for_ever types (suc n) = one_call n (reader_ended types) (reader_ended types) None (after_end types) ∙ ap (λ (xs : List Answer). Ok None ∷ xs) (none_for_ever types n)

pub none_from_trailer : (types : List Ty) (rest : List ℕ) (n : ℕ) → answers n (reader_before types (trailer ++ rest)) ≡ replicate n (Ok None)
none_from_trailer types rest zero = refl
none_from_trailer types rest (suc n) = one_call n (reader_before types (trailer ++ rest)) (reader_ended types) None (trailer_there types rest) ∙ ap (λ (xs : List Answer). Ok None ∷ xs) (none_for_ever types n)

-- rows in front are answered, and then what is answered of the rest
pub rows_there : (types : List Ty) (rows : List (List Part)) (rest : List ℕ) (n : ℕ) → AllByRecursion (IsRow (length types)) rows →
    answers (length rows + n) (reader_before types (flat_map row_bytes rows ++ rest)) ≡ row_answers types rows ++ answers n (reader_before types rest)
rows_there types [] rest n each = ap (λ (k : ℕ). answers k (reader_before types rest)) (omega arith)
rows_there types (row ∷ rows) rest n each =
    let more = flat_map row_bytes rows ++ rest in
    let split : flat_map row_bytes (row ∷ rows) ++ rest ≡ row_bytes row ++ more = append_assoc (row_bytes row) (flat_map row_bytes rows) rest in
    let count : length (row ∷ rows) + n ≡ suc (length rows + n) = omega arith in
    ap (λ (k : ℕ). answers k (reader_before types (flat_map row_bytes (row ∷ rows) ++ rest))) count
    ∙ ap (λ (bytes : List ℕ). answers (suc (length rows + n)) (reader_before types bytes)) split
    ∙ one_call (length rows + n) (reader_before types (row_bytes row ++ more)) (reader_before types more) (Some (values types row)) (row_there types row more each.0)
    ∙ ap (λ (xs : List Answer). Ok (Some (values types row)) ∷ xs) (rows_there types rows rest n each.1)

pub copy_is_its_rows : CopyIsItsRows
unfolding CopyIsItsRows
copy_is_its_rows types bytes rows follows h =
    let rest = flat_map row_bytes rows ++ (trailer ++ follows) in (
      rest,
      subst (λ (xs : List ℕ). after_header xs ≡ Ok rest) (sym h.whole) (header_there h.head rest h.begins),
      λ n. rows_there types rows (trailer ++ follows) n h.each ∙ ap (λ (xs : List Answer). row_answers types rows ++ xs) (none_from_trailer types follows n),
    )
