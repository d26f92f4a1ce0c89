-- Streams that are cut off, and frames.
use Rattle.std.proofs.Common.{◌≡◌, ◌⊎◌, ℕ, zero, suc, ◌+◌, ◌<◌, ◌≤◌, ◌^◌, true, false, nat_lt, nat_eq, List, [], ◌∷◌, ◌++◌, length, take, replicate, Some, None, Ok, Err, refl, sym, ap, ◌∙◌, subst, inl, inr, append_assoc, append-nil, arith}
use Rattle.std.specs.Prelude.{flat_map, bytes_eq}
use Rattle.std.specs.List.{AllByRecursion}
use Rattle.std.specs.Int.{w16, w32, to_be_bytes}
use Rattle.std.proofs.lemmas.Bool.{le-ltb, lt-ltb, eq-eqb}
use Rattle.std.proofs.lemmas.List.{length-append, take_at}
use Rattle.pgv_types.specs.Ty.{Ty}
use Rattle.pgv_value.specs.FrameBinary.{Part, IsFrame, front, field_bytes, row_bytes, FitsLength}
use Rattle.pgv_value.specs.ReadingSteps.{number, signed_two}
use Rattle.pgv_value.specs.ValueView.{Given}
use Rattle.pgv_value.specs.declared.error.CodecError.TheVariants.{Short}
use Rattle.pgv_value.specs.declared.value.PgValueFormat.TheVariants.{Binary}
use Rattle.pgv_value.proofs.Fronts.{frame_in_front, cut_is_short}
use Rattle.pgv_value.proofs.ReadFronts.{framed}
use Rattle.pgv_copy.specs.CopyBinary.{Step, signature, after_signature, after_flags, after_extension, after_count, after_header, fields, reader_before, step}
use Rattle.pgv_copy.specs.CopyStream.{IsHeader, trailer, IsRow, Answer, called, answers, row_answers, StopsAtTheCut, CutCopyIsShort, CutHeaderIsShort}
use Rattle.pgv_copy.specs.CopyView.{Copying}
use Rattle.pgv_copy.proofs.FieldLoop.{with_first, field_there, field_missing}
use Rattle.pgv_value.proofs.Numbers.{number_there}
use Rattle.pgv_copy.proofs.StreamParts.{signature_there, flags_there, header_there, count_there, rows_there}
use Rattle.pgv_value.specs.declared.error.CodecError.{CodecError}
use Rattle.pgv_value.specs.Parsed.{Parsed}
use Rattle.pgv_copy.specs.CutFrames.{Got, got_of, got, all_got, StopsAtTheFrame, CutFramesAreShort}

-- ---- where two lists are one, one of the beginnings ends first

abbrev pub EndsLater : List ℕ → List ℕ → List ℕ → List ℕ → Type 0
EndsLater xs ys a b = (m : List ℕ) × (xs ≡ a ++ m) × (m ++ ys ≡ b)

abbrev pub EndsEarlier : List ℕ → List ℕ → List ℕ → List ℕ → Type 0
EndsEarlier xs ys a b = (m : List ℕ) × (a ≡ xs ++ m) × (0 < length m) × (ys ≡ m ++ b)

same_head : (x y : ℕ) (xs ys : List ℕ) → x ∷ xs ≡ y ∷ ys → (x ≡ y) × (xs ≡ ys)
same_head x y xs ys e = (cc, cc)

pub ends_first : (xs ys a b : List ℕ) → xs ++ ys ≡ a ++ b → EndsLater xs ys a b ⊎ EndsEarlier xs ys a b
ends_first [] ys [] b e = inl ([], refl, e)
ends_first [] ys (c ∷ a) b e = inr (c ∷ a, refl, omega arith, e)
ends_first (x ∷ xs) ys [] b e = inl (x ∷ xs, refl, e)
ends_first (x ∷ xs) ys (c ∷ a) b e =
    let h = same_head x c (xs ++ ys) (a ++ b) e in
    elim (ends_first xs ys a b h.1) as (λ _. EndsLater (x ∷ xs) ys (c ∷ a) b ⊎ EndsEarlier (x ∷ xs) ys (c ∷ a) b) [
      | inl l ↦ inl (l.0, ap (λ (t : List ℕ). x ∷ t) l.1 ∙ ap (λ (d : ℕ). d ∷ (a ++ l.0)) h.0, l.2)
      | inr r ↦ inr (r.0, ap (λ (t : List ℕ). c ∷ t) r.1 ∙ ap (λ (d : ℕ). d ∷ (xs ++ r.0)) (sym h.0), r.2, r.3)
    ]

-- ---- numbers that are cut off

pub number_cut : (bytes : List ℕ) → length bytes < 4 → number bytes ≡ None
unfolding number
number_cut bytes lt = let few : nat_lt (length bytes) 4 ≡ true = lt-ltb _ _ lt in rw few refl

pub two_cut : (bytes : List ℕ) → length bytes < 2 → signed_two bytes ≡ None
unfolding signed_two
two_cut bytes lt = let few : nat_lt (length bytes) 2 ≡ true = lt-ltb _ _ lt in rw few refl

pub count_cut : (width : ℕ) (bytes : List ℕ) → length bytes < 2 → after_count width bytes ≡ Err Short
unfolding after_count
count_cut width bytes lt = rw (two_cut bytes lt) refl

-- a number of four bytes that ends early
four_short : (n : ℕ) (bytes m : List ℕ) → to_be_bytes w32 n ≡ bytes ++ m → 0 < length m → length bytes < 4
four_short n bytes m e more = let len = ap length e in omega (arith, len, length-append bytes m)

two_short : (n : ℕ) (bytes m : List ℕ) → to_be_bytes w16 n ≡ bytes ++ m → 0 < length m → length bytes < 2
two_short n bytes m e more = let len = ap length e in omega (arith, len, length-append bytes m)

-- ---- headers

bytes_eq_self : (xs : List ℕ) → bytes_eq xs xs ≡ true
bytes_eq_self [] = refl
bytes_eq_self (x ∷ xs) = let same : nat_eq x x ≡ true = eq-eqb x x refl in rw (same, bytes_eq_self xs) refl

signature_begun : (bytes : List ℕ) → length bytes < 11 → take (length bytes) signature ≡ bytes → after_signature bytes ≡ Err Short
unfolding after_signature
signature_begun bytes lt is =
    let few : nat_lt (length bytes) 11 ≡ true = lt-ltb _ _ lt in
    rw (few, is, bytes_eq_self bytes) refl

signature_cut : (bytes m : List ℕ) → signature ≡ bytes ++ m → 0 < length m → after_signature bytes ≡ Err Short
signature_cut bytes m e more =
    let len = ap length e in
    signature_begun bytes (omega (arith, len, length-append bytes m)) (ap (take (length bytes)) e ∙ take_at bytes m (length bytes) refl)

flags_cut : (n : ℕ) (bytes m : List ℕ) → to_be_bytes w32 n ≡ bytes ++ m → 0 < length m → after_flags bytes ≡ Err Short
unfolding after_flags
flags_cut n bytes m e more = rw (number_cut bytes (four_short n bytes m e more)) refl

size_cut : (n : ℕ) (bytes m : List ℕ) → to_be_bytes w32 n ≡ bytes ++ m → 0 < length m → after_extension bytes ≡ Err Short
unfolding after_extension
size_cut n bytes m e more = rw (number_cut bytes (four_short n bytes m e more)) refl

extension_cut : (n : ℕ) (bytes : List ℕ) → length bytes < n → n < 2 ^ 31 → after_extension (to_be_bytes w32 n ++ bytes) ≡ Err Short
unfolding after_extension
extension_cut n bytes cut lt =
    let small : nat_lt 2147483647 n ≡ false = le-ltb _ _ (omega arith) in
    let few : n < 2 ^ 32 = omega arith in
    let short : nat_lt (length bytes) n ≡ true = lt-ltb _ _ cut in
    rw (number_there n bytes few, small, short) refl

-- ---- rows

pub no_bytes : (xs ys : List ℕ) → xs ++ ys ≡ [] → 0 < length ys → ⊥
no_bytes xs ys e more = let len = ap length e in omega (arith, len, length-append xs ys)

field_cut : (t : Ty) (types : List Ty) (part : Part) (bytes m : List ℕ) → FitsLength part → field_bytes part ≡ bytes ++ m → 0 < length m → fields (t ∷ types) bytes ≡ Err Short
field_cut t types part bytes m h e more =
    let frame : IsFrame (bytes ++ m) part [] = subst (λ (xs : List ℕ). IsFrame xs part []) (append-nil (field_bytes part) ∙ e) (framed part [] h) in
    let short = cut_is_short bytes m part more frame in
    field_missing t types bytes Short (rw (short.0, short.1) refl)

pub fields_cut : (types : List Ty) (row : List Part) (bytes m : List ℕ) → length row ≡ length types → AllByRecursion FitsLength row → flat_map field_bytes row ≡ bytes ++ m → 0 < length m → fields types bytes ≡ Err Short
fields_cut [] [] bytes m len each e more = absurd (no_bytes bytes m (sym e) more)
fields_cut [] (part ∷ row) bytes m len each e more = absurd (omega (arith, len))
fields_cut (t ∷ types) [] bytes m len each e more = absurd (omega (arith, len))
fields_cut (t ∷ types) (part ∷ row) bytes m len each e more =
    let same : length row ≡ length types = omega (arith, len) in
    elim (ends_first bytes m (field_bytes part) (flat_map field_bytes row) (sym e)) as (λ _. fields (t ∷ types) bytes ≡ Err Short) [
      | inl l ↦
          let v : Given = record { bytes = part; type_info = t; format = Binary } in
          let found : front (field_bytes part ++ l.0) ≡ Some (part, l.0) = frame_in_front (field_bytes part ++ l.0) part l.0 (framed part l.0 each.0) in
          ap (fields (t ∷ types)) l.1 ∙ field_there t types (field_bytes part ++ l.0) v l.0 (rw found refl) ∙ ap (with_first v) (fields_cut types row l.0 m same each.1 (sym l.2) more)
      | inr r ↦ field_cut t types part bytes r.0 each.0 r.1 r.2
    ]

step_short : (types : List Ty) (bytes : List ℕ) → after_count (length types) bytes ≡ Err Short → step (reader_before types bytes) ≡ Err Short
unfolding step
step_short types bytes short = rw short refl

step_cut : (types : List Ty) (bytes rest : List ℕ) → after_count (length types) bytes ≡ Ok (Some rest) → fields types rest ≡ Err Short → step (reader_before types bytes) ≡ Err Short
unfolding step
step_cut types bytes rest counted short = rw (counted, short) refl

row_cut : (types : List Ty) (row : List Part) (bytes m : List ℕ) → IsRow (length types) row → row_bytes row ≡ bytes ++ m → 0 < length m → step (reader_before types bytes) ≡ Err Short
row_cut types row bytes m h e more =
    let size = to_be_bytes w16 (length row) in
    elim (ends_first bytes m size (flat_map field_bytes row) (sym e)) as (λ _. step (reader_before types bytes) ≡ Err Short) [
      | inl l ↦
          let counted : after_count (length types) bytes ≡ Ok (Some l.0) =
          ap (after_count (length types)) l.1 ∙ ap (λ (n : ℕ). after_count (length types) (to_be_bytes w16 n ++ l.0)) h.wide ∙ count_there (length types) l.0 h.width_fits in
          step_cut types bytes l.0 counted (fields_cut types row l.0 m h.wide h.each (sym l.2) more)
      | inr r ↦ step_short types bytes (count_cut (length types) bytes (two_short (length row) bytes r.0 r.1 r.2))
    ]

trailer_cut : (types : List Ty) (bytes m : List ℕ) → trailer ≡ bytes ++ m → 0 < length m → step (reader_before types bytes) ≡ Err Short
trailer_cut types bytes m e more = let len = ap length e in step_short types bytes (count_cut (length types) bytes (omega (arith, len, length-append bytes m)))

-- a refused call is refused ever after
refused_for_ever : (reader : Copying) (n : ℕ) → step reader ≡ Err Short → answers n reader ≡ replicate n (Err Short)
refused_for_ever reader zero e = refl
refused_for_ever reader (suc n) e = ap (λ (s : Step). (called s reader).0 ∷ answers n (called s reader).1) e ∙ ap (λ (xs : List Answer). Err Short ∷ xs) (refused_for_ever reader n e)

-- rows and a trailer that are cut off: the rows that are whole, and the beginning of the next
record Cut (types : List Ty) (bytes : List ℕ) (rows : List (List Part)) : Type 0 where
  count : ℕ
  begun : List ℕ
  within : count ≤ length rows
  whole : bytes ≡ flat_map row_bytes (take count rows) ++ begun
  few : length (take count rows) ≡ count
  each : AllByRecursion (IsRow (length types)) (take count rows)
  short : step (reader_before types begun) ≡ Err Short

one_row_more : (types : List Ty) (bytes m : List ℕ) (row : List Part) (rows : List (List Part)) → IsRow (length types) row → bytes ≡ row_bytes row ++ m → Cut types m rows → Cut types bytes (row ∷ rows)
one_row_more types bytes m row rows h e c = record {
  count = suc c.count;
  begun = c.begun;
  within = let le = c.within in omega arith;
  whole = e ∙ ap (λ (xs : List ℕ). row_bytes row ++ xs) c.whole ∙ sym (append_assoc (row_bytes row) (flat_map row_bytes (take c.count rows)) c.begun);
  few = ap suc c.few;
  each = (h, c.each);
  short = c.short;
}

rows_cut : (types : List Ty) (rows : List (List Part)) (bytes m : List ℕ) → AllByRecursion (IsRow (length types)) rows → flat_map row_bytes rows ++ trailer ≡ bytes ++ m → 0 < length m → Cut types bytes rows
rows_cut types [] bytes m each e more = record { count = 0; begun = bytes; within = omega arith; whole = refl; few = refl; each = tt; short = trailer_cut types bytes m e more }
rows_cut types (row ∷ rows) bytes m each e more =
    elim (ends_first bytes m (row_bytes row) (flat_map row_bytes rows ++ trailer) (sym e ∙ append_assoc (row_bytes row) (flat_map row_bytes rows) trailer)) as (λ _. Cut types bytes (row ∷ rows)) [
      | inl l ↦ one_row_more types bytes l.0 row rows each.0 l.1 (rows_cut types rows l.0 m each.1 (sym l.2) more)
      | inr r ↦ record { count = 0; begun = bytes; within = omega arith; whole = refl; few = refl; each = tt; short = row_cut types row bytes r.0 each.0 r.1 r.2 }
    ]

stops : (types : List Ty) (rows : List (List Part)) (bytes : List ℕ) (c : Cut types bytes rows) (n : ℕ) → answers (c.count + n) (reader_before types bytes) ≡ row_answers types (take c.count rows) ++ replicate n (Err Short)
stops types rows bytes c n =
    ap (λ (k : ℕ). answers (k + n) (reader_before types bytes)) (sym c.few)
    ∙ ap (λ (xs : List ℕ). answers (length (take c.count rows) + n) (reader_before types xs)) c.whole
    ∙ rows_there types (take c.count rows) c.begun n c.each
    ∙ ap (λ (xs : List Answer). row_answers types (take c.count rows) ++ xs) (refused_for_ever (reader_before types c.begun) n c.short)

short_in_signature : (bytes : List ℕ) → after_signature bytes ≡ Err Short → after_header bytes ≡ Err Short
short_in_signature bytes a = rw a refl

short_in_flags : (bytes flags : List ℕ) → after_signature bytes ≡ Ok flags → after_flags flags ≡ Err Short → after_header bytes ≡ Err Short
short_in_flags bytes flags a b = rw (a, b) refl

short_in_extension : (bytes flags extension : List ℕ) → after_signature bytes ≡ Ok flags → after_flags flags ≡ Ok extension → after_extension extension ≡ Err Short → after_header bytes ≡ Err Short
short_in_extension bytes flags extension a b c = rw (a, b, c) refl

header_cut : (head bytes m : List ℕ) → IsHeader head → head ≡ bytes ++ m → 0 < length m → after_header bytes ≡ Err Short
header_cut head bytes m h e more =
    let flags = to_be_bytes w32 h.flags in
    let size = to_be_bytes w32 (length h.extension) in
    elim (ends_first bytes m signature (flags ++ (size ++ h.extension)) (sym e ∙ h.whole)) as (λ _. after_header bytes ≡ Err Short) [
      | inl a ↦
          let passed : after_signature bytes ≡ Ok a.0 = ap after_signature a.1 ∙ signature_there a.0 in
          elim (ends_first a.0 m flags (size ++ h.extension) a.2) as (λ _. after_header bytes ≡ Err Short) [
            | inl b ↦
                let flagged : after_flags a.0 ≡ Ok b.0 = ap after_flags b.1 ∙ flags_there h.flags b.0 h.none_critical in
                elim (ends_first b.0 m size h.extension b.2) as (λ _. after_header bytes ≡ Err Short) [
                  | inl c ↦
                      let len = ap length c.2 in
                      let cut : length c.0 < length h.extension = omega (arith, len, more, length-append c.0 m) in
                      short_in_extension bytes a.0 b.0 passed flagged (ap after_extension c.1 ∙ extension_cut (length h.extension) c.0 cut h.length_fits)
                  | inr c ↦ short_in_extension bytes a.0 b.0 passed flagged (size_cut (length h.extension) b.0 c.0 c.1 c.2)
                ]
            | inr b ↦ short_in_flags bytes a.0 passed (flags_cut h.flags a.0 b.0 b.1 b.2)
          ]
      | inr a ↦ short_in_signature bytes (signature_cut bytes a.0 a.1 a.2)
    ]

pub cut_header_is_short : CutHeaderIsShort
unfolding CutHeaderIsShort
cut_header_is_short bytes more h some = header_cut (bytes ++ more) bytes more h refl some

pub cut_copy_is_short : CutCopyIsShort
unfolding CutCopyIsShort
cut_copy_is_short types bytes more rows h some =
    let tail = flat_map row_bytes rows ++ (trailer ++ []) in
    let tail_is : tail ≡ flat_map row_bytes rows ++ trailer = refl in
    elim (ends_first bytes more h.head tail h.whole) as (λ _. (after_header bytes ≡ Err Short) ⊎ StopsAtTheCut types bytes rows) [
      | inl l ↦
          let c = rows_cut types rows l.0 more h.each (sym (l.2 ∙ tail_is)) some in
          inr (record {
            rest = l.0;
            count = c.count;
            begun = c.begun;
            begins = ap after_header l.1 ∙ header_there h.head l.0 h.begins;
            within = c.within;
            whole = c.whole;
            stops = stops types rows l.0 c;
          })
      | inr r ↦ inl (header_cut h.head bytes r.0 h.begins r.1 r.2)
    ]

-- ---- frames

got_there : (part : Part) (rest : List ℕ) → FitsLength part → got (field_bytes part ++ rest) ≡ (Ok part, rest)
got_there part rest h = ap (got_of (field_bytes part ++ rest)) (frame_in_front (field_bytes part ++ rest) part rest (framed part rest h))

got_cut : (part : Part) (bytes m : List ℕ) → FitsLength part → field_bytes part ≡ bytes ++ m → 0 < length m → got bytes ≡ (Err Short, bytes)
got_cut part bytes m h e more =
    let frame : IsFrame (bytes ++ m) part [] = subst (λ (xs : List ℕ). IsFrame xs part []) (append-nil (field_bytes part) ∙ e) (framed part [] h) in
    let short = cut_is_short bytes m part more frame in
    ap (got_of bytes) short.0 ∙ ap (λ (f : CodecError). let g : Got = (Err f, bytes) in g) short.1

refused_again : (bytes : List ℕ) (n : ℕ) → got bytes ≡ (Err Short, bytes) → all_got n bytes ≡ replicate n (Err Short)
refused_again bytes zero e = refl
refused_again bytes (suc n) e = ap (λ (g : Got). g.0 ∷ all_got n g.1) e ∙ ap (λ (xs : List (Parsed Part)). Err Short ∷ xs) (refused_again bytes n e)

one_frame_more : (bytes m : List ℕ) (part : Part) (row : List Part) → FitsLength part → bytes ≡ field_bytes part ++ m → StopsAtTheFrame m row → StopsAtTheFrame bytes (part ∷ row)
one_frame_more bytes m part row h e c = record {
  count = suc c.count;
  begun = c.begun;
  within = let lt = c.within in omega arith;
  whole = e ∙ ap (λ (xs : List ℕ). field_bytes part ++ xs) c.whole ∙ sym (append_assoc (field_bytes part) (flat_map field_bytes (take c.count row)) c.begun);
  stops = λ n. let next : suc c.count + n ≡ suc (c.count + n) = omega arith in
      ap (λ (k : ℕ). all_got k bytes) next ∙ ap (all_got (suc (c.count + n))) e ∙ ap (λ (g : Got). g.0 ∷ all_got (c.count + n) g.1) (got_there part m h) ∙ ap (λ (xs : List (Parsed Part)). Ok part ∷ xs) (c.stops n);
}

none_more : (n : ℕ) → 0 + n ≡ n
none_more n = omega arith

pub cut_frames : CutFramesAreShort
unfolding CutFramesAreShort
cut_frames bytes m [] each e more = absurd (no_bytes bytes m (sym e) more)
cut_frames bytes m (part ∷ row) each e more =
    elim (ends_first bytes m (field_bytes part) (flat_map field_bytes row) (sym e)) as (λ _. StopsAtTheFrame bytes (part ∷ row)) [
      | inl l ↦ one_frame_more bytes l.0 part row each.0 l.1 (cut_frames l.0 m row each.1 (sym l.2) more)
      | inr r ↦ record { count = 0; begun = bytes; within = omega arith; whole = refl; stops = λ n. ap (λ (k : ℕ). all_got k bytes) (none_more n) ∙ refused_again bytes n (got_cut part bytes r.0 each.0 r.1 r.2) }
    ]
