-- What is read from bytes is read whatever comes after them.
use Rattle.std.proofs.Common.{◌≡◌, ℕ, ◌<◌, ◌≤◌, Bool, true, false, cond, nat_lt, nat_eq, List, [], ◌∷◌, ◌++◌, length, take, drop, Option, Some, None, Ok, Err, refl, sym, ap, ◌∙◌, subst, inl, inr, arith}
use Rattle.std.specs.Prelude.{ℤ, pos, negsuc, int_lt, ok_or, option_map, bytes_eq}
use Rattle.std.specs.Int.{w16, w32, from_be_bytes, cast_signed}
use Rattle.std.specs.Ordering.{int_eq}
use Rattle.std.proofs.lemmas.Bool.{le-ltb, ltb-false, ltb-true, false≢true}
use Rattle.std.proofs.lemmas.List.{take-append-le, drop-append-le, take_at, take-take, length-append}
use Rattle.std.proofs.lemmas.Slice.Eq.{bytes_eq-Decides}
use Rattle.pgv_types.specs.Ty.{Ty}
use Rattle.pgv_value.specs.FrameBinary.{Part, front, front_length, frame_fault}
use Rattle.pgv_value.specs.Fronts.{i16_front, u32_front, part_front}
use Rattle.pgv_value.specs.Parsed.{Parsed, ◌>>=◌}
use Rattle.pgv_value.specs.ReadingSteps.{number, signed_two}
use Rattle.pgv_value.specs.declared.error.CodecError.{CodecError}
use Rattle.pgv_value.specs.declared.error.CodecError.TheVariants.{Short, NegativeLength, FieldCount, Syntax}
use Rattle.pgv_copy.specs.CopyBinary.{signature, after_signature, after_flags, after_extension, after_count, after_header, field_in_front, fields, reader_before, row_or_end, step}
use Rattle.pgv_copy.specs.CopyPieces.{Stays, WhatCameStays, after_begin, further}

stays_bind : {A B : Type 0} (f : A → A) (g : B → B) (r later : Parsed A) (next : A → Parsed B) → Stays f r later → ((x : A) → Stays g (next x) (next (f x))) → Stays g (r >>= next) (later >>= next)
stays_bind {A} {B} f g (Ok x) later next h k = subst (λ (r : Parsed A). Stays g (next x) (r >>= next)) (sym h) (k x)
stays_bind f g (Err e) later next (inl short) k = inl short
stays_bind {A} {B} f g (Err e) later next (inr same) k = inr (ap (λ (r : Parsed A). r >>= next) same)

-- with more bytes behind
abbrev behind : List ℕ → List ℕ → List ℕ
behind more bytes = bytes ++ more

abbrev rest_behind : {A : Type 0} → List ℕ → A × List ℕ → A × List ℕ
rest_behind more x = (x.0, x.1 ++ more)

abbrev some_behind : List ℕ → Option (List ℕ) → Option (List ℕ)
some_behind more o = option_map (λ bytes. bytes ++ more) o

not_less : (bytes more : List ℕ) (n : ℕ) → n ≤ length bytes → nat_lt (length (bytes ++ more)) n ≡ false
not_less bytes more n le = le-ltb _ _ (omega (arith, length-append bytes more))

-- ---- numbers

number_by : (bytes more : List ℕ) (few : Bool) → nat_lt (length bytes) 4 ≡ few →
    Stays (rest_behind more) (let r : Parsed (ℕ × List ℕ) = ok_or (cond few None (Some (from_be_bytes w32 (take 4 bytes), drop 4 bytes))) Short in r) (u32_front (bytes ++ more))
unfolding number
number_by bytes more true is = inl refl
number_by bytes more false is =
    let long : 4 ≤ length bytes = ltb-false (length bytes) 4 is in
    rw (not_less bytes more 4 long, take-append-le 4 bytes more long, drop-append-le 4 bytes more long) refl

number_stays : (bytes more : List ℕ) → Stays (rest_behind more) (u32_front bytes) (u32_front (bytes ++ more))
unfolding number
number_stays bytes more = number_by bytes more (nat_lt (length bytes) 4) refl

two_by : (bytes more : List ℕ) (few : Bool) → nat_lt (length bytes) 2 ≡ few →
    Stays (rest_behind more) (let r : Parsed (ℤ × List ℕ) = ok_or (cond few None (Some (cast_signed w16 (from_be_bytes w16 (take 2 bytes)), drop 2 bytes))) Short in r) (i16_front (bytes ++ more))
unfolding signed_two
two_by bytes more true is = inl refl
two_by bytes more false is =
    let long : 2 ≤ length bytes = ltb-false (length bytes) 2 is in
    rw (not_less bytes more 2 long, take-append-le 2 bytes more long, drop-append-le 2 bytes more long) refl

two_stays : (bytes more : List ℕ) → Stays (rest_behind more) (i16_front bytes) (i16_front (bytes ++ more))
unfolding signed_two
two_stays bytes more = two_by bytes more (nat_lt (length bytes) 2) refl

-- ---- frames

abbrev Front : Type 0
Front = Option (Part × List ℕ)

-- a frame by its length and what comes after that
abbrev framed_by : ℕ → List ℕ → Front
framed_by n left = cond (nat_eq n 4294967295) (Some (None, left)) (cond (nat_lt 2147483647 n) None (cond (nat_lt (length left) n) None (Some (Some (take n left), drop n left))))

abbrev fault_by : ℕ → CodecError
fault_by n = cond (nat_lt 2147483647 n) (NegativeLength (cast_signed w32 n)) Short

framed_stays : (n : ℕ) (left more : List ℕ) (x y z : Bool) → nat_eq n 4294967295 ≡ x → nat_lt 2147483647 n ≡ y → nat_lt (length left) n ≡ z →
    Stays (rest_behind more) (let r : Parsed (Part × List ℕ) = ok_or (framed_by n left) (fault_by n) in r) (ok_or (framed_by n (left ++ more)) (fault_by n))
framed_stays n left more true y z null large short = rw null refl
framed_stays n left more false true z null large short = rw (null, large) (inr refl)
framed_stays n left more false false true null large short = rw (null, large, short) (inl refl)
framed_stays n left more false false false null large short =
    let enough : n ≤ length left = ltb-false (length left) n short in
    rw (null, large, short, not_less left more n enough, take-append-le n left more enough, drop-append-le n left more enough) refl

front_long : (bytes : List ℕ) → nat_lt (length bytes) 4 ≡ false → (front bytes ≡ framed_by (front_length bytes) (drop 4 bytes)) × (frame_fault bytes ≡ fault_by (front_length bytes))
unfolding front
front_long bytes long = (rw long refl, rw long refl)

front_few : (bytes : List ℕ) → nat_lt (length bytes) 4 ≡ true → (front bytes ≡ None) × (frame_fault bytes ≡ Short)
unfolding front
front_few bytes few = (rw few refl, rw few refl)

part_by : (bytes more : List ℕ) (few : Bool) → nat_lt (length bytes) 4 ≡ few → Stays (rest_behind more) (part_front bytes) (part_front (bytes ++ more))
part_by bytes more true few = let none = front_few bytes few in rw (none.0, none.1) (inl refl)
part_by bytes more false few =
    let long : 4 ≤ length bytes = ltb-false (length bytes) 4 few in
    let now = front_long bytes few in
    let then = front_long (bytes ++ more) (not_less bytes more 4 long) in
    let size : front_length (bytes ++ more) ≡ front_length bytes = ap (from_be_bytes w32) (take-append-le 4 bytes more long) in
    rw (now.0, now.1, then.0, then.1, size, drop-append-le 4 bytes more long) (framed_stays (front_length bytes) (drop 4 bytes) more _ _ _ refl refl refl)

part_stays : (bytes more : List ℕ) → Stays (rest_behind more) (part_front bytes) (part_front (bytes ++ more))
part_stays bytes more = part_by bytes more (nat_lt (length bytes) 4) refl

-- ---- the header

-- the signature begins otherwise, and goes on so
other_begins : (bytes more : List ℕ) → bytes_eq bytes (take (length bytes) signature) ≡ false → (xs : List ℕ) → take (length bytes) xs ≡ take (length bytes) signature → take (length bytes) xs ≡ bytes → ⊥
other_begins bytes more other xs is begins =
    let same : bytes ≡ take (length bytes) signature = sym begins ∙ is in
    false≢true (sym other ∙ (bytes_eq-Decides bytes (take (length bytes) signature)).1 same)

not_true : (b : Bool) → (b ≡ true → ⊥) → b ≡ false
not_true true never = absurd (never refl)
not_true false never = refl

still_syntax : (bytes more : List ℕ) → length bytes < 11 → bytes_eq bytes (take (length bytes) signature) ≡ false → (few : Bool) → nat_lt (length (bytes ++ more)) 11 ≡ few → after_signature (bytes ++ more) ≡ Err Syntax
unfolding after_signature
still_syntax bytes more lt other true few =
    let whole : List ℕ = bytes ++ more in
    let le : length bytes ≤ length whole = omega (arith, length-append bytes more) in
    let no : bytes_eq whole (take (length whole) signature) ≡ false = not_true _ (λ e.
    let same : whole ≡ take (length whole) signature = (bytes_eq-Decides whole (take (length whole) signature)).0 e in
    other_begins bytes more other whole (ap (take (length bytes)) same ∙ take-take (length bytes) (length whole) signature le) (take_at bytes more (length bytes) refl)) in
    rw (few, no) refl
still_syntax bytes more lt other false few =
    let whole : List ℕ = bytes ++ more in
    let le : length bytes ≤ 11 = omega (arith, lt) in
    let no : bytes_eq (take 11 whole) signature ≡ false = not_true _ (λ e.
    let same : take 11 whole ≡ signature = (bytes_eq-Decides (take 11 whole) signature).0 e in
    other_begins bytes more other whole (sym (take-take (length bytes) 11 whole le) ∙ ap (take (length bytes)) same) (take_at bytes more (length bytes) refl)) in
    rw (few, no) refl

begun_by : (bytes more : List ℕ) → length bytes < 11 → (same : Bool) → bytes_eq bytes (take (length bytes) signature) ≡ same →
    Stays (behind more) (let r : Parsed (List ℕ) = Err (cond same Short Syntax) in r) (after_signature (bytes ++ more))
begun_by bytes more lt true same = inl refl
begun_by bytes more lt false same = inr (still_syntax bytes more lt same _ refl)

signature_by : (bytes more : List ℕ) (few : Bool) → nat_lt (length bytes) 11 ≡ few → Stays (behind more) (after_signature bytes) (after_signature (bytes ++ more))
unfolding after_signature
signature_by bytes more true few = rw few (begun_by bytes more (ltb-true (length bytes) 11 few) _ refl)
signature_by bytes more false few =
    let long : 11 ≤ length bytes = ltb-false (length bytes) 11 few in
    rw (few, not_less bytes more 11 long, take-append-le 11 bytes more long, drop-append-le 11 bytes more long) (chosen (bytes_eq (take 11 bytes) signature))
  where
    chosen : (b : Bool) → Stays (behind more) (let r : Parsed (List ℕ) = cond b (Ok (drop 11 bytes)) (Err Syntax) in r) (cond b (Ok (drop 11 bytes ++ more)) (Err Syntax))
    chosen true = refl
    chosen false = inr refl

flags_stay : (bytes more : List ℕ) → Stays (behind more) (after_flags bytes) (after_flags (bytes ++ more))
unfolding after_flags
flags_stay bytes more = stays_bind (rest_behind more) (behind more) (u32_front bytes) (u32_front (bytes ++ more)) _ (number_stays bytes more) (λ flags. chosen (nat_lt 65535 flags.0) flags.1)
  where
    chosen : (b : Bool) (rest : List ℕ) → Stays (behind more) (let r : Parsed (List ℕ) = cond b (Err Syntax) (Ok rest) in r) (cond b (Err Syntax) (Ok (rest ++ more)))
    chosen true rest = inr refl
    chosen false rest = refl

extension_stays : (bytes more : List ℕ) → Stays (behind more) (after_extension bytes) (after_extension (bytes ++ more))
unfolding after_extension
extension_stays bytes more = stays_bind (rest_behind more) (behind more) (u32_front bytes) (u32_front (bytes ++ more)) _ (number_stays bytes more) (λ size. chosen size.0 size.1 _ _ refl refl)
  where
    chosen : (n : ℕ) (rest : List ℕ) (large short : Bool) → nat_lt 2147483647 n ≡ large → nat_lt (length rest) n ≡ short →
        Stays (behind more) (let r : Parsed (List ℕ) = cond large (Err (NegativeLength (cast_signed w32 n))) (cond short (Err Short) (Ok (drop n rest))) in r)
        (cond large (Err (NegativeLength (cast_signed w32 n))) (cond (nat_lt (length (rest ++ more)) n) (Err Short) (Ok (drop n (rest ++ more)))))
    chosen n rest true short is cut = inr refl
    chosen n rest false true is cut = inl refl
    chosen n rest false false is cut =
        let enough : n ≤ length rest = ltb-false (length rest) n cut in
        rw (not_less rest more n enough, drop-append-le n rest more enough) refl

header_stays : (bytes more : List ℕ) → Stays (behind more) (after_header bytes) (after_header (bytes ++ more))
header_stays bytes more =
    stays_bind (behind more) (behind more) (after_signature bytes >>= after_flags) (after_signature (bytes ++ more) >>= after_flags) after_extension
    (stays_bind (behind more) (behind more) (after_signature bytes) (after_signature (bytes ++ more)) after_flags (signature_by bytes more _ refl) (λ rest. flags_stay rest more))
    (λ rest. extension_stays rest more)

-- ---- rows

count_stays : (width : ℕ) (bytes more : List ℕ) → Stays (some_behind more) (after_count width bytes) (after_count width (bytes ++ more))
unfolding after_count
count_stays width bytes more =
    stays_bind (rest_behind more) (some_behind more) (i16_front bytes) (i16_front (bytes ++ more)) _ (two_stays bytes more)
    (λ count. chosen (int_eq count.0 (negsuc 0)) (int_lt count.0 (pos 0)) (int_eq count.0 (pos width)) count.0 count.1)
  where
    chosen : (end negative same : Bool) (n : ℤ) (rest : List ℕ) →
        Stays (some_behind more) (let r : Parsed (Option (List ℕ)) = cond end (Ok None) (cond negative (Err (NegativeLength n)) (cond same (Ok (Some rest)) (Err FieldCount))) in r)
        (cond end (Ok None) (cond negative (Err (NegativeLength n)) (cond same (Ok (Some (rest ++ more))) (Err FieldCount))))
    chosen true negative same n rest = refl
    chosen false true same n rest = inr refl
    chosen false false true n rest = refl
    chosen false false false n rest = inr refl

field_stays : (t : Ty) (bytes more : List ℕ) → Stays (rest_behind more) (field_in_front t bytes) (field_in_front t (bytes ++ more))
field_stays t bytes more = stays_bind (rest_behind more) (rest_behind more) (part_front bytes) (part_front (bytes ++ more)) _ (part_stays bytes more) (λ p. refl)

fields_stay : (types : List Ty) (bytes more : List ℕ) → Stays (rest_behind more) (fields types bytes) (fields types (bytes ++ more))
unfolding fields
fields_stay [] bytes more = refl
fields_stay (t ∷ types) bytes more =
    stays_bind (rest_behind more) (rest_behind more) (field_in_front t bytes) (field_in_front t (bytes ++ more)) _ (field_stays t bytes more)
    (λ first. stays_bind (rest_behind more) (rest_behind more) (fields types first.1) (fields types (first.1 ++ more)) _ (fields_stay types first.1 more) (λ rest. refl))

row_stays : (types : List Ty) (more : List ℕ) (row : Option (List ℕ)) → Stays (further more) (row_or_end types row) (row_or_end types (some_behind more row))
row_stays types more None = refl
row_stays types more (Some bytes) =
    stays_bind (rest_behind more) (further more) (fields types bytes) (fields types (bytes ++ more)) _ (fields_stay types bytes more) (λ row. refl)

step_stays : (types : List Ty) (bytes more : List ℕ) → Stays (further more) (step (reader_before types bytes)) (step (reader_before types (bytes ++ more)))
unfolding step
step_stays types bytes more =
    stays_bind (some_behind more) (further more) (after_count (length types) bytes) (after_count (length types) (bytes ++ more)) (row_or_end types) (count_stays (length types) bytes more)
    (row_stays types more)

begin_stays : (in_header : Bool) (bytes more : List ℕ) → Stays (behind more) (after_begin in_header bytes) (after_begin in_header (bytes ++ more))
begin_stays true bytes more = header_stays bytes more
begin_stays false bytes more = refl

pub what_came_stays : WhatCameStays
unfolding WhatCameStays
what_came_stays types in_header bytes more =
    stays_bind (behind more) (further more) (after_begin in_header bytes) (after_begin in_header (bytes ++ more)) _ (begin_stays in_header bytes more) (λ rest. step_stays types rest more)
