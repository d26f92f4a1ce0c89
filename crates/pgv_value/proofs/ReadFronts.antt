-- What is in front of bytes is read exactly from its encoding and the rest.
use Rattle.std.proofs.Common.{◌≡◌, ℕ, ℤ, zero, suc, ◌+◌, ◌<◌, ◌≤◌, ◌^◌, Bool, true, false, cond, nat_lt, nat_eq, List, [], ◌∷◌, ◌++◌, length, take, drop, get_or, Option, Some, None, Ok, Err, refl, sym, ap, ◌∙◌, subst, append_assoc, arith, drop-cons}
use Rattle.std.specs.Prelude.{FitsSigned, ◌==◌, not, option_map, ok_or}
use Rattle.std.specs.List.{AllByRecursion, position, position_or_len}
use Rattle.std.specs.Int.{w16, w32, to_be_bytes, from_be_bytes, cast_signed, cast_unsigned}
use Rattle.std.proofs.lemmas.Bool.{le-ltb, lt-ltb, eqb-true, false≢true}
use Rattle.std.proofs.lemmas.List.{take_at, drop_at, length-append, take-append-drop}
use Rattle.std.proofs.lemmas.List.Quantifiers.{position-Some}
use Rattle.std.proofs.lemmas.Nat.{be_bytes_2, from_be_bytes-to_be_bytes_2}
use Rattle.std.proofs.lemmas.Option.{same_Some}
use Rattle.std.proofs.Math.Facts.{sfits_to_z, Fits-of_z, of_z-to_z, to_z-of_z}
use Rattle.pgv_value.specs.FrameBinary.{Part, IsFrame, front, frame_fault, field_bytes, FitsLength}
use Rattle.pgv_value.specs.FrameLaws.{AreBytes}
use Rattle.pgv_value.specs.ReadingSteps.{number, signed_two}
use Rattle.pgv_value.specs.Text.{is_utf8}
use Rattle.pgv_value.specs.declared.error.CodecError.TheVariants.{Short, Utf8, OutOfRange}
use Rattle.pgv_value.specs.declared.value.PgValueFormat.{PgValueFormat}
use Rattle.pgv_value.specs.declared.value.PgValueFormat.TheVariants.{Text, Binary}
use Rattle.pgv_value.proofs.Fronts.{front_exactly, frame_in_front}
use Rattle.pgv_value.proofs.Numbers.{bytes_below, test_failed, number_is, number_there}
use Rattle.pgv_value.specs.Fronts.{u16_front, i16_front, u32_front, ended_front, name_front, part_front, one_part, format_of_code, format_number}
use Rattle.pgv_value.specs.Parsed.{Parsed}
use Rattle.pgv_value.specs.Several.{ReadsOne}
use Rattle.pgv_value.proofs.Outcomes.{ok_is, found_or, stated_is, and_then_taken, held, failed}

-- ---- numbers

pub u16_there : (n : ℕ) (rest : List ℕ) → n < 2 ^ 16 → u16_front (to_be_bytes w16 n ++ rest) ≡ Ok (n, rest)
unfolding u16_front
u16_there n rest lt =
    let long : nat_lt (length (to_be_bytes w16 n ++ rest)) 2 ≡ false = le-ltb _ _ (omega arith) in
    rw (long, from_be_bytes-to_be_bytes_2 n lt) refl

pub u16_is : (bytes rest : List ℕ) (n : ℕ) → AreBytes bytes → u16_front bytes ≡ Ok (n, rest) → (n < 2 ^ 16) × (bytes ≡ to_be_bytes w16 n ++ rest)
unfolding u16_front
u16_is [] rest n h e = absurd cc
u16_is (a ∷ []) rest n h e = absurd cc
u16_is (a ∷ b ∷ more) rest n h e =
    let t = failed (nat_lt (length (a ∷ b ∷ more)) 2) Short (Ok (from_be_bytes w16 (a ∷ b ∷ []), more)) (n, rest) e in
    let same = ok_is {A = ℕ × List ℕ} (from_be_bytes w16 (a ∷ b ∷ []), more) (n, rest) t.1 in
    let below : (i : ℕ) → get_or (a ∷ b ∷ []) i 0 < 256 = bytes_below (a ∷ b ∷ []) (h.0, (h.1.0, tt)) in
    let n_is : from_be_bytes w16 (a ∷ b ∷ []) ≡ n = ap (λ (p : ℕ × List ℕ). p.0) same in
    let pair : to_be_bytes w16 (from_be_bytes w16 (a ∷ b ∷ [])) ≡ a ∷ b ∷ [] = be_bytes_2 (a ∷ b ∷ []) (from_be_bytes w16 (a ∷ b ∷ [])) refl below refl in
    let small_a : a < 256 = h.0 in
    let small_b : b < 256 = h.1.0 in
    let fits : from_be_bytes w16 (a ∷ b ∷ []) < 2 ^ 16 = omega arith in (
      subst (λ (m : ℕ). m < 2 ^ 16) n_is fits,
      ap (λ (p : ℕ × List ℕ). a ∷ b ∷ p.1) same ∙ ap (λ (xs : List ℕ). xs ++ rest) (sym pair) ∙ ap (λ (m : ℕ). to_be_bytes w16 m ++ rest) n_is,
    )

i16_by : (n : ℕ) (z : ℤ) (rest : List ℕ) → n < 2 ^ 16 → cast_signed w16 n ≡ z → signed_two (to_be_bytes w16 n ++ rest) ≡ Some (z, rest)
unfolding signed_two
i16_by n z rest lt e =
    let long : nat_lt (length (to_be_bytes w16 n ++ rest)) 2 ≡ false = le-ltb _ _ (omega arith) in
    rw (long, from_be_bytes-to_be_bytes_2 n lt, e) refl

pub i16_there : (z : ℤ) (rest : List ℕ) → FitsSigned w16 z → i16_front (to_be_bytes w16 (cast_unsigned w16 z) ++ rest) ≡ Ok (z, rest)
i16_there z rest fits = ap (λ (o : Option (ℤ × List ℕ)). let r : Parsed (ℤ × List ℕ) = ok_or o Short in r) (i16_by (cast_unsigned w16 z) z rest (Fits-of_z fits).fits (to_z-of_z fits))

signed_is : (bytes rest : List ℕ) (z : ℤ) → AreBytes bytes → signed_two bytes ≡ Some (z, rest) → FitsSigned w16 z × (bytes ≡ to_be_bytes w16 (cast_unsigned w16 z) ++ rest)
unfolding signed_two
signed_is [] rest z h e = absurd cc
signed_is (a ∷ []) rest z h e = absurd cc
signed_is (a ∷ b ∷ more) rest z h e =
    let n : ℕ = from_be_bytes w16 (a ∷ b ∷ []) in
    let t = test_failed (nat_lt (length (a ∷ b ∷ more)) 2) (Some (cast_signed w16 n, more)) (z, rest) e in
    let same = same_Some {A = ℤ × List ℕ} (cast_signed w16 n, more) (z, rest) t.1 in
    let below : (i : ℕ) → get_or (a ∷ b ∷ []) i 0 < 256 = bytes_below (a ∷ b ∷ []) (h.0, (h.1.0, tt)) in
    let pair : to_be_bytes w16 n ≡ a ∷ b ∷ [] = be_bytes_2 (a ∷ b ∷ []) n refl below refl in
    let small_a : a < 256 = h.0 in
    let small_b : b < 256 = h.1.0 in
    let fits : n < 2 ^ 16 = omega arith in
    let z_is : cast_signed w16 n ≡ z = ap (λ (p : ℤ × List ℕ). p.0) same in
    let n_is : n ≡ cast_unsigned w16 z = sym (of_z-to_z {w = w16} (record { fits = fits })) ∙ ap (cast_unsigned w16) z_is in (
      subst (FitsSigned w16) z_is (sfits_to_z {w = w16} (record { fits = fits })),
      ap (λ (p : ℤ × List ℕ). a ∷ b ∷ p.1) same ∙ ap (λ (xs : List ℕ). xs ++ rest) (sym pair) ∙ ap (λ (m : ℕ). to_be_bytes w16 m ++ rest) n_is,
    )

pub i16_is : (bytes rest : List ℕ) (z : ℤ) → AreBytes bytes → i16_front bytes ≡ Ok (z, rest) → FitsSigned w16 z × (bytes ≡ to_be_bytes w16 (cast_unsigned w16 z) ++ rest)
i16_is bytes rest z h e = signed_is bytes rest z h (found_or (signed_two bytes) Short (z, rest) e)

pub u32_there : (n : ℕ) (rest : List ℕ) → n < 2 ^ 32 → u32_front (to_be_bytes w32 n ++ rest) ≡ Ok (n, rest)
u32_there n rest fits = rw (number_there n rest fits) refl

pub u32_is : (bytes rest : List ℕ) (n : ℕ) → AreBytes bytes → u32_front bytes ≡ Ok (n, rest) → (n < 2 ^ 32) × (bytes ≡ to_be_bytes w32 n ++ rest)
u32_is bytes rest n h e = number_is bytes rest n h (found_or (number bytes) Short (n, rest) e)

-- ---- names

-- a zero byte after bytes that have none is the first one
first_there : (name rest : List ℕ) → AllByRecursion (λ b. (b == 0) ≡ false) name → position_or_len (λ b. b == 0) (name ++ 0 ∷ rest) ≡ length name
first_there [] rest none = refl
first_there (b ∷ name) rest none = let more = first_there name rest none.1 in rw none.0 (omega (arith, more))

position_there : (name rest : List ℕ) → AllByRecursion (λ b. (b == 0) ≡ false) name → position (λ b. b == 0) (name ++ 0 ∷ rest) ≡ Some (length name)
position_there name rest none =
    let first = first_there name rest none in
    let within : nat_lt (length name) (length (name ++ 0 ∷ rest)) ≡ true = lt-ltb _ _ (omega (arith, length-append name (0 ∷ rest))) in
    rw (first, within) refl

after_zero : (name rest : List ℕ) → drop (length name + 1) (name ++ 0 ∷ rest) ≡ rest
after_zero name rest =
    ap (drop (length name + 1)) (sym (append_assoc name (0 ∷ []) rest)) ∙ drop_at (name ++ 0 ∷ []) rest (length name + 1) (omega (arith, length-append name (0 ∷ [])))

ended_there : (name rest : List ℕ) → AllByRecursion (λ b. (b == 0) ≡ false) name → ended_front (name ++ 0 ∷ rest) ≡ Ok (name, rest)
unfolding ended_front
ended_there name rest none = rw (position_there name rest none, take_at name (0 ∷ rest) (length name) refl, after_zero name rest) refl

pub name_there : (name rest : List ℕ) → AllByRecursion (λ b. (b == 0) ≡ false) name → is_utf8 name ≡ true → name_front (name ++ 0 ∷ rest) ≡ Ok (name, rest)
unfolding name_front
name_there name rest none text = rw (ended_there name rest none, text) refl

mapped : {A B : Type 0} (f : A → B) (o : Option A) (y : B) → option_map f o ≡ Some y → (x : A) × (o ≡ Some x) × (f x ≡ y)
mapped f None y e = absurd cc
mapped f (Some x) y e = (x, refl, cc)

all_taken : (xs : List ℕ) (i : ℕ) → ((k : ℕ) → k < i → (get_or xs k 0 == 0) ≡ false) → i ≤ length xs → AllByRecursion (λ b. (b == 0) ≡ false) (take i xs)
all_taken xs zero h le = tt
all_taken [] (suc i) h le = absurd (omega arith)
all_taken (x ∷ xs) (suc i) h le = (h 0 (omega arith), all_taken xs i (λ k lt. h (suc k) (omega arith)) (omega arith))

record IsEnded (bytes name rest : List ℕ) : Type 0 where
  none : AllByRecursion (λ b. (b == 0) ≡ false) name
  whole : bytes ≡ name ++ 0 ∷ rest

ended_is : (bytes name rest : List ℕ) → ended_front bytes ≡ Ok (name, rest) → IsEnded bytes name rest
unfolding ended_front
ended_is bytes name rest e =
    let there = found_or (option_map (λ i. (take i bytes, drop (i + 1) bytes)) (position (λ b. b == 0) bytes)) Short (name, rest) e in
    let m = mapped {B = List ℕ × List ℕ} (λ i. (take i bytes, drop (i + 1) bytes)) (position (λ b. b == 0) bytes) (name, rest) there in
    let i : ℕ = m.0 in
    let at = position-Some (λ (b : ℕ). b == 0) bytes i 0 m.1 in
    let within : i < length bytes = at.0 in
    let zero_is : get_or bytes i 0 ≡ 0 = eqb-true (get_or bytes i 0) 0 at.1 in
    let next : i + 1 ≡ suc i = omega arith in
    let rest_is : drop (i + 1) bytes ≡ drop (suc i) bytes = ap (λ (n : ℕ). drop n bytes) next in
    let whole : bytes ≡ take i bytes ++ 0 ∷ drop (i + 1) bytes =
    sym (take-append-drop i bytes) ∙ ap (λ (xs : List ℕ). take i bytes ++ xs) (drop-cons bytes i 0 within ∙ ap (λ (b : ℕ). b ∷ drop (suc i) bytes) zero_is ∙ ap (λ (xs : List ℕ). 0 ∷ xs) (sym rest_is)) in
    subst (λ (q : List ℕ × List ℕ). IsEnded bytes q.0 q.1) m.2 (record { none = all_taken bytes i at.2 (omega arith); whole = whole })

pub record IsName (bytes name rest : List ℕ) : Type 0 where
  pub none : AllByRecursion (λ b. (b == 0) ≡ false) name
  pub text : is_utf8 name ≡ true
  pub whole : bytes ≡ name ++ 0 ∷ rest

pub name_is : (bytes name rest : List ℕ) → name_front bytes ≡ Ok (name, rest) → IsName bytes name rest
unfolding name_front
name_is bytes name rest e =
    let a = and_then_taken {A = List ℕ × List ℕ} (ended_front bytes) _ (name, rest) e in
    let t = held (is_utf8 a.0.0) Utf8 (Ok a.0) (name, rest) a.2 in
    let n = ended_is bytes a.0.0 a.0.1 a.1 in
    subst (λ (q : List ℕ × List ℕ). IsName bytes q.0 q.1) (ok_is {A = List ℕ × List ℕ} a.0 (name, rest) t.1) (record { none = n.none; text = t.0; whole = n.whole })

-- ---- formats

pub format_there : (f : PgValueFormat) → format_of_code (format_number f) ≡ Ok f
format_there Text = refl
format_there Binary = refl

format_by : (x y : Bool) (code : ℕ) (f : PgValueFormat) → nat_eq code 0 ≡ x → nat_eq code 1 ≡ y → cond {A = Parsed PgValueFormat} x (Ok Text) (cond y (Ok Binary) (Err OutOfRange)) ≡ Ok f → code ≡ format_number f
format_by true y code f is_0 is_1 e = eqb-true code 0 is_0 ∙ ap format_number (ok_is {A = PgValueFormat} Text f e)
format_by false true code f is_0 is_1 e = eqb-true code 1 is_1 ∙ ap format_number (ok_is {A = PgValueFormat} Binary f e)
format_by false false code f is_0 is_1 e = absurd cc

pub format_is : (code : ℕ) (f : PgValueFormat) → format_of_code code ≡ Ok f → code ≡ format_number f
format_is code f e = format_by _ _ code f refl refl e

-- ---- frames

pub framed : (part : Part) (rest : List ℕ) → FitsLength part → IsFrame (field_bytes part ++ rest) part rest
framed None rest h = refl
framed (Some part) rest h = (h, append_assoc (to_be_bytes w32 (length part)) part rest)

pub frame_bytes : (bytes : List ℕ) (part : Part) (rest : List ℕ) → IsFrame bytes part rest → FitsLength part × (bytes ≡ field_bytes part ++ rest)
frame_bytes bytes None rest e = (tt, e)
frame_bytes bytes (Some part) rest e = (e.0, e.1 ∙ sym (append_assoc (to_be_bytes w32 (length part)) part rest))

-- a part is read exactly from its frame
pub reads_part : ReadsOne FitsLength field_bytes one_part
reads_part bytes part rest h = (to, from)
  where
    to : (one_part bytes).answer ≡ Ok (part, rest) → FitsLength part × (bytes ≡ field_bytes part ++ rest)
    to e = frame_bytes bytes part rest ((front_exactly bytes part rest h).0 (found_or (front bytes) (frame_fault bytes) (part, rest) (stated_is (part_front bytes) (part, rest) e)))

    from : FitsLength part × (bytes ≡ field_bytes part ++ rest) → (one_part bytes).answer ≡ Ok (part, rest)
    from s =
        let found : front bytes ≡ Some (part, rest) = ap front s.1 ∙ frame_in_front (field_bytes part ++ rest) part rest (framed part rest s.0) in
        rw found refl

-- ---- the end

not_false : (b : Bool) → not b ≡ false → b ≡ true
not_false true e = refl
not_false false e = absurd (false≢true (sym e))

pub nothing_is : (rest : List ℕ) → not (nat_eq (length rest) 0) ≡ false → rest ≡ []
nothing_is [] e = refl
nothing_is (x ∷ rest) e = let none : suc (length rest) ≡ 0 = eqb-true (suc (length rest)) 0 (not_false (nat_eq (suc (length rest)) 0) e) in absurd (omega arith)

pub are_bytes : (xs : List ℕ) → ((i : ℕ) → get_or xs i 0 < 256) → AreBytes xs
are_bytes [] h = tt
are_bytes (x ∷ xs) h = (h 0, are_bytes xs (λ i. h (suc i)))
