-- What is in front of bytes is a frame, and every frame is found there.
use Rattle.std.proofs.Common.{◌≡◌, ℕ, ◌+◌, ◌<◌, ◌≤◌, ◌^◌, ◌==◌, Bool, true, false, cond, nat_lt, nat_eq, List, [], ◌∷◌, ◌++◌, length, take, drop, Option, Some, None, refl, sym, ap, ◌∙◌, subst, arith}
use Rattle.std.specs.Prelude.{◌↔◌}
use Rattle.std.specs.Int.{w32, to_be_bytes, from_be_bytes}
use Rattle.std.proofs.lemmas.Nat.{be_bytes_4, from_be_bytes-to_be_bytes_4}
use Rattle.std.proofs.lemmas.Bool.{le-ltb, lt-ltb, ne_eqb, eqb-true, ltb-false}
use Rattle.std.proofs.lemmas.List.{take-append-drop, length-take-le, length-append, length-drop, take_at, drop_at, take-append-le}
use Rattle.std.proofs.lemmas.List.Quantifiers.{position-Some}
use Rattle.std.proofs.lemmas.Option.{same_Some}
use Rattle.pgv_value.specs.FrameBinary.{Part, IsFrame, front, front_length, frame_fault}
use Rattle.pgv_value.specs.Fronts.{first_zero}
use Rattle.pgv_value.specs.FrameLaws.{AreBytes}
use Rattle.pgv_value.specs.declared.error.CodecError.TheVariants.{Short}
use Rattle.pgv_value.proofs.Numbers.{bytes_below, AreBytes-take}
use Rattle.std.proofs.lemmas.Str.{utf8_valid_len-IsUtf8}

-- ---- a frame is found in front

front_of_null : (rest : List ℕ) → front (255 ∷ 255 ∷ 255 ∷ 255 ∷ rest) ≡ Some (None, rest)
unfolding front
front_of_null rest =
    let long : nat_lt (length (to_be_bytes w32 4294967295 ++ rest)) 4 ≡ false = le-ltb _ _ (omega arith) in
    rw long refl

front_by : (bytes rest_after : List ℕ) (n : ℕ) → nat_lt (length bytes) 4 ≡ false → front_length bytes ≡ n → drop 4 bytes ≡ rest_after →
    front bytes ≡ cond {A = Option (Part × List ℕ)} (nat_eq n 4294967295) (Some (None, rest_after)) (cond (nat_lt 2147483647 n) None (cond (nat_lt (length rest_after) n) None (Some (Some (take n rest_after), drop n rest_after))))
unfolding front
front_by bytes rest_after n long n_is rest_after_is = rw (long, n_is, rest_after_is) refl

front_of_part : (part rest : List ℕ) (n : ℕ) → length part ≡ n → n < 2 ^ 31 → front (to_be_bytes w32 n ++ (part ++ rest)) ≡ Some (Some part, rest)
front_of_part part rest n len lt =
    let found = front_by (to_be_bytes w32 n ++ (part ++ rest)) (part ++ rest) n (le-ltb _ _ (omega arith)) (from_be_bytes-to_be_bytes_4 n (omega arith)) refl in
    let not_null : nat_eq n 4294967295 ≡ false = ne_eqb n 4294967295 (λ e. omega arith) in
    let small : nat_lt 2147483647 n ≡ false = le-ltb _ _ (omega arith) in
    let enough : nat_lt (length (part ++ rest)) n ≡ false = le-ltb _ _ (omega (arith, length-append part rest)) in
    found ∙ rw (not_null, small, enough, take_at part rest n len, drop_at part rest n len) refl

pub frame_in_front : (bytes : List ℕ) (part : Part) (rest : List ℕ) → IsFrame bytes part rest → front bytes ≡ Some (part, rest)
frame_in_front bytes None rest h = subst (λ (xs : List ℕ). front xs ≡ Some (None, rest)) (sym h) (front_of_null rest)
frame_in_front bytes (Some part) rest h = subst (λ (xs : List ℕ). front xs ≡ Some (Some part, rest)) (sym h.1) (front_of_part part rest (length part) refl h.0)

-- where the length in front is a short one that is known
pub front_of_size : (bytes : List ℕ) (size : ℕ) → size ≤ 16 → 4 + size ≤ length bytes → front_length bytes ≡ size → front bytes ≡ Some (Some (take size (drop 4 bytes)), drop size (drop 4 bytes))
unfolding front
front_of_size bytes size short there is =
    let long : nat_lt (length bytes) 4 ≡ false = le-ltb _ _ (omega (arith, there)) in
    let some : nat_eq size 4294967295 ≡ false = ne_eqb size 4294967295 (λ e. omega (arith, short, e)) in
    let positive : nat_lt 2147483647 size ≡ false = le-ltb _ _ (omega (arith, short)) in
    let enough : nat_lt (length (drop 4 bytes)) size ≡ false = le-ltb _ _ (omega (arith, there, length-drop 4 bytes)) in
    rw (long, is, some, positive, enough) refl

-- ---- what is found in front is a frame

-- of a length and what comes after it
frame_of : (bytes head rest_after : List ℕ) (n : ℕ) (part : Part) (rest : List ℕ) → bytes ≡ head ++ rest_after → to_be_bytes w32 n ≡ head → (x y z : Bool) → nat_eq n 4294967295 ≡ x → nat_lt 2147483647 n ≡ y → nat_lt (length rest_after) n ≡ z →
    cond {A = Option (Part × List ℕ)} x (Some (None, rest_after)) (cond y None (cond z None (Some (Some (take n rest_after), drop n rest_after)))) ≡ Some (part, rest) → IsFrame bytes part rest
frame_of bytes head rest_after n part rest whole head_is true y z null large short e =
    let n_is : n ≡ 4294967295 = eqb-true n 4294967295 null in
    let head_null : head ≡ 255 ∷ 255 ∷ 255 ∷ 255 ∷ [] = sym head_is ∙ ap (to_be_bytes w32) n_is in
    subst (λ (p : Part × List ℕ). IsFrame bytes p.0 p.1) (same_Some {A = Part × List ℕ} (None, rest_after) (part, rest) e) (whole ∙ ap (λ (xs : List ℕ). xs ++ rest_after) head_null)
frame_of bytes head rest_after n part rest whole head_is false true z null large short e = absurd cc
frame_of bytes head rest_after n part rest whole head_is false false true null large short e = absurd cc
frame_of bytes head rest_after n part rest whole head_is false false false null large short e =
    let small : n ≤ 2147483647 = ltb-false 2147483647 n large in
    let enough : n ≤ length rest_after = ltb-false (length rest_after) n short in
    let len : length (take n rest_after) ≡ n = length-take-le n rest_after enough in
    let parts : bytes ≡ to_be_bytes w32 (length (take n rest_after)) ++ (take n rest_after ++ drop n rest_after) =
    whole ∙ ap (λ (xs : List ℕ). xs ++ rest_after) (sym head_is ∙ ap (to_be_bytes w32) (sym len)) ∙ ap (λ (xs : List ℕ). to_be_bytes w32 (length (take n rest_after)) ++ xs) (sym (take-append-drop n rest_after)) in
    subst (λ (p : Part × List ℕ). IsFrame bytes p.0 p.1) (same_Some {A = Part × List ℕ} (Some (take n rest_after), drop n rest_after) (part, rest) e) (omega (arith, len), parts)

front_needs_four : (bytes : List ℕ) (part : Part) (rest : List ℕ) → nat_lt (length bytes) 4 ≡ true → front bytes ≡ Some (part, rest) → ⊥
unfolding front
front_needs_four bytes part rest few e = let none : front bytes ≡ None = rw few refl in absurd cc

front_is_frame : (bytes : List ℕ) (part : Part) (rest : List ℕ) → AreBytes bytes → (few : Bool) → nat_lt (length bytes) 4 ≡ few → front bytes ≡ Some (part, rest) → IsFrame bytes part rest
front_is_frame bytes part rest h true few e = absurd (front_needs_four bytes part rest few e)
front_is_frame bytes part rest h false enough e =
    let long : 4 ≤ length bytes = ltb-false (length bytes) 4 enough in
    let four : to_be_bytes w32 (front_length bytes) ≡ take 4 bytes =
    be_bytes_4 (take 4 bytes) (front_length bytes) (length-take-le 4 bytes long) (bytes_below (take 4 bytes) (AreBytes-take 4 bytes h)) refl in
    frame_of bytes (take 4 bytes) (drop 4 bytes) (front_length bytes) part rest (sym (take-append-drop 4 bytes)) four _ _ _ refl refl refl
    (sym (front_by bytes (drop 4 bytes) (front_length bytes) enough refl refl) ∙ e)

pub front_exactly : (bytes : List ℕ) (part : Part) (rest : List ℕ) → AreBytes bytes → (front bytes ≡ Some (part, rest)) ↔ IsFrame bytes part rest
front_exactly bytes part rest h = (front_is_frame bytes part rest h _ refl, frame_in_front bytes part rest)

-- ---- a frame that is cut off

front_of_few : (bytes : List ℕ) → nat_lt (length bytes) 4 ≡ true → (front bytes ≡ None) × (frame_fault bytes ≡ Short)
unfolding front
front_of_few bytes few = (rw few refl, rw few refl)

front_of_cut : (bytes : List ℕ) (n : ℕ) → nat_lt (length bytes) 4 ≡ false → front_length bytes ≡ n → nat_eq n 4294967295 ≡ false → nat_lt 2147483647 n ≡ false → nat_lt (length (drop 4 bytes)) n ≡ true →
    (front bytes ≡ None) × (frame_fault bytes ≡ Short)
unfolding front
front_of_cut bytes n enough n_is not_null small cut = (rw (enough, n_is, not_null, small, cut) refl, rw (enough, n_is, small) refl)

cut_off : (bytes rest_after : List ℕ) (part : Part) (few : Bool) → nat_lt (length bytes) 4 ≡ few → 0 < length rest_after → IsFrame (bytes ++ rest_after) part [] → (front bytes ≡ None) × (frame_fault bytes ≡ Short)
cut_off bytes rest_after part true few more h = front_of_few bytes few
cut_off bytes rest_after None false enough more h =
    let long : 4 ≤ length bytes = ltb-false (length bytes) 4 enough in
    let len = ap length h in
    absurd (omega (arith, length-append bytes rest_after))
cut_off bytes rest_after (Some part) false enough more h =
    let long : 4 ≤ length bytes = ltb-false (length bytes) 4 enough in
    let small : length part < 2 ^ 31 = h.0 in
    let len : length (bytes ++ rest_after) ≡ length (to_be_bytes w32 (length part) ++ (part ++ [])) = ap length h.1 in
    let four : take 4 bytes ≡ to_be_bytes w32 (length part) = sym (take-append-le 4 bytes rest_after long) ∙ ap (λ (xs : List ℕ). take 4 xs) h.1 in
    let n_is : front_length bytes ≡ length part = ap (from_be_bytes w32) four ∙ from_be_bytes-to_be_bytes_4 (length part) (omega arith) in
    front_of_cut bytes (length part) enough n_is (ne_eqb (length part) 4294967295 (λ e. omega arith)) (le-ltb _ _ (omega arith))
    (lt-ltb _ _ (omega (arith, length-append bytes rest_after, length-append part [], length-drop 4 bytes)))

pub cut_is_short : (bytes rest_after : List ℕ) (part : Part) → 0 < length rest_after → IsFrame (bytes ++ rest_after) part [] → (front bytes ≡ None) × (frame_fault bytes ≡ Short)
cut_is_short bytes rest_after part more h = cut_off bytes rest_after part _ refl more h

-- ---- the first zero byte is one of them

pub zero_within : (bytes : List ℕ) (i : ℕ) → Some i ≡ first_zero bytes → i < length bytes
zero_within bytes i is = (position-Some (λ (b : ℕ). b == 0) bytes i 0 (sym is)).0

-- a text is UTF-8 through its whole length
pub ruleset whole_text = utf8_valid_len-IsUtf8
