-- Steps one after another, the numbers that they read, and what is left after them.
use Rattle.std.proofs.Common.{◌≡◌, ℕ, zero, suc, ◌-◌, ◌<◌, ◌≤◌, ◌^◌, arith, Bool, true, false, nat_lt, List, [], ◌∷◌, ◌++◌, length, get_or, take, drop, Option, Some, None, refl, sym, ◌∙◌, ap, subst}
use Rattle.std.specs.Prelude.{if◌then◌else◌}
use Rattle.std.specs.Int.{w32, w64, to_be_bytes, from_be_bytes, cast_signed}
use Rattle.std.proofs.Math.Seq.{take-length}
use Rattle.std.proofs.lemmas.Bool.{le-ltb}
use Rattle.std.proofs.lemmas.List.{take_at, drop_at, length-append, take-take}
use Rattle.std.proofs.lemmas.Nat.{be_bytes_4, from_be_bytes-to_be_bytes_4}
use Rattle.std.proofs.lemmas.Option.{same_Some}
use Rattle.pgv_value.specs.FrameBinary.{Part, IsFrame}
use Rattle.pgv_value.specs.FrameLaws.{AreBytes}
use Rattle.pgv_value.specs.Interval.{eight_bytes, signed_four_bytes}
use Rattle.pgv_value.specs.ReadingSteps.{◌>>=◌, number}

-- ---- steps and tests

pub step_taken : {A B : Type 0} (o : Option A) (f : A → Option B) (y : B) → o >>= f ≡ Some y → (x : A) × (o ≡ Some x) × (f x ≡ Some y)
step_taken None f y e = absurd cc
step_taken (Some x) f y e = (x, refl, e)

pub test_failed : {A : Type 0} (b : Bool) (o : Option A) (y : A) → (if b then None else o) ≡ Some y → (b ≡ false) × (o ≡ Some y)
test_failed true o y e = absurd cc
test_failed false o y e = (refl, e)

pub pair_is : {A B : Type 0} (a c : A) (b d : B) → (let o : Option (A × B) = Some (a, b) in o) ≡ Some (c, d) → (a ≡ c) × (b ≡ d)
pair_is {A} {B} a c b d e =
    let p = same_Some {A = A × B} (a, b) (c, d) e in
    (ap (λ (q : A × B). q.0) p, ap (λ (q : A × B). q.1) p)

-- ---- bytes

pub bytes_below : (xs : List ℕ) → AreBytes xs → (i : ℕ) → get_or xs i 0 < 256
bytes_below [] h i = omega arith
bytes_below (x ∷ xs) h zero = h.0
bytes_below (x ∷ xs) h (suc i) = bytes_below xs h.1 i

pub AreBytes-take : (n : ℕ) (xs : List ℕ) → AreBytes xs → AreBytes (take n xs)
AreBytes-take zero xs h = tt
AreBytes-take (suc n) [] h = tt
AreBytes-take (suc n) (x ∷ xs) h = (h.0, AreBytes-take n xs h.1)

pub bytes_after : (xs ys : List ℕ) → AreBytes (xs ++ ys) → AreBytes ys
bytes_after [] ys h = h
bytes_after (x ∷ xs) ys h = bytes_after xs ys h.1

-- ---- numbers

pub number_of_four : (four rest : List ℕ) → length four ≡ 4 → number (four ++ rest) ≡ Some (from_be_bytes w32 four, rest)
unfolding number
number_of_four four rest len =
    let long : nat_lt (length (four ++ rest)) 4 ≡ false = le-ltb _ _ (omega (arith, length-append four rest)) in
    rw (long, take_at four rest 4 len, drop_at four rest 4 len) refl

pub number_there : (n : ℕ) (rest : List ℕ) → n < 2 ^ 32 → number (to_be_bytes w32 n ++ rest) ≡ Some (n, rest)
number_there n rest fits = number_of_four (to_be_bytes w32 n) rest refl ∙ ap (λ (m : ℕ). Some (m, rest)) (from_be_bytes-to_be_bytes_4 n fits)

four_fit : (a b c d : ℕ) → a < 256 → b < 256 → c < 256 → d < 256 → from_be_bytes w32 (a ∷ b ∷ c ∷ d ∷ []) < 2 ^ 32
four_fit a b c d p q r s = omega arith

-- a number in front is four bytes
pub number_splits : (bytes rest : List ℕ) (n : ℕ) → number bytes ≡ Some (n, rest) → (a b c d : ℕ) × (bytes ≡ a ∷ b ∷ c ∷ d ∷ rest) × (from_be_bytes w32 (a ∷ b ∷ c ∷ d ∷ []) ≡ n)
unfolding number
number_splits [] rest n e = absurd cc
number_splits (a ∷ []) rest n e = absurd cc
number_splits (a ∷ b ∷ []) rest n e = absurd cc
number_splits (a ∷ b ∷ c ∷ []) rest n e = absurd cc
number_splits (a ∷ b ∷ c ∷ d ∷ more) rest n e =
    let four : List ℕ = a ∷ b ∷ c ∷ d ∷ [] in
    let k = pair_is (from_be_bytes w32 four) n more rest (sym (number_of_four four more refl) ∙ e) in
    (a, b, c, d, ap (λ (r : List ℕ). a ∷ b ∷ c ∷ d ∷ r) k.1, k.0)

pub number_is : (bytes rest : List ℕ) (n : ℕ) → AreBytes bytes → number bytes ≡ Some (n, rest) → (n < 2 ^ 32) × (bytes ≡ to_be_bytes w32 n ++ rest)
number_is bytes rest n h e =
    let k = number_splits bytes rest n e in
    let four : List ℕ = k.0 ∷ k.1 ∷ k.2 ∷ k.3 ∷ [] in
    let below : AreBytes (k.0 ∷ k.1 ∷ k.2 ∷ k.3 ∷ rest) = subst AreBytes k.4 h in
    let four_is : to_be_bytes w32 n ≡ four = be_bytes_4 four n refl (bytes_below four (below.0, (below.1.0, (below.1.1.0, (below.1.1.1.0, tt))))) (sym k.5) in
    (subst (λ m. m < 2 ^ 32) k.5 (four_fit k.0 k.1 k.2 k.3 below.0 below.1.0 below.1.1.0 below.1.1.1.0), k.4 ∙ ap (λ (r : List ℕ). r ++ rest) (sym four_is))

pub after_four : (n : ℕ) (bytes rest : List ℕ) → bytes ≡ to_be_bytes w32 n ++ rest → AreBytes bytes → AreBytes rest
after_four n bytes rest e h = bytes_after (to_be_bytes w32 n) rest (subst AreBytes e h)

pub after_frame : (bytes : List ℕ) (part : Part) (rest : List ℕ) → IsFrame bytes part rest → AreBytes bytes → AreBytes rest
after_frame bytes None rest e h = bytes_after (255 ∷ 255 ∷ 255 ∷ 255 ∷ []) rest (subst AreBytes e h)
after_frame bytes (Some part) rest e h = bytes_after part rest (bytes_after (to_be_bytes w32 (length part)) (part ++ rest) (subst AreBytes e.1 h))

-- a number is read from the bytes at the front
pub front_of_four : (bytes : List ℕ) → signed_four_bytes (take 4 bytes) ≡ signed_four_bytes bytes
front_of_four bytes = ap (λ (xs : List ℕ). cast_signed w32 (from_be_bytes w32 xs)) (take-take 4 4 bytes (omega arith))

pub front_of_eight : (bytes : List ℕ) → eight_bytes (take 8 bytes) ≡ eight_bytes bytes
front_of_eight bytes = ap (λ (xs : List ℕ). cast_signed w64 (from_be_bytes w64 xs)) (take-take 8 8 bytes (omega arith))

-- ---- the bytes of a network are four and the octets

all_octets : (a b c d : ℕ) (octets : List ℕ) → take (length (a ∷ b ∷ c ∷ d ∷ octets) - 4) octets ≡ octets
all_octets a b c d octets =
    let e : length (a ∷ b ∷ c ∷ d ∷ octets) - 4 ≡ length octets = omega arith in
    ap (λ n. take n octets) e ∙ take-length octets

pub four_and_octets : (bytes : List ℕ) → 4 ≤ length bytes → get_or bytes 0 0 ∷ get_or bytes 1 0 ∷ get_or bytes 2 0 ∷ get_or bytes 3 0 ∷ take (length bytes - 4) (drop 4 bytes) ≡ bytes
four_and_octets [] h = absurd (omega arith)
four_and_octets (a ∷ []) h = absurd (omega arith)
four_and_octets (a ∷ b ∷ []) h = absurd (omega arith)
four_and_octets (a ∷ b ∷ c ∷ []) h = absurd (omega arith)
four_and_octets (a ∷ b ∷ c ∷ d ∷ octets) h = ap (λ rest. a ∷ b ∷ c ∷ d ∷ rest) (all_octets a b c d octets)
