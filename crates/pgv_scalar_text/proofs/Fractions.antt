-- Fractions of a second.
use Rattle.std.proofs.Common.{◌≡◌, ◌≢◌, ℕ, zero, suc, ◌+◌, ◌-◌, ◌*◌, ◌/◌, ◌^◌, ◌<◌, ◌≤◌, Bool, true, false, nat_lt, ◌==◌, List, [], ◌∷◌, ◌++◌, map, length, get_or, None, refl, sym, ap, ◌∙◌, arith, inl, inr, ne_eqb, eqb-true, eq-eqb, lt-ltb, cond, subst}
use Rattle.std.specs.List.{AllByRecursion}
use Rattle.std.specs.Char.{is_ascii_digit}
use Rattle.std.specs.Int.Digits.{number_from_digits, number_from_digits_after}
use Rattle.std.proofs.lemmas.Nat.{pow-add, mul-le}
use Rattle.std.proofs.Math.Nat.{pow-suc}
use Rattle.std.proofs.lemmas.Option.{none-some}
use Rattle.std.proofs.lemmas.Bool.{false≢true, and_right, and_from}
use Rattle.std.proofs.NetLemmas.Options.{same_parts}
use Rattle.pgv_scalar_text.specs.FieldText.{worth, fraction, IsFractionIfAny}
use Rattle.pgv_scalar_text.proofs.DigitFields.{found, digit_is, digit_there}

-- The unit of the first of that many digits, of which the last is worth 1.
abbrev unit : ℕ → ℕ
unit zero = 0
unit (suc k) = 10 ^ k

unit_falls : (k : ℕ) → unit (suc k) / 10 ≡ unit k
unit_falls zero = refl
unit_falls (suc k) =
    let p = 10 ^ k in
    let e : 10 ^ suc k ≡ p * 10 = pow-suc 10 k in
    let f : p * 10 / 10 ≡ p = omega arith in
    ap (λ x. x / 10) e ∙ f

pow_some : (k : ℕ) → 0 < 10 ^ k
pow_some zero = omega arith
pow_some (suc k) =
    let some = pow_some k in
    let e = pow-suc 10 k in
    omega (arith, e)

-- What digits are worth, the first of that many worth 10 to one less.
abbrev places : ℕ → List ℕ → ℕ
places k [] = 0
places zero (d ∷ ds) = 0
places (suc k) (d ∷ ds) = d * 10 ^ k + places k ds

parts_of_product : (n d p : ℕ) → (n * 10 + d) * p ≡ n * (p * 10) + d * p
parts_of_product n d p = omega arith

shifted : (k n : ℕ) (ds : List ℕ) → length ds ≤ k → number_from_digits_after 10 n ds * 10 ^ (k - length ds) ≡ n * 10 ^ k + places k ds
shifted k n [] h =
    let e : k - length {A = ℕ} [] ≡ k = omega arith in
    let p = 10 ^ k in
    let f : n * p ≡ n * p + 0 = omega arith in
    ap (λ x. n * 10 ^ x) e ∙ f
shifted zero n (d ∷ ds) h = absurd (omega arith)
shifted (suc k) n (d ∷ ds) h =
    let e : suc k - length (d ∷ ds) ≡ k - length ds = omega arith in
    let ih = shifted k (n * 10 + d) ds (omega arith) in
    let f = parts_of_product n d (10 ^ k) in
    let g = pow-suc 10 k in
    ap (λ x. number_from_digits_after 10 (n * 10 + d) ds * 10 ^ x) e ∙ ih ∙ ap (λ x. x + places k ds) f ∙ ap (λ x. n * x + d * 10 ^ k + places k ds) (sym g) ∙ omega arith

pub places_are : (ds : List ℕ) → length ds ≤ 6 → number_from_digits 10 ds * 10 ^ (9 - length ds) ≡ places 6 ds * 1000
places_are ds h =
    let e : 9 - length ds ≡ (6 - length ds) + 3 = omega arith in
    let f = pow-add 10 (6 - length ds) 3 in
    let g = shifted 6 0 ds h in
    let n = number_from_digits 10 ds in
    let m = 10 ^ (6 - length ds) in
    let three : n * (m * 1000) ≡ n * m * 1000 = omega arith in
    ap (λ x. n * 10 ^ x) e ∙ ap (λ x. n * x) f ∙ three ∙ ap (λ x. x * 1000) g ∙ omega arith

-- A number and the text after it.
abbrev pair : ℕ → List ℕ → ℕ × List ℕ
pair n rest = (n, rest)

-- No digit stands at the front.
abbrev pub NoDigit : List ℕ → Type 0
NoDigit rest = is_ascii_digit (get_or rest 0 0) ≡ false

stopped : (u : ℕ) (rest : List ℕ) → NoDigit rest → worth u rest ≡ pair 0 rest
stopped u [] h = refl
stopped u (c ∷ cs) h = rw (and_right (nat_lt 0 u) (is_ascii_digit c) h)

one_more : (k d v : ℕ) (cs rest : List ℕ) → d < 10 → worth (unit k) cs ≡ pair v rest → worth (unit (suc k)) ((48 + d) ∷ cs) ≡ pair (d * 10 ^ k + v) rest
one_more k d v cs rest h e =
    let test = and_from (nat_lt 0 (10 ^ k)) (is_ascii_digit (48 + d)) (lt-ltb 0 (10 ^ k) (pow_some k)) (digit_there d h) in
    let value : 48 + d - 48 ≡ d = omega arith in
    rw (test, unit_falls k, e, value)

pub worth_read : (k : ℕ) (ds rest : List ℕ) → length ds ≤ k → AllByRecursion (λ d. d < 10) ds → NoDigit rest → worth (unit k) (map (λ d. 48 + d) ds ++ rest) ≡ pair (places k ds) rest
worth_read k [] rest few each stop = stopped (unit k) rest stop
worth_read zero (d ∷ ds) rest few each stop = absurd (omega arith)
worth_read (suc k) (d ∷ ds) rest few each stop =
    one_more k d (places k ds) (map (λ d. 48 + d) ds ++ rest) rest each.0 (worth_read k ds rest (omega arith) each.1 stop)

-- Digits at the front of a text, at most that many, and what they are worth.
pub record HasDigits (k : ℕ) (text rest : List ℕ) (v : ℕ) : Type 0 where
  pub digits : List ℕ
  pub few : length digits ≤ k
  pub each : AllByRecursion (λ d. d < 10) digits
  pub whole : text ≡ map (λ d. 48 + d) digits ++ rest
  pub value : v ≡ places k digits

no_digits : (k : ℕ) (text rest : List ℕ) (v : ℕ) → pair 0 text ≡ pair v rest → HasDigits k text rest v
no_digits k text rest v e = record { digits = []; few = omega arith; each = tt; whole = ap (λ p. p.1) e; value = sym (ap (λ p. p.0) e) }

more_digits : (k c : ℕ) (cs rest : List ℕ) (v : ℕ) → is_ascii_digit c ≡ true → HasDigits k cs rest v → (h : HasDigits (suc k) (c ∷ cs) rest ((c - 48) * 10 ^ k + v)) × (0 < length h.digits)
more_digits k c cs rest v test h =
    let (low, high) = digit_is c test in
    let same : c ≡ 48 + (c - 48) = omega arith in (
      record {
        digits = (c - 48) ∷ h.digits;
        few = omega (arith, h.few);
        each = (omega arith, h.each);
        whole = ap (λ x. x ∷ cs) same ∙ ap (λ t. (48 + (c - 48)) ∷ t) h.whole;
        value = ap (λ x. (c - 48) * 10 ^ k + x) h.value;
      },
      omega arith,
    )

-- a digit at the front, and the others
digit_first : (k c : ℕ) (cs : List ℕ) → is_ascii_digit c ≡ true → worth (unit (suc k)) (c ∷ cs) ≡ pair ((c - 48) * 10 ^ k + (worth (unit k) cs).0) (worth (unit k) cs).1
digit_first k c cs test =
    let all = and_from (nat_lt 0 (10 ^ k)) (is_ascii_digit c) (lt-ltb 0 (10 ^ k) (pow_some k)) test in
    rw (all, unit_falls k)

digits_at : (k c : ℕ) (cs rest : List ℕ) (v : ℕ) (b : Bool) → is_ascii_digit c ≡ b → ((w : ℕ) (behind : List ℕ) → worth (unit k) cs ≡ pair w behind → HasDigits k cs behind w) → worth (unit (suc k)) (c ∷ cs) ≡ pair v rest → HasDigits (suc k) (c ∷ cs) rest v
digits_at k c cs rest v false test next e =
    no_digits (suc k) (c ∷ cs) rest v (sym (stopped (unit (suc k)) (c ∷ cs) test) ∙ e)
digits_at k c cs rest v true test next e =
    let w = (worth (unit k) cs).0 in
    let behind = (worth (unit k) cs).1 in
    let h = (more_digits k c cs behind w test (next w behind refl)).0 in
    subst (λ p. HasDigits (suc k) (c ∷ cs) p.1 p.0) (sym (digit_first k c cs test) ∙ e) h

pub worth_is : (k : ℕ) (text rest : List ℕ) (v : ℕ) → worth (unit k) text ≡ pair v rest → HasDigits k text rest v
worth_is k [] rest v e = no_digits k [] rest v e
worth_is zero (c ∷ cs) rest v e = no_digits zero (c ∷ cs) rest v e
worth_is (suc k) (c ∷ cs) rest v e = digits_at k c cs rest v (is_ascii_digit c) refl (λ w behind. worth_is k cs behind w) e

-- ---- the fraction

-- Nothing at the front that a fraction could go on with.
abbrev pub Stops : List ℕ → Type 0
Stops rest = (get_or rest 0 0 ≢ 46) × NoDigit rest

other_than : (n m : ℕ) → n < m → n ≢ m
other_than n m h e = omega arith

pub nothing_stops : Stops []
nothing_stops = (other_than 0 46 (omega arith), refl)

-- 43 is `+` and 45 is `-`
pub plus_stops : (rest : List ℕ) → Stops (43 ∷ rest)
plus_stops rest = (other_than 43 46 (omega arith), refl)

pub minus_stops : (rest : List ℕ) → Stops (45 ∷ rest)
minus_stops rest = (other_than 45 46 (omega arith), refl)

no_fraction : (rest : List ℕ) → get_or rest 0 0 ≢ 46 → fraction rest ≡ found 0 rest
no_fraction [] h = refl
no_fraction (c ∷ []) h = rw (ne_eqb c 46 h)
no_fraction (c ∷ d ∷ cs) h = rw (ne_eqb c 46 h)

pub chosen : {A : Type 0} (b : Bool) (x y : A) → b ≡ true → cond b x y ≡ x
chosen b x y h = rw h

pub refused : {A : Type 0} (b : Bool) (x y : A) → b ≡ false → cond b x y ≡ y
refused b x y h = rw h

some_fraction : (digits rest : List ℕ) → 0 < length digits → length digits ≤ 6 → AllByRecursion (λ d. d < 10) digits → NoDigit rest → fraction (46 ∷ map (λ d. 48 + d) digits ++ rest) ≡ found (places 6 digits * 1000) rest
some_fraction [] rest some few each stop = absurd (omega arith)
some_fraction (d ∷ ds) rest some few each stop =
    let read : worth 100_000 ((48 + d) ∷ map (λ d. 48 + d) ds ++ rest) ≡ pair (places 6 (d ∷ ds)) rest = worth_read 6 (d ∷ ds) rest few each stop in
    chosen (is_ascii_digit (48 + d)) _ None (digit_there d each.0) ∙ ap (λ p. found (p.0 * 1000) p.1) read

pub fraction_read : (text rest : List ℕ) (nanos : ℕ) → IsFractionIfAny text nanos → Stops rest → fraction (text ++ rest) ≡ found nanos rest
fraction_read text rest nanos (inl none) stop =
    ap (λ t. fraction (t ++ rest)) none.0 ∙ no_fraction rest stop.0 ∙ ap (λ n. found n rest) (sym none.1)
fraction_read text rest nanos (inr h) stop =
    ap (λ t. fraction (t ++ rest)) h.whole ∙ some_fraction h.digits rest h.some h.few h.each stop.1 ∙ ap (λ n. found n rest) (sym (h.value ∙ places_are h.digits h.few))

-- A fraction in front of the rest of a text.
abbrev pub HasFraction : List ℕ → List ℕ → ℕ → Type 0
HasFraction text rest nanos = (front : List ℕ) × (text ≡ front ++ rest) × IsFractionIfAny front nanos

has_none : (text rest : List ℕ) (nanos : ℕ) → found 0 text ≡ found nanos rest → HasFraction text rest nanos
has_none text rest nanos e =
    let (zero_is, rest_is) = same_parts _ _ _ _ e in
    ([], rest_is, inl (refl, sym zero_is))

some_digits : (d : ℕ) (cs rest : List ℕ) (nanos : ℕ) → is_ascii_digit d ≡ true → found ((worth 100_000 (d ∷ cs)).0 * 1000) (worth 100_000 (d ∷ cs)).1 ≡ found nanos rest → HasFraction (46 ∷ d ∷ cs) rest nanos
some_digits d cs rest nanos test e =
    let w = (worth 10_000 cs).0 in
    let behind = (worth 10_000 cs).1 in
    let (h, some) = more_digits 5 d cs behind w test (worth_is 5 cs behind w refl) in
    let first : worth 100_000 (d ∷ cs) ≡ pair ((d - 48) * 100_000 + w) behind = digit_first 5 d cs test in
    let (value, rest_is) = same_parts _ _ _ _ (ap (λ p. found (p.0 * 1000) p.1) (sym first) ∙ e) in (
      46 ∷ map (λ d. 48 + d) h.digits,
      ap (λ t. 46 ∷ t) h.whole ∙ ap (λ t. 46 ∷ map (λ d. 48 + d) h.digits ++ t) rest_is,
      inr (record {
        digits = h.digits;
        some = some;
        few = h.few;
        each = h.each;
        whole = refl;
        value = sym value ∙ ap (λ x. x * 1000) h.value ∙ sym (places_are h.digits h.few);
      }),
    )

after_dot : (d : ℕ) (cs rest : List ℕ) (nanos : ℕ) (b : Bool) → is_ascii_digit d ≡ b → fraction (46 ∷ d ∷ cs) ≡ found nanos rest → HasFraction (46 ∷ d ∷ cs) rest nanos
after_dot d cs rest nanos true test e = some_digits d cs rest nanos test (sym (chosen (is_ascii_digit d) _ None test) ∙ e)
after_dot d cs rest nanos false test e =
    let none : None ≡ found nanos rest = ap (λ b. cond b (found ((worth 100_000 (d ∷ cs)).0 * 1000) (worth 100_000 (d ∷ cs)).1) None) (sym test) ∙ e in
    absurd (none-some (nanos, rest) none)

at_first : (c : ℕ) (cs rest : List ℕ) (nanos : ℕ) (b : Bool) → (c == 46) ≡ b → fraction (c ∷ cs) ≡ found nanos rest → HasFraction (c ∷ cs) rest nanos
at_first c cs rest nanos false test e = has_none (c ∷ cs) rest nanos (sym (no_fraction (c ∷ cs) (λ dot. false≢true (sym test ∙ eq-eqb c 46 dot))) ∙ e)
at_first c [] rest nanos true test e =
    let none : None ≡ found nanos rest = rw test at e in
    absurd (none-some (nanos, rest) none)
at_first c (d ∷ cs) rest nanos true test e =
    let dot = eqb-true c 46 test in
    subst (λ x. HasFraction (x ∷ d ∷ cs) rest nanos) (sym dot) (after_dot d cs rest nanos (is_ascii_digit d) refl (subst (λ x. fraction (x ∷ d ∷ cs) ≡ found nanos rest) dot e))

pub fraction_is : (text rest : List ℕ) (nanos : ℕ) → fraction text ≡ found nanos rest → HasFraction text rest nanos
fraction_is [] rest nanos e = has_none [] rest nanos e
fraction_is (c ∷ cs) rest nanos e = at_first c cs rest nanos (c == 46) refl e

places_lt : (k : ℕ) (ds : List ℕ) → AllByRecursion (λ d. d < 10) ds → places k ds < 10 ^ k
places_lt k [] h = pow_some k
places_lt zero (d ∷ ds) h = omega arith
places_lt (suc k) (d ∷ ds) h =
    let less = places_lt k ds h.1 in
    let p = 10 ^ k in
    let e : 10 ^ suc k ≡ p * 10 = pow-suc 10 k in
    let most : d * p ≤ 9 * p = mul-le d p 9 p (omega (arith, h.0)) (omega arith) in
    omega arith

pub fraction_lt : (text : List ℕ) (nanos : ℕ) → IsFractionIfAny text nanos → nanos < 1_000_000_000
fraction_lt text nanos (inl none) = omega (arith, none.1)
fraction_lt text nanos (inr h) =
    let value = h.value ∙ places_are h.digits h.few in
    let less = places_lt 6 h.digits h.each in
    omega (arith, value, less)
