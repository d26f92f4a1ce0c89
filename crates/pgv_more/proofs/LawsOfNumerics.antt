-- The laws of numerics.
use Rattle.std.proofs.Common.{◌≡◌, ◌↔◌, Bool, true, List, refl, ap, ℕ, zero, suc, ◌*◌, ◌<◌, ◌≤◌, ◌^◌, false, cond, [], ◌∷◌, ◌++◌, length, drop, Some, None, Ok, sym, ◌∙◌, subst, arith, append_assoc, ◌⊎◌, inl, inr}
use Rattle.std.proofs.lemmas.Bool.Decides.{Decides-int_eq, nat_tests}
use Rattle.std.proofs.lemmas.Slice.Eq.{slice_eq-Decides}
use Rattle.std.specs.Prelude.{ℤ, ◌&&◌, nat_lt, ◌==◌, ok_or}
use Rattle.std.specs.Cmp.Lexicographic.{pointwise}
use Rattle.std.specs.Ordering.{int_eq}
use Rattle.std.proofs.lemmas.Bool.{and_parts, false≢true, le-ltb, eqb-true}
use Rattle.pgv_more.specs.Numeric.{Numeric, not_a_number, number, word, sign_word, number_form, no_number, digits, digits_after, sign_of, said_sign, signed_word, unsigned_word, signed_number, number_in_binary, numeric_in_binary}
use Rattle.pgv_more.specs.declared.numeric.PgNumericSign.{PgNumericSign}
use Rattle.std.specs.Int.{w16, to_be_bytes}
use Rattle.std.specs.List.{flat_map, list_all}
use Rattle.pgv_value.specs.FrameLaws.{AreBytes}
use Rattle.pgv_value.specs.IntBinary.{fits_signed}
use Rattle.pgv_value.specs.Outcome.{done}
use Rattle.pgv_value.specs.declared.error.CodecError.TheVariants.{NumericSign, Short}
use Rattle.pgv_value.proofs.Outcomes.{answer_is, found_or, taken, taken_exactly, tested}
use Rattle.pgv_more.proofs.NumericWords.{by_eight, unsigned_two, signed_two}
use Rattle.pgv_more.specs.NumericLaws.{IsNumeric, NumericIsRead, OneNumeric}
use Rattle.pgv_more.specs.NumericBackLemmas.{number_there}
use Rattle.pgv_more.specs.declared.numeric.PgNumericSign.TheVariants.{Positive, Negative}

-- ---- numbers are equal where their parts are

-- the parts of a number, and something where there are none
digits_of : List ℤ → Numeric → List ℤ
digits_of other not_a_number = other
digits_of other (number sign ds weight scale) = ds

weight_of : ℤ → Numeric → ℤ
weight_of other not_a_number = other
weight_of other (number sign ds weight scale) = weight

scale_of : ℤ → Numeric → ℤ
scale_of other not_a_number = other
scale_of other (number sign ds weight scale) = scale

own_sign : PgNumericSign → Numeric → PgNumericSign
own_sign other not_a_number = other
own_sign other (number sign ds weight scale) = sign

-- where `same` decides whether signs are equal
pub equal_parts :
    (s t : PgNumericSign) (same : Bool) (xs ys : List ℤ) (w v c d : ℤ) → ((same ≡ true) ↔ (s ≡ t)) →
    ((same && (pointwise int_eq xs ys && (int_eq w v && int_eq c d))) ≡ true) ↔ (number s xs w c ≡ number t ys v d)
unfolding own_sign digits_of weight_of scale_of
equal_parts s t same xs ys w v c d decides = (
  λ e. let a = and_parts same (pointwise int_eq xs ys && (int_eq w v && int_eq c d)) e in
      let b = and_parts (pointwise int_eq xs ys) (int_eq w v && int_eq c d) a.1 in
      let k = and_parts (int_eq w v) (int_eq c d) b.1 in
      rw (decides.0 a.0, (slice_eq-Decides Decides-int_eq xs ys (pointwise int_eq xs ys) refl).0 b.0, (Decides-int_eq w v).0 k.0, (Decides-int_eq c d).0 k.1) refl,
  λ e. rw (decides.1 (ap (own_sign s) e), (slice_eq-Decides Decides-int_eq xs ys (pointwise int_eq xs ys) refl).1 (ap (digits_of xs) e), (Decides-int_eq w v).1 (ap (weight_of w) e), (Decides-int_eq c d).1 (ap (scale_of c) e)) refl,
)

-- ---- the laws of numbers

-- ---- digits

-- n digits are read from twice as many bytes, and each has room in two
pub digits_are : (n : ℕ) (form : List ℕ) → AreBytes form → 2 * n ≤ length form →
    (rest : List ℕ) × (form ≡ flat_map word (digits n form) ++ rest) × (length (digits n form) ≡ n) × (list_all (fits_signed w16) (digits n form) ≡ true)
digits_are zero form small long = (form, refl, refl, refl)
digits_are (suc n) [] small long = absurd (omega arith)
digits_are (suc n) (a ∷ []) small long = absurd (omega arith)
digits_are (suc n) (a ∷ b ∷ form) small long =
    let k = digits_are n form small.1.1 (omega arith) in
    let s = signed_two a b small.0 small.1.0 in (
      k.0,
      ap (λ (xs : List ℕ). xs ++ form) (sym s.1) ∙ ap (λ (xs : List ℕ). word (signed_word (a ∷ b ∷ form)) ++ xs) k.1 ∙ sym (append_assoc (word (signed_word (a ∷ b ∷ form))) (flat_map word (digits n form)) k.0),
      ap suc k.2,
      rw (s.0, k.3) refl,
    )

-- ---- what is read

sign_is : (said : ℕ) (sign : PgNumericSign) → sign_of said ≡ Some sign → said ≡ sign_word sign
sign_is said Positive e = is_zero (said == 0) (said == 16384) refl e
  where
    is_zero : (a b : Bool) → (said == 0) ≡ a → cond a (Some Positive) (cond b (Some Negative) None) ≡ Some Positive → said ≡ 0
    is_zero true b test e = eqb-true said 0 test
    is_zero false true test e = absurd (cc)
    is_zero false false test e = absurd (cc)
sign_is said Negative e = is_negative (said == 0) (said == 16384) refl e
  where
    is_negative : (a b : Bool) → (said == 16384) ≡ b → cond a (Some Positive) (cond b (Some Negative) None) ≡ Some Negative → said ≡ 16384
    is_negative true b test e = absurd (cc)
    is_negative false true test e = eqb-true said 16384 test
    is_negative false false test e = absurd (cc)

-- no number is read, or one after its sign
abbrev Apart : List ℕ → Numeric → Type 0
Apart form n = ((said_sign form ≡ no_number) × (n ≡ not_a_number)) ⊎ ((sign : PgNumericSign) × (said_sign form ≡ sign_word sign) × ((signed_number form sign).answer ≡ Ok n))

under : (form : List ℕ) (n : Numeric) (b : Bool) → (said_sign form == no_number) ≡ b → (cond b (done not_a_number) (number_in_binary form)).answer ≡ Ok n → Apart form n
under form n true test e = inl (eqb-true (said_sign form) no_number test, sym (answer_is not_a_number n e))
under form n false test e =
    let sign = sign_of (said_sign form) in
    let k = taken_exactly (ok_or sign (NumericSign (said_sign form))) (signed_number form) n e in
    inr (k.0, sign_is (said_sign form) k.0 (found_or sign (NumericSign (said_sign form)) k.0 k.1), k.2)

-- at least eight bytes are read
apart : (form : List ℕ) (n : Numeric) → (numeric_in_binary form).answer ≡ Ok n → (nat_lt (length form) 8 ≡ false) × Apart form n
apart form n e =
    let k = tested (nat_lt (length form) 8) Short _ n e in
    (k.0, under form n (said_sign form == no_number) refl k.1)

numbered : (form : List ℕ) (sign : PgNumericSign) (n : Numeric) → (signed_number form sign).answer ≡ Ok n →
    (2 * unsigned_word form ≤ length (drop 8 form)) × (number sign (digits (unsigned_word form) (drop 8 form)) (signed_word (drop 2 form)) (signed_word (drop 6 form)) ≡ n)
numbered form sign n e =
    let count = unsigned_word form in
    let found = taken (digits_after count (drop 8 form)) _ n e in
    let long = tested (nat_lt (length (drop 8 form)) (2 * count)) Short _ found.0 found.1 in
    let is = answer_is (digits count (drop 8 form)) found.0 long.1 in
    (grind (arith, nat_tests, long.0), ap (λ (ds : List ℤ). number sign ds (signed_word (drop 2 form)) (signed_word (drop 6 form))) is ∙ answer_is _ n found.2)

-- ---- the two directions

is_number : (a b c d e f g h : ℕ) (rest : List ℕ) (sign : PgNumericSign) (n : Numeric) → AreBytes (a ∷ b ∷ c ∷ d ∷ e ∷ f ∷ g ∷ h ∷ rest) →
    let form = a ∷ b ∷ c ∷ d ∷ e ∷ f ∷ g ∷ h ∷ rest in said_sign form ≡ sign_word sign → (signed_number form sign).answer ≡ Ok n → IsNumeric form n
is_number a b c d e f g h rest sign n small said read =
    let form = a ∷ b ∷ c ∷ d ∷ e ∷ f ∷ g ∷ h ∷ rest in
    let count = unsigned_two a b small.0 small.1.0 in
    let weight = signed_two c d small.1.1.0 small.1.1.1.0 in
    let sign_is = unsigned_two e f small.1.1.1.1.0 small.1.1.1.1.1.0 in
    let scale = signed_two g h small.1.1.1.1.1.1.0 small.1.1.1.1.1.1.1.0 in
    let k = numbered form sign n read in
    let ds = digits_are (unsigned_word form) rest small.1.1.1.1.1.1.1.1 k.0 in
    let found = digits (unsigned_word form) rest in
    let front : to_be_bytes w16 (length found) ≡ a ∷ b ∷ [] = ap (to_be_bytes w16) ds.2 ∙ count.1 in
    let middle : to_be_bytes w16 (sign_word sign) ≡ e ∷ f ∷ [] = ap (to_be_bytes w16) (sym said) ∙ sign_is.1 in
    let whole : number_form sign found (signed_word (drop 2 form)) (signed_word (drop 6 form)) ≡ (a ∷ b ∷ []) ++ ((c ∷ d ∷ []) ++ ((e ∷ f ∷ []) ++ ((g ∷ h ∷ []) ++ flat_map word found))) =
    joined (flat_map word found) front weight.1 middle scale.1 in
    subst (IsNumeric form) k.1 (record {
      rest = ds.0;
      whole = ap (λ (xs : List ℕ). a ∷ b ∷ c ∷ d ∷ e ∷ f ∷ g ∷ h ∷ xs) ds.1 ∙ ap (λ (xs : List ℕ). xs ++ ds.0) (sym whole);
      few = subst (λ m. m < 2 ^ 16) (sym ds.2) count.0;
      digits_fit = ds.3;
      weight_fits = weight.0;
      scale_fits = scale.0;
    })
  where
    joined : {p q r s p' q' r' s' : List ℕ} (tail : List ℕ) → p ≡ p' → q ≡ q' → r ≡ r' → s ≡ s' → (p ++ (q ++ (r ++ s))) ++ tail ≡ (p' ++ (q' ++ (r' ++ s'))) ++ tail
    joined tail e f g h = rw (e, f, g, h) refl

too_short : (form : List ℕ) → nat_lt (length form) 8 ≡ true → (n : Numeric) → AreBytes form → (numeric_in_binary form).answer ≡ Ok n → IsNumeric form n
too_short form short n small read = absurd (false≢true (sym (apart form n read).0 ∙ short))

of_words : (a b c d e f g h : ℕ) (rest : List ℕ) (n : Numeric) → AreBytes (a ∷ b ∷ c ∷ d ∷ e ∷ f ∷ g ∷ h ∷ rest) → (numeric_in_binary (a ∷ b ∷ c ∷ d ∷ e ∷ f ∷ g ∷ h ∷ rest)).answer ≡ Ok n →
    IsNumeric (a ∷ b ∷ c ∷ d ∷ e ∷ f ∷ g ∷ h ∷ rest) n
of_words a b c d e f g h rest n small read = by (apart form n read).1
  where
    form : List ℕ
    form = a ∷ b ∷ c ∷ d ∷ e ∷ f ∷ g ∷ h ∷ rest

    by : Apart form n → IsNumeric form n
    by (inl k) = subst (IsNumeric form) (sym k.1) (record {
      front = a ∷ b ∷ c ∷ d ∷ [];
      rest = g ∷ h ∷ rest;
      whole = ap (λ (xs : List ℕ). a ∷ b ∷ c ∷ d ∷ (xs ++ g ∷ h ∷ rest)) (sym ((unsigned_two e f small.1.1.1.1.0 small.1.1.1.1.1.0).1) ∙ ap (to_be_bytes w16) k.0);
      two_words = refl;
      one_more = omega arith;
    })
    by (inr k) = is_number a b c d e f g h rest k.0 n small k.1 k.2

is_numeric : (form : List ℕ) (n : Numeric) → AreBytes form → (numeric_in_binary form).answer ≡ Ok n → IsNumeric form n
is_numeric = by_eight (λ form. (n : Numeric) → AreBytes form → (numeric_in_binary form).answer ≡ Ok n → IsNumeric form n) too_short of_words

nothing : (form : List ℕ) → nat_lt (length form) 8 ≡ false → said_sign form ≡ no_number → (numeric_in_binary form).answer ≡ Ok not_a_number
nothing form long said = rw (long, said) refl

nothing_there : (front rest : List ℕ) → length front ≡ 4 → 2 ≤ length rest → (numeric_in_binary (front ++ (to_be_bytes w16 no_number ++ rest))).answer ≡ Ok not_a_number
nothing_there (a ∷ b ∷ c ∷ d ∷ []) (g ∷ h ∷ rest) four more =
    nothing (a ∷ b ∷ c ∷ d ∷ 192 ∷ 0 ∷ g ∷ h ∷ rest) (le-ltb _ 8 (omega arith)) refl
nothing_there (a ∷ b ∷ c ∷ d ∷ []) (g ∷ []) four more = absurd (omega arith)
nothing_there (a ∷ b ∷ c ∷ d ∷ []) [] four more = absurd (omega arith)
nothing_there (a ∷ b ∷ c ∷ d ∷ e ∷ front) rest four more = absurd (omega arith)
nothing_there (a ∷ b ∷ c ∷ []) rest four more = absurd (omega arith)
nothing_there (a ∷ b ∷ []) rest four more = absurd (omega arith)
nothing_there (a ∷ []) rest four more = absurd (omega arith)
nothing_there [] rest four more = absurd (omega arith)

there : (form : List ℕ) (n : Numeric) → IsNumeric form n → (numeric_in_binary form).answer ≡ Ok n
there form not_a_number h = ap (λ (xs : List ℕ). (numeric_in_binary xs).answer) h.whole ∙ nothing_there h.front h.rest h.two_words h.one_more
there form (number sign ds weight scale) h = ap (λ (xs : List ℕ). (numeric_in_binary xs).answer) h.whole ∙ number_there h.rest sign ds weight scale h.few h.digits_fit h.weight_fits h.scale_fits

pub numeric_is_read : NumericIsRead
unfolding NumericIsRead
numeric_is_read form n small = (λ e. is_numeric form n small e, λ h. there form n h)

pub one_numeric : OneNumeric
unfolding OneNumeric
one_numeric form first second small a b = answer_is first second (sym (there form first a) ∙ there form second b)
