-- What a chain of readers went through, and fields of digits at the front of a text.
use Rattle.std.proofs.Common.{◌≡◌, ℕ, ◌+◌, ◌-◌, ◌*◌, ◌/◌, ◌%◌, ◌<◌, ◌≤◌, true, false, ◌==◌, List, [], ◌∷◌, ◌++◌, length, Option, Some, None, option_and_then, ap, ◌∙◌, arith, ne_eqb, eqb-true, ltb-true, lt-ltb}
use Rattle.std.proofs.lemmas.Option.{none-some, same_Some}
use Rattle.std.proofs.lemmas.Bool.{and_parts, and_from}
use Rattle.std.proofs.lemmas.Bool.Decides.{nat_tests}
use Rattle.std.proofs.NetLemmas.Options.{cond_some, and_then_some, same_parts}
use Rattle.std.specs.Char.{is_ascii_digit}
use Rattle.pgv_scalar_text.specs.FieldText.{Front, after_byte, two, two_below, four, whole, two_digits, four_digits}

-- a value that was found, and the text after it
abbrev pub found : {A : Type 0} → A → List ℕ → Front A
found value rest = Some (value, rest)

whole_at : {A : Type 0} (value : A) (rest : List ℕ) (x : A) → whole (found value rest) ≡ Some x → found value rest ≡ found x []
whole_at value [] x e = ap (λ v. found v []) (same_Some value x e)
whole_at value (c ∷ rest) x e =
    let test : (length (c ∷ rest) == 0) ≡ false = ne_eqb (length (c ∷ rest)) 0 (λ k. omega arith) in
    let none : None ≡ Some x = rw test at e in
    absurd (none-some x none)

-- a whole value is one with nothing after it
pub whole_some : {A : Type 0} (read : Front A) (x : A) → whole read ≡ Some x → read ≡ found x []
whole_some None x e = absurd (none-some x e)
whole_some (Some (value, rest)) x e = whole_at value rest x e

-- one step of a chain
pub then_read : {A B : Type 0} (f : A → Option B) (o : Option A) (x : A) (y : Option B) → o ≡ Some x → f x ≡ y → option_and_then f o ≡ y
then_read f o x y e k = ap (option_and_then f) e ∙ k

-- ---- one byte

pub after_is : (byte : ℕ) (text rest : List ℕ) → after_byte byte text ≡ Some rest → text ≡ byte ∷ rest
after_is byte [] rest e = absurd (none-some rest e)
after_is byte (c ∷ text) rest e =
    let (same, tail) = cond_some _ _ _ e in
    rw (eqb-true c byte same, tail)

-- ---- fields of digits

pub digit_there : (d : ℕ) → d < 10 → is_ascii_digit (48 + d) ≡ true
digit_there d h = grind (arith, nat_tests)

pub digit_is : (c : ℕ) → is_ascii_digit c ≡ true → (48 ≤ c) × (c ≤ 57)
digit_is c h = (grind (arith, nat_tests), grind (arith, nat_tests))

two_at : (a b n : ℕ) (rest : List ℕ) → a < 10 → b < 10 → n ≡ a * 10 + b → two ((48 + a) ∷ (48 + b) ∷ rest) ≡ found n rest
two_at a b n rest ha hb e =
    let test = and_from (is_ascii_digit (48 + a)) (is_ascii_digit (48 + b)) (digit_there a ha) (digit_there b hb) in
    let value : (48 + a - 48) * 10 + (48 + b - 48) ≡ n = omega arith in
    rw test (ap (λ v. found v rest) value)

pub two_read : (n : ℕ) (rest : List ℕ) → n < 100 → two (two_digits n ++ rest) ≡ found n rest
two_read n rest h = two_at (n / 10) (n % 10) n rest (omega arith) (omega arith) (omega arith)

pub two_is : (text rest : List ℕ) (n : ℕ) → two text ≡ found n rest → (n < 100) × (text ≡ two_digits n ++ rest)
two_is [] rest n e = absurd (none-some (n, rest) e)
two_is (a ∷ []) rest n e = absurd (none-some (n, rest) e)
two_is (a ∷ b ∷ cs) rest n e =
    let (test, same) = cond_some _ _ _ e in
    let (value, after_byte) = same_parts _ _ _ _ (ap Some same) in
    let (ta, tb) = and_parts (is_ascii_digit a) (is_ascii_digit b) test in
    let (a0, a1) = digit_is a ta in
    let (b0, b1) = digit_is b tb in
    let fa : a ≡ 48 + n / 10 = omega arith in
    let fb : b ≡ 48 + n % 10 = omega arith in
    (omega arith, ap (λ x. x ∷ b ∷ cs) fa ∙ ap (λ x. (48 + n / 10) ∷ x ∷ cs) fb ∙ ap (λ t. two_digits n ++ t) after_byte)

pub below_read : (limit n : ℕ) (rest : List ℕ) → limit ≤ 100 → n < limit → two_below limit (two_digits n ++ rest) ≡ found n rest
below_read limit n rest small h =
    then_read _ (two (two_digits n ++ rest)) (n, rest) _ (two_read n rest (omega arith)) (rw (lt-ltb n limit h))

pub below_is : (limit : ℕ) (text rest : List ℕ) (n : ℕ) → two_below limit text ≡ found n rest → (n < limit) × (text ≡ two_digits n ++ rest)
below_is limit text rest n e =
    and_then_some _ (two text) _ e λ m read kept.
    let (test, some) = cond_some _ _ _ kept in
    let (value, after_byte) = same_parts _ _ _ _ (ap Some some) in
    let is = two_is text m.1 m.0 read in
    let less = ltb-true m.0 limit test in
    (omega arith, is.1 ∙ ap (λ x. two_digits x ++ m.1) value ∙ ap (λ t. two_digits n ++ t) after_byte)

pub four_read : (n : ℕ) (rest : List ℕ) → n < 10_000 → four (four_digits n ++ rest) ≡ found n rest
four_read n rest h =
    let value : n / 100 * 100 + n % 100 ≡ n = omega arith in
    then_read _ (two (two_digits (n / 100) ++ two_digits (n % 100) ++ rest)) (n / 100, two_digits (n % 100) ++ rest) _ (two_read (n / 100) (two_digits (n % 100) ++ rest) (omega arith))
    (then_read _ (two (two_digits (n % 100) ++ rest)) (n % 100, rest) _ (two_read (n % 100) rest (omega arith)) (ap (λ v. found v rest) value))

pub four_is : (text rest : List ℕ) (n : ℕ) → four text ≡ found n rest → (n < 10_000) × (text ≡ four_digits n ++ rest)
four_is text rest n e =
    and_then_some _ (two text) _ e λ high read_high e₁.
    and_then_some _ (two high.1) _ e₁ λ low read_low e₂.
    let (value, after_byte) = same_parts _ _ _ _ e₂ in
    let is_high = two_is text high.1 high.0 read_high in
    let is_low = two_is high.1 low.1 low.0 read_low in
    let (low_in, high_in) : (low.0 < 100) × (high.0 < 100) = (is_low.0, is_high.0) in
    let fh : high.0 ≡ n / 100 = omega arith in
    let fl : low.0 ≡ n % 100 = omega arith in
    (omega arith, is_high.1 ∙ ap (λ t. two_digits high.0 ++ t) is_low.1 ∙ ap (λ x. two_digits x ++ two_digits low.0 ++ low.1) fh ∙ ap (λ x. two_digits (n / 100) ++ two_digits x ++ low.1) fl ∙ ap (λ t. four_digits n ++ t) after_byte)
