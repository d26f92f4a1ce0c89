-- A number's text in the words of `parse`, and its computed number.
use Rattle.std.proofs.Common.{◌≡◌, ℕ, ◌+◌, ◌<◌, ℤ, Bool, true, false, ◌==◌, List, [], ◌∷◌, ◌++◌, map, length, ap, ◌∙◌, sym, refl, arith, get_or, not, cond, ◌&&◌, nat_lt, Some, None, Ok, Err, Result, subst, ◌↔◌, ◌^◌, IsTrue, if◌then◌else◌}
use Rattle.std.specs.Prelude.{FitsSigned, pos, neg_ℤ}
use Rattle.std.specs.List.{AllByRecursion, list_all}
use Rattle.std.specs.Char.{digit_value}
use Rattle.std.specs.Int.Digits.{number_from_digits}
use Rattle.std.specs.Str.Parse.{AllDigits, IsNumeral, digits_value, without_leading_sign, signed_digits_value, without_leading_plus}
use Rattle.std.proofs.lemmas.Str.{digit_value_digit}
use mir.Val.{SFits, of_z, to_z}
use mir.Syntax.{w64}
use Rattle.std.proofs.lemmas.Int.{to_z-of_z}
use Rattle.std.specs.Int.{IsInRange}
use Rattle.std.proofs.lemmas.Str.Parse.{digit_at, digit_from_value, tells_by_index, numerals_by_value}
use Rattle.std.proofs.lemmas.Int.Digits.{digits_value_is, all_below_base_from_digits}
use Rattle.std.proofs.lemmas.List.{length-map}
use Rattle.std.proofs.lemmas.Bool.{and_parts, eqb-true, ne_eqb, ltb-true, lt-ltb, false≢true}
use Rattle.std.proofs.lemmas.Option.{cond_some}
use Rattle.pgv_scalar_text.specs.declared.int.NumberFault.{NumberFault}
use Rattle.pgv_scalar_text.specs.declared.int.NumberFault.TheVariants.{Syntax, OutOfRange}
use Rattle.pgv_scalar_text.specs.IntText.{Sign, none, plus, minus, sign_text, signed, IsNumber, plus_text, IsUnsignedNumber, is_numeral, number_value, unsigned_value, IsComputed, IsUnsignedComputed, OneNumber, OneUnsignedNumber, NumberIsItsValue, UnsignedIsItsValue}

-- The number of a text, that it does not fit in 64 bits, or that the text is not a number.
abbrev IsRead : List ℕ → Result ℤ NumberFault → Type 0
IsRead text (Ok n) = IsNumber text n × FitsSigned w64 n
IsRead text (Err OutOfRange) = (n : ℤ) × IsNumber text n × ¬ (FitsSigned w64 n)
IsRead text (Err Syntax) = (n : ℤ) → ¬ (IsNumber text n)

abbrev IsUnsignedRead : List ℕ → Result ℕ NumberFault → Type 0
IsUnsignedRead text (Ok n) = IsUnsignedNumber text n × (n < 2 ^ 64)
IsUnsignedRead text (Err OutOfRange) = (n : ℕ) × IsUnsignedNumber text n × ¬ (n < 2 ^ 64)
IsUnsignedRead text (Err Syntax) = (n : ℕ) → ¬ (IsUnsignedNumber text n)

value_digit : (d : ℕ) → d < 10 → digit_value (48 + d) ≡ d
value_digit d h =
    let e = digit_value_digit (48 + d) (omega arith, omega arith) in
    omega arith

values_back : (digits : List ℕ) → AllByRecursion (λ d. d < 10) digits → map digit_value (map (λ d. 48 + d) digits) ≡ digits
values_back [] h = refl
values_back (d ∷ digits) h = ap (λ x. x ∷ map digit_value (map (λ d. 48 + d) digits)) (value_digit d h.0) ∙ ap (λ x. d ∷ x) (values_back digits h.1)

digits_back : (digits : List ℕ) → AllByRecursion (λ d. d < 10) digits → AllDigits 10 (map (λ d. 48 + d) digits)
digits_back [] h = tt
digits_back (d ∷ digits) h = (rw (value_digit d h.0) h.0, digits_back digits h.1)

bytes_back : (bs : List ℕ) → AllDigits 10 bs → bs ≡ map (λ d. 48 + d) (map digit_value bs)
bytes_back [] h = refl
bytes_back (b ∷ bs) h =
    let r = digit_from_value b h.0 in
    let e = digit_value_digit b r in
    let f : b ≡ 48 + digit_value b = omega arith in
    ap (λ x. x ∷ bs) f ∙ ap (λ x. (48 + digit_value b) ∷ x) (bytes_back bs h.1)

pub numeral : (bs : List ℕ) (digits : List ℕ) → AllByRecursion (λ d. d < 10) digits → 0 < length digits → bs ≡ map (λ d. 48 + d) digits → IsNumeral 10 bs × (digits_value 10 bs ≡ number_from_digits 10 digits)
numeral bs digits h some e = rw e (
  (rw length-map some, digits_back digits h),
  digits_value_is 10 (map (λ d. 48 + d) digits) ∙ ap (number_from_digits 10) (values_back digits h),
)

-- a text that begins with a digit has no sign
numeral_plain : (text : List ℕ) (digits : List ℕ) → 0 < length digits → text ≡ map (λ d. 48 + d) digits →
    (without_leading_sign text ≡ text) × (signed_digits_value 10 text ≡ pos (digits_value 10 text)) × (without_leading_plus text ≡ text)
numeral_plain text [] some e = absurd (omega arith)
numeral_plain text (d ∷ digits) some e =
    let m = ne_eqb (48 + d) 45 (λ e. omega arith) in
    let p = ne_eqb (48 + d) 43 (λ e. omega arith) in
    rw e (simp (m, p), simp (m, p), simp p)

from_sign : (text : List ℕ) (n : ℤ) (sign : Sign) (digits : List ℕ) → AllByRecursion (λ d. d < 10) digits → 0 < length digits → text ≡ sign_text sign ++ map (λ d. 48 + d) digits → n ≡ signed sign (number_from_digits 10 digits) → IsNumeral 10 (without_leading_sign text) × (n ≡ signed_digits_value 10 text)
from_sign text n none digits h some e v =
    let p = numeral_plain text digits some e in
    let q = numeral text digits h some e in
    (rw (p.0) q.0, v ∙ ap pos (sym q.1) ∙ sym p.1)
from_sign text n plus digits h some e v =
    let q = numeral (map (λ d. 48 + d) digits) digits h some refl in
    (rw e q.0, v ∙ ap pos (sym q.1) ∙ ap (signed_digits_value 10) (sym e))
from_sign text n minus digits h some e v =
    let q = numeral (map (λ d. 48 + d) digits) digits h some refl in
    (rw e q.0, v ∙ ap (λ m. neg_ℤ (pos m)) (sym q.1) ∙ ap (signed_digits_value 10) (sym e))

pub numeral_from : (text : List ℕ) (n : ℤ) → IsNumber text n → IsNumeral 10 (without_leading_sign text) × (n ≡ signed_digits_value 10 text)
numeral_from text n h = from_sign text n h.sign h.digits h.each h.some h.whole h.value

number_bytes : (sign : Sign) (bs : List ℕ) → IsNumeral 10 bs → IsNumber (sign_text sign ++ bs) (signed sign (digits_value 10 bs))
number_bytes sign bs h = record {
  sign = sign;
  digits = map digit_value bs;
  some = rw length-map h.0;
  each = all_below_base_from_digits 10 bs h.1;
  whole = ap (λ t. sign_text sign ++ t) (bytes_back bs h.1);
  value = ap (signed sign) (digits_value_is 10 bs);
}

from_tests : (b : ℕ) (bs : List ℕ) (m p : Bool) → (b == 45) ≡ m → (b == 43) ≡ p → IsNumeral 10 (without_leading_sign (b ∷ bs)) → IsNumber (b ∷ bs) (signed_digits_value 10 (b ∷ bs))
from_tests b bs true p e f h =
    let is : b ≡ 45 = eqb-true b 45 e in
    rw is (number_bytes minus bs (rw is at h))
from_tests b bs false true e f h =
    let is : b ≡ 43 = eqb-true b 43 f in
    rw is (number_bytes plus bs (rw is at h))
from_tests b bs false false e f h = rw (e, f) (number_bytes none (b ∷ bs) (rw (e, f) at h))

pub number_from : (text : List ℕ) → IsNumeral 10 (without_leading_sign text) → IsNumber text (signed_digits_value 10 text)
number_from [] h = absurd (omega (arith, h.0))
number_from (b ∷ bs) h = from_tests b bs (b == 45) (b == 43) refl refl h

pub one_number : OneNumber
unfolding OneNumber
one_number text m n a b = (numeral_from text m a).1 ∙ sym (numeral_from text n b).1

pub by_index : (ds : List ℕ) → ((i : ℕ) → i < length ds → IsInRange 48 57 (get_or ds i 0)) → AllDigits 10 ds
by_index ds h = (numerals_by_value (λ ds. (i : ℕ) → i < length ds → IsInRange 48 57 (get_or ds i 0)) tells_by_index).to ds h

pub each_digit : (ds : List ℕ) → AllDigits 10 ds → (i : ℕ) → i < length ds → IsInRange 48 57 (get_or ds i 0)
each_digit ds all i lt = digit_at ds i all lt

-- the test of a numeral
all_digits : (ds : List ℕ) → list_all (λ c. nat_lt (digit_value c) 10) ds ≡ true → AllDigits 10 ds
all_digits [] h = tt
all_digits (d ∷ ds) h =
    let parts = and_parts (nat_lt (digit_value d) 10) (list_all (λ c. nat_lt (digit_value c) 10) ds) h in
    (ltb-true (digit_value d) 10 parts.0, all_digits ds parts.1)

digits_all : (ds : List ℕ) → AllDigits 10 ds → list_all (λ c. nat_lt (digit_value c) 10) ds ≡ true
digits_all [] h = refl
digits_all (d ∷ ds) h = ap (λ b. b && list_all (λ c. nat_lt (digit_value c) 10) ds) (lt-ltb (digit_value d) 10 h.0) ∙ digits_all ds h.1

pub numeral_tested : (ds : List ℕ) → is_numeral ds ≡ true → IsNumeral 10 ds
numeral_tested [] h = absurd (false≢true h)
numeral_tested (d ∷ ds) h =
    let some : 0 < length (d ∷ ds) = omega arith in
    let all : list_all (λ c. nat_lt (digit_value c) 10) (d ∷ ds) ≡ true = (and_parts (not (length (d ∷ ds) == 0)) (list_all (λ c. nat_lt (digit_value c) 10) (d ∷ ds)) h).1 in
    (some, all_digits (d ∷ ds) all)

pub tested_numeral : (ds : List ℕ) → IsNumeral 10 ds → is_numeral ds ≡ true
tested_numeral ds h = rw (ne_eqb (length ds) 0 (λ e. omega (arith, h.0, e)), digits_all ds h.1) refl

pub value_number : (text : List ℕ) (n : ℤ) → number_value text ≡ Some n → IsNumber text n
value_number text n e =
    let c = cond_some (is_numeral (without_leading_sign text)) (signed_digits_value 10 text) n e in
    subst (IsNumber text) c.1 (number_from text (numeral_tested (without_leading_sign text) c.0))

pub number_value_of : (text : List ℕ) (n : ℤ) → IsNumber text n → number_value text ≡ Some n
number_value_of text n h =
    let p = numeral_from text n h in
    ap (λ b. cond b (Some (signed_digits_value 10 text)) None) (tested_numeral (without_leading_sign text) p.0) ∙ ap Some (sym p.1)

none_chosen : {X : Type 0} (b : Bool) (x : X) → (b ≡ true → ⊥) → cond b (Some x) None ≡ None
none_chosen true x h = absurd (h refl)
none_chosen false x h = refl

-- what is read, by the computed number
pub computed : (text : List ℕ) (r : Result ℤ NumberFault) → IsRead text r → IsComputed text r
computed text (Ok n) h = (number_value_of text n h.0, h.1)
computed text (Err OutOfRange) h = (h.0, number_value_of text (h.0) h.1, h.2)
computed text (Err Syntax) h = none_chosen (is_numeral (without_leading_sign text)) (signed_digits_value 10 text) (λ e. h (signed_digits_value 10 text) (number_from text (numeral_tested (without_leading_sign text) e)))

pub read_ok : (text : List ℕ) (n : ℤ) → (IsNumeral 10 (without_leading_sign text) × SFits w64 (signed_digits_value 10 text)) × (n ≡ signed_digits_value 10 text) → IsNumber text (to_z w64 (of_z w64 n)) × SFits w64 (to_z w64 (of_z w64 n))
read_ok text n h =
    let fits : SFits w64 n = rw h.1 h.0.1 in
    let e : to_z w64 (of_z w64 n) ≡ signed_digits_value 10 text = to_z-of_z w64 n fits ∙ h.1 in
    rw e (number_from text h.0.0, h.0.1)

-- the same of a text that may begin with a plus only
from_plus : (text : List ℕ) (n : ℕ) (with_plus : Bool) (digits : List ℕ) → AllByRecursion (λ d. d < 10) digits → 0 < length digits → text ≡ plus_text with_plus ++ map (λ d. 48 + d) digits → n ≡ number_from_digits 10 digits → IsNumeral 10 (without_leading_plus text) × (n ≡ digits_value 10 (without_leading_plus text))
from_plus text n false digits h some e v =
    let p = (numeral_plain text digits some e).2 in
    let q = numeral text digits h some e in
    (rw p q.0, v ∙ sym q.1 ∙ ap (digits_value 10) (sym p))
from_plus text n true digits h some e v =
    let q = numeral (map (λ d. 48 + d) digits) digits h some refl in
    (rw e q.0, v ∙ sym q.1 ∙ ap (λ t. digits_value 10 (without_leading_plus t)) (sym e))

pub unsigned_numeral_from : (text : List ℕ) (n : ℕ) → IsUnsignedNumber text n → IsNumeral 10 (without_leading_plus text) × (n ≡ digits_value 10 (without_leading_plus text))
unsigned_numeral_from text n h = from_plus text n h.plus h.digits h.each h.some h.whole h.value

unsigned_bytes : (with_plus : Bool) (bs : List ℕ) → IsNumeral 10 bs → IsUnsignedNumber (plus_text with_plus ++ bs) (digits_value 10 bs)
unsigned_bytes with_plus bs h = record {
  plus = with_plus;
  digits = map digit_value bs;
  some = rw length-map h.0;
  each = all_below_base_from_digits 10 bs h.1;
  whole = ap (λ t. plus_text with_plus ++ t) (bytes_back bs h.1);
  value = digits_value_is 10 bs;
}

from_test : (b : ℕ) (bs : List ℕ) (p : Bool) → (b == 43) ≡ p → IsNumeral 10 (without_leading_plus (b ∷ bs)) → IsUnsignedNumber (b ∷ bs) (digits_value 10 (without_leading_plus (b ∷ bs)))
from_test b bs true f h =
    let is : b ≡ 43 = eqb-true b 43 f in
    rw is (unsigned_bytes true bs (rw is at h))
from_test b bs false f h = rw f (unsigned_bytes false (b ∷ bs) (rw f at h))

pub unsigned_from : (text : List ℕ) → IsNumeral 10 (without_leading_plus text) → IsUnsignedNumber text (digits_value 10 (without_leading_plus text))
unsigned_from [] h = absurd (omega (arith, h.0))
unsigned_from (b ∷ bs) h = from_test b bs (b == 43) refl h

pub one_unsigned : OneUnsignedNumber
unfolding OneUnsignedNumber
one_unsigned text m n a b = (unsigned_numeral_from text m a).1 ∙ sym (unsigned_numeral_from text n b).1

pub value_unsigned : (text : List ℕ) (n : ℕ) → unsigned_value text ≡ Some n → IsUnsignedNumber text n
value_unsigned text n e =
    let c = cond_some (is_numeral (without_leading_plus text)) (digits_value 10 (without_leading_plus text)) n e in
    subst (IsUnsignedNumber text) c.1 (unsigned_from text (numeral_tested (without_leading_plus text) c.0))

pub unsigned_value_of : (text : List ℕ) (n : ℕ) → IsUnsignedNumber text n → unsigned_value text ≡ Some n
unsigned_value_of text n h =
    let p = unsigned_numeral_from text n h in
    ap (λ b. cond b (Some (digits_value 10 (without_leading_plus text))) None) (tested_numeral (without_leading_plus text) p.0) ∙ ap Some (sym p.1)

pub unsigned_computed : (text : List ℕ) (r : Result ℕ NumberFault) → IsUnsignedRead text r → IsUnsignedComputed text r
unsigned_computed text (Ok n) h = (unsigned_value_of text n h.0, h.1)
unsigned_computed text (Err OutOfRange) h = (h.0, unsigned_value_of text (h.0) h.1, h.2)
unsigned_computed text (Err Syntax) h = none_chosen (is_numeral (without_leading_plus text)) (digits_value 10 (without_leading_plus text)) (λ e. h (digits_value 10 (without_leading_plus text)) (unsigned_from text (numeral_tested (without_leading_plus text) e)))

-- why a text that did not parse has no number that fits
pub fault_read : (text ds : List ℕ) (b : Bool) (fault : NumberFault) → ds ≡ without_leading_sign text → (IsTrue b ↔ IsNumeral 10 ds) → fault ≡ (if b then OutOfRange else Syntax) → ¬ (IsNumeral 10 (without_leading_sign text) × SFits w64 (signed_digits_value 10 text)) → IsRead text (Err fault)
fault_read text ds true fault same tells is h =
    let numeral : IsNumeral 10 (without_leading_sign text) = rw (← same) (tells.0 refl) in
    rw is (signed_digits_value 10 text, number_from text numeral, λ fits. h (numeral, fits))
fault_read text ds false fault same tells is h =
    rw is (λ n number. false≢true (tells.1 (rw same (numeral_from text n number).0)))

pub unsigned_fault_read : (text ds : List ℕ) (b : Bool) (fault : NumberFault) → ds ≡ without_leading_plus text → (IsTrue b ↔ IsNumeral 10 ds) → fault ≡ (if b then OutOfRange else Syntax) → ¬ (IsNumeral 10 (without_leading_plus text) × (digits_value 10 (without_leading_plus text) < 2 ^ 64)) → IsUnsignedRead text (Err fault)
unsigned_fault_read text ds true fault same tells is h =
    let numeral : IsNumeral 10 (without_leading_plus text) = rw (← same) (tells.0 refl) in
    rw is (digits_value 10 (without_leading_plus text), unsigned_from text numeral, λ fits. h (numeral, fits))
unsigned_fault_read text ds false fault same tells is h =
    rw is (λ n number. false≢true (tells.1 (rw same (unsigned_numeral_from text n number).0)))

pub unsigned_read_ok : (text : List ℕ) (n : ℕ) → (IsNumeral 10 (without_leading_plus text) × (digits_value 10 (without_leading_plus text) < 2 ^ 64)) × (n ≡ digits_value 10 (without_leading_plus text)) → IsUnsignedNumber text n × (n < 2 ^ 64)
unsigned_read_ok text n h = rw (h.1) (unsigned_from text h.0.0, h.0.1)

pub number_is_its_value : NumberIsItsValue
unfolding NumberIsItsValue
number_is_its_value text n = (value_number text n, number_value_of text n)

pub unsigned_is_its_value : UnsignedIsItsValue
unfolding UnsignedIsItsValue
unsigned_is_its_value text n = (value_unsigned text n, unsigned_value_of text n)
