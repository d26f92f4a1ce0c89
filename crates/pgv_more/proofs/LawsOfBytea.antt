-- The laws of the texts of strings of bytes.
use Rattle.std.proofs.Common.{◌≡◌, ℕ, ◌+◌, ◌*◌, Bool, true, false, cond, List, [], ◌∷◌, length, Option, Some, None, Result, Ok, Err, refl, sym, ap, ◌∙◌, subst, arith}
use Rattle.std.proofs.lemmas.Bool.{eqb-true}
use Rattle.std.proofs.lemmas.Option.{same_Some}
use Rattle.std.specs.Prelude.{◌&&◌, ◌==◌, ◌%◌}
use Rattle.std.specs.Option.{option_and_then}
use Rattle.hex.specs.Hex.{decode_of, decode_pairs, hex_digit_value, pair_value, ◌>>=◌}
use Rattle.hex.specs.declared.error.FromHexError.{FromHexError}
use Rattle.hex.proofs.HexLemmas.{decode_of-ok, decode_of-even}
use Rattle.pgv_more.specs.ByteaText.{ArePairs, IsByteaText, ByteaTextIsRead, OneByteaText, bytea_in_text, after_prefix, where_ok}
use Rattle.pgv_more.specs.MacAddressText.{IsHexDigit, IsPair}

-- ---- digits

digit_is : (c v : ℕ) → hex_digit_value c ≡ Some v → IsHexDigit c v
digit_is c v e = grind (arith)

digit_there : (c v : ℕ) → IsHexDigit c v → hex_digit_value c ≡ Some v
digit_there c v h = grind (arith)

-- ---- pairs of digits

pair_is : (high low i byte : ℕ) → pair_value high low i ≡ Ok byte → IsPair high low byte
pair_is high low i byte e = by (hex_digit_value high) (hex_digit_value low) refl refl e
  where
    by : (h l : Option ℕ) → hex_digit_value high ≡ h → hex_digit_value low ≡ l → pair_value high low i ≡ Ok byte → IsPair high low byte
    by None l p q e = absurd (cc)
    by (Some x) None p q e = absurd (cc)
    by (Some x) (Some y) p q e =
        let both : Ok (x * 16 + y) ≡ Ok byte = sym (rw (p, q) refl) ∙ e in
        let same : x * 16 + y ≡ byte = ap (λ (r : Result ℕ FromHexError). elim r [ Ok n ↦ n | Err f ↦ byte ]) both in
        (x, y, digit_is high x p, digit_is low y q, omega (arith, same))

pair_there : (high low i byte : ℕ) → IsPair high low byte → pair_value high low i ≡ Ok byte
pair_there high low i byte h = rw (digit_there high h.0 h.2, digit_there low h.1 h.3) (ap (λ (n : ℕ). Ok n) (omega (arith, h.4)))

-- ---- all of them

step_taken : {A B : Type 0} (r : Result A FromHexError) (f : A → Result B FromHexError) (y : B) → (r >>= f) ≡ Ok y → (x : A) × (r ≡ Ok x) × (f x ≡ Ok y)
step_taken (Err e) f y h = absurd (cc)
step_taken (Ok x) f y h = (x, refl, h)

same_Ok : {A : Type 0} (x y : A) → (let r : Result A FromHexError = Ok x in r) ≡ Ok y → x ≡ y
same_Ok x y e = cc

pub pairs_are : (i : ℕ) (digits value : List ℕ) → decode_pairs i digits ≡ Ok value → ArePairs value digits
unfolding decode_pairs
pairs_are i [] value e = subst (λ v. ArePairs v []) (same_Ok [] value e) refl
pairs_are i (a ∷ []) value e = absurd (cc)
pairs_are i (a ∷ b ∷ digits) value e =
    let first = step_taken (pair_value a b i) _ value e in
    let more = step_taken (decode_pairs (i + 2) digits) _ value first.2 in
    subst (λ v. ArePairs v (a ∷ b ∷ digits)) (same_Ok (first.0 ∷ more.0) value more.2)
    (a, b, digits, refl, pair_is a b i first.0 first.1, pairs_are (i + 2) digits more.0 more.1)

pub pairs_there : (i : ℕ) (digits value : List ℕ) → ArePairs value digits → (decode_pairs i digits ≡ Ok value) × (length digits % 2 ≡ 0)
unfolding decode_pairs
pairs_there i digits [] h = (rw h refl, rw h refl)
pairs_there i digits (byte ∷ value) h =
    let more = pairs_there (i + 2) h.2 value h.5 in
    (rw (h.3, pair_there h.0 h.1 i byte h.4, more.0) refl, ap (λ (ds : List ℕ). length ds % 2) h.3 ∙ omega (arith, more.1))

-- ---- whole texts

where_is : (r : Result (List ℕ) FromHexError) (value : List ℕ) → where_ok r ≡ Some value → r ≡ Ok value
where_is (Ok v) value e = ap (λ (vs : List ℕ). Ok vs) (same_Some v value e)
where_is (Err f) value e = absurd (cc)

both_are : (a b : Bool) (x y : List ℕ) → cond (a && b) (Some x) None ≡ Some y → (a ≡ true) × (b ≡ true) × (x ≡ y)
both_are true true x y e = (refl, refl, same_Some x y e)
both_are true false x y e = absurd (cc)
both_are false b x y e = absurd (cc)

after_is : (text digits : List ℕ) → after_prefix text ≡ Some digits → text ≡ 92 ∷ 120 ∷ digits
after_is [] digits e = absurd (cc)
after_is (a ∷ []) digits e = absurd (cc)
after_is (a ∷ b ∷ rest) digits e =
    let k = both_are (a == 92) (b == 120) rest digits e in
    rw (eqb-true a 92 k.0, eqb-true b 120 k.1, k.2) refl

read_is : (text value : List ℕ) (o : Option (List ℕ)) → after_prefix text ≡ o → option_and_then (λ digits. where_ok (decode_of digits)) o ≡ Some value → IsByteaText text value
read_is text value None after e = absurd (cc)
read_is text value (Some digits) after e =
    let whole = where_is (decode_of digits) value e in
    (digits, after_is text digits after, pairs_are 0 digits value (sym (decode_of-even digits (decode_of-ok digits value whole).0) ∙ whole))

read_there : (digits value : List ℕ) → ArePairs value digits → bytea_in_text (92 ∷ 120 ∷ digits) ≡ Some value
read_there digits value h =
    let k = pairs_there 0 digits value h in
    ap where_ok (decode_of-even digits k.1 ∙ k.0)

pub bytea_text_is_read : ByteaTextIsRead
unfolding ByteaTextIsRead
bytea_text_is_read text value = (
  λ e. read_is text value (after_prefix text) refl e,
  λ h. ap bytea_in_text h.1 ∙ read_there h.0 value h.2,
)

pub one_bytea_text : OneByteaText
unfolding OneByteaText ByteaTextIsRead
one_bytea_text text first second a b = same_Some first second (sym ((bytea_text_is_read text first).1 a) ∙ (bytea_text_is_read text second).1 b)
