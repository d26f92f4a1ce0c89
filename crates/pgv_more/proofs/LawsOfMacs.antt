-- The laws of MAC addresses.
use Rattle.std.proofs.Common.{◌≡◌, ℕ, ◌≤◌, List, [], ◌∷◌, length, refl, arith, None, zero, suc, ◌+◌, ◌-◌, ◌*◌, ◌<◌, eqb, ltb, Bool, true, false, drop, sym, subst, ap, ◌∙◌, Option, Some, ◌⊎◌, inl, inr}
use Rattle.pgv_more.specs.MacAddressText.{no_text_left, IsHexDigit, IsPair, ArePairsAfter, IsSeparator, IsMacAddress, hex_value, byte_of_pair, pair_value, with_rest, next_pair, pair_before, pairs_after, is_separator, mac_value, MacAddressIsRead, OneMacAddress}
use Rattle.std.specs.Prelude.{◌||◌}
use Rattle.std.specs.Option.{option_map}
use Rattle.std.specs.Char.{digit_value}
use Rattle.std.proofs.lemmas.Bool.{eqb-true, eq-eqb, ltb-true, lt-ltb, cases_lt}
use Rattle.std.proofs.lemmas.Bool.Decides.{nat_tests}
use Rattle.std.proofs.lemmas.Option.{same_Some}
use Rattle.pgv_codec.specs.PartBackLemmas.{guarded}

-- ---- texts of MAC addresses

pub not_at_end : (text : List ℕ) → 1 ≤ length text → no_text_left text ≡ None
not_at_end [] l = absurd (omega arith)
not_at_end (c ∷ text) l = refl

-- ---- the laws of MAC addresses

-- ---- digits

low_digit : (c v : ℕ) → digit_value c ≡ v → v < 10 → c ≡ 48 + v
low_digit c v e l = grind (arith, nat_tests)

upper_digit : (c v : ℕ) → digit_value c ≡ v → 10 ≤ v → v < 16 → c < 97 → c ≡ 65 + (v - 10)
upper_digit c v e m l h = grind (arith, nat_tests)

lower_digit : (c v : ℕ) → digit_value c ≡ v → 10 ≤ v → v < 16 → 97 ≤ c → c ≡ 97 + (v - 10)
lower_digit c v e m l h = grind (arith, nat_tests)

low_value : (c v : ℕ) → v < 10 → c ≡ 48 + v → digit_value c ≡ v
low_value c v l e = grind (arith, nat_tests)

upper_value : (c v : ℕ) → 10 ≤ v → v < 16 → c ≡ 65 + (v - 10) → digit_value c ≡ v
upper_value c v m l e = grind (arith, nat_tests)

lower_value : (c v : ℕ) → 10 ≤ v → v < 16 → c ≡ 97 + (v - 10) → digit_value c ≡ v
lower_value c v m l e = grind (arith, nat_tests)

by_sum : {A B C : Type 0} → A ⊎ B → (A → C) → (B → C) → C
by_sum (inl a) f g = f a
by_sum (inr b) f g = g b

digit_found : (c v : ℕ) → hex_value c ≡ Some v → IsHexDigit c v
digit_found c v e =
    let u = guarded (ltb (digit_value c) 16) (Some (digit_value c)) v e in
    let small : digit_value c < 16 = ltb-true (digit_value c) 16 u.0 in
    let is : digit_value c ≡ v = same_Some (digit_value c) v u.1 in
    by_sum (cases_lt v 10)
    (λ l. inl (l, low_digit c v is l))
    (λ m. inr (m, omega arith, by_sum (cases_lt c 97) (λ h. inl (upper_digit c v is m (omega arith) h)) (λ h. inr (lower_digit c v is m (omega arith) h))))

value_is : (c v : ℕ) → IsHexDigit c v → (digit_value c ≡ v) × (v < 16)
value_is c v (inl h) = (low_value c v h.0 h.1, omega arith)
value_is c v (inr h) = (letter h.2, h.1)
  where
    letter : ((c ≡ 65 + (v - 10)) ⊎ (c ≡ 97 + (v - 10))) → digit_value c ≡ v
    letter (inl e) = upper_value c v h.0 h.1 e
    letter (inr e) = lower_value c v h.0 h.1 e

digit_read : (c v : ℕ) → IsHexDigit c v → hex_value c ≡ Some v
digit_read c v h =
    let is = value_is c v h in
    rw (is.0, lt-ltb v 16 is.1) refl

-- ---- pairs

both_there : (x y : Option ℕ) (byte : ℕ) → byte_of_pair x y ≡ Some byte → (h : ℕ) × (l : ℕ) × (x ≡ Some h) × (y ≡ Some l) × (byte ≡ 16 * h + l)
both_there None y byte e = absurd (cc)
both_there (Some h) None byte e = absurd (cc)
both_there (Some h) (Some l) byte e = (h, l, refl, refl, sym (same_Some (16 * h + l) byte e))

pair_found : (high low byte : ℕ) → pair_value high low ≡ Some byte → IsPair high low byte
pair_found high low byte e =
    let b = both_there (hex_value high) (hex_value low) byte e in
    (b.0, b.1, digit_found high b.0 b.2, digit_found low b.1 b.3, b.4)

pair_read : (high low byte : ℕ) → IsPair high low byte → pair_value high low ≡ Some byte
pair_read high low byte p = rw (digit_read high p.0 p.2, digit_read low p.1 p.3, p.4) refl

rest_there : (x : Option ℕ) (rest : List ℕ) (byte : ℕ) (after : List ℕ) → with_rest x rest ≡ Some (byte, after) → (x ≡ Some byte) × (rest ≡ after)
rest_there None rest byte after e = absurd (cc)
rest_there (Some b) rest byte after e = let f = same_Some (b, rest) (byte, after) e in (ap (λ (p : ℕ × List ℕ). Some p.0) f, ap (λ (p : ℕ × List ℕ). p.1) f)

next_there : (separator : ℕ) (text : List ℕ) (byte : ℕ) (after : List ℕ) → next_pair separator text ≡ Some (byte, after) →
    (high : ℕ) × (low : ℕ) × (text ≡ separator ∷ high ∷ low ∷ after) × IsPair high low byte
next_there separator [] byte after e = absurd (cc)
next_there separator (c ∷ []) byte after e = absurd (cc)
next_there separator (c ∷ high ∷ []) byte after e = absurd (cc)
next_there separator (c ∷ high ∷ low ∷ rest) byte after e =
    let u = guarded (eqb c separator) (with_rest (pair_value high low) rest) (byte, after) e in
    let f = rest_there (pair_value high low) rest byte after u.1 in
    let same : c ≡ separator = eqb-true c separator u.0 in
    (high, low, ap (λ (d : ℕ). d ∷ high ∷ low ∷ rest) same ∙ ap (λ (r : List ℕ). separator ∷ high ∷ low ∷ r) f.1, pair_found high low byte f.0)

next_read : (separator high low byte : ℕ) (rest : List ℕ) → IsPair high low byte → next_pair separator (separator ∷ high ∷ low ∷ rest) ≡ Some (byte, rest)
next_read separator high low byte rest p = rw (eq-eqb separator separator refl, pair_read high low byte p) refl

before_there : (x : Option (ℕ × List ℕ)) (more : List ℕ → Option (List ℕ)) (bytes : List ℕ) → pair_before x more ≡ Some bytes →
    (byte : ℕ) × (after : List ℕ) × (others : List ℕ) × (x ≡ Some (byte, after)) × (more after ≡ Some others) × (bytes ≡ byte ∷ others)
before_there None more bytes e = absurd (cc)
before_there (Some (byte, after)) more bytes e = let m = mapped (more after) e in (byte, after, m.0, refl, m.1, m.2)
  where
    mapped : (o : Option (List ℕ)) → option_map (λ bs. byte ∷ bs) o ≡ Some bytes → (others : List ℕ) × (o ≡ Some others) × (bytes ≡ byte ∷ others)
    mapped None f = absurd (cc)
    mapped (Some others) f = (others, refl, sym (same_Some (byte ∷ others) bytes f))

end_there : (text bytes : List ℕ) → no_text_left text ≡ Some bytes → (text ≡ []) × (bytes ≡ [])
end_there [] bytes e = (refl, sym (same_Some [] bytes e))
end_there (c ∷ text) bytes e = absurd (cc)

pairs_found : (separator n : ℕ) (text bytes : List ℕ) → pairs_after separator n text ≡ Some bytes → (length bytes ≡ n) × ArePairsAfter separator bytes text
pairs_found separator zero text bytes e = let f = end_there text bytes e in rw f.1 (refl, f.0)
pairs_found separator (suc n) text bytes e =
    let b = before_there (next_pair separator text) (pairs_after separator n) bytes e in
    let p = next_there separator text b.0 b.1 b.3 in
    let m = pairs_found separator n b.1 b.2 b.4 in
    rw b.5 (omega (arith, m.0), (p.0, p.1, b.1, p.2, p.3, m.1))

pairs_read : (separator : ℕ) (bytes text : List ℕ) → ArePairsAfter separator bytes text → pairs_after separator (length bytes) text ≡ Some bytes
pairs_read separator [] text h = rw h refl
pairs_read separator (byte ∷ bytes) text h =
    rw (h.3, next_read separator h.0 h.1 byte h.2 h.4, pairs_read separator bytes h.2 h.5) refl

-- ---- the whole text

separator_is : (c : ℕ) (a b : Bool) → eqb c 58 ≡ a → eqb c 45 ≡ b → (a || b) ≡ true → IsSeparator c
separator_is c true b e f t = inl (eqb-true c 58 e)
separator_is c false true e f t = inr (eqb-true c 45 f)
separator_is c false false e f t = absurd (cc)

separator_read : (c : ℕ) → IsSeparator c → is_separator c ≡ true
separator_read c (inl e) = rw e refl
separator_read c (inr e) = rw e refl

mac_found : (text bytes : List ℕ) → mac_value text ≡ Some bytes → IsMacAddress text bytes
mac_found [] bytes e = absurd (cc)
mac_found (high ∷ []) bytes e = absurd (cc)
mac_found (high ∷ low ∷ []) bytes e = absurd (cc)
mac_found (high ∷ low ∷ s ∷ rest) bytes e =
    let u = guarded (is_separator s) (pair_before (with_rest (pair_value high low) (s ∷ rest)) (pairs_after s 5)) bytes e in
    let b = before_there (with_rest (pair_value high low) (s ∷ rest)) (pairs_after s 5) bytes u.1 in
    let f = rest_there (pair_value high low) (s ∷ rest) b.0 b.1 b.3 in
    let m = pairs_found s 5 b.1 b.2 b.4 in
    let more : ArePairsAfter s b.2 (s ∷ rest) = subst (ArePairsAfter s b.2) (sym f.1) m.1 in
    rw b.5 (s, separator_is s (eqb s 58) (eqb s 45) refl refl u.0, omega (arith, m.0), (high, low, s ∷ rest, refl, pair_found high low b.0 f.0, more))

mac_read : (text bytes : List ℕ) → IsMacAddress text bytes → mac_value text ≡ Some bytes
mac_read text [] h = absurd (omega (arith, h.2))
mac_read text (one ∷ []) h = absurd (omega (arith, h.2))
mac_read text (one ∷ two ∷ more) h =
    let s = h.0 in
    let first = h.3 in
    let second = first.5 in
    let others = second.5 in
    let whole : text ≡ first.0 ∷ first.1 ∷ s ∷ second.0 ∷ second.1 ∷ second.2 = ap (drop 1) first.3 ∙ ap (λ (r : List ℕ). first.0 ∷ first.1 ∷ r) second.3 in
    let five : length (two ∷ more) ≡ 5 = omega (arith, h.2) in
    let pairs : pairs_after s 5 (s ∷ second.0 ∷ second.1 ∷ second.2) ≡ Some (two ∷ more) =
    ap (λ (n : ℕ). pairs_after s n (s ∷ second.0 ∷ second.1 ∷ second.2)) (sym five) ∙ pairs_read s (two ∷ more) (s ∷ second.0 ∷ second.1 ∷ second.2) (second.0, second.1, second.2, refl, second.4, others) in
    ap mac_value whole ∙ rw (separator_read s h.1, pair_read first.0 first.1 one first.4) (ap (option_map (λ bytes. one ∷ bytes)) pairs)

pub mac_address_is_read : MacAddressIsRead
unfolding MacAddressIsRead
mac_address_is_read text bytes = (mac_found text bytes, mac_read text bytes)

pub one_mac_address : OneMacAddress
unfolding OneMacAddress
one_mac_address text first second a b = same_Some first second (sym (mac_read text first a) ∙ mac_read text second b)
