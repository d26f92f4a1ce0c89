-- Words that are OIDs.
use Rattle.std.proofs.Common.{◌≡◌, ◌≤◌, ◌<◌, ◌+◌, ◌++◌, ◌∙◌, sym, ap, subst, ℕ, ◌==◌, nat_lt, Bool, true, false, if◌then◌else◌, List, [], ◌∷◌, map, length, refl, append-nil, arith, Option, Some, None}
use Rattle.std.specs.List.{AllByRecursion}
use Rattle.std.specs.Str.{IsAscii}
use Rattle.std.specs.Str.Lossy.{utf8_valid_len}
use Rattle.std.specs.Int.Digits.{number_from_digits}
use Rattle.std.proofs.lemmas.Bool.{ltb-true, lt-ltb, eq-eqb, ne_eqb}
use Rattle.std.proofs.lemmas.Str.{IsUtf8-from_ascii, utf8_valid_len-IsUtf8}
use Rattle.std.proofs.lemmas.Str.Ascii.{IsAscii-nil, IsAscii-cons}
use Rattle.std.proofs.lemmas.Option.{same_Some}
use Rattle.pgv_types.specs.declared.oid.Oid.{Oid}
use Rattle.pgv_scalar_text.specs.IntText.{unsigned_value, IsUnsignedNumber, plus_text}
use Rattle.pgv_scalar_text.proofs.ParsedInts.{value_unsigned, unsigned_value_of}
use Rattle.pgv_value.specs.Text.{is_utf8}
use Rattle.pgv_session.specs.Lines.{text_before, text_after, words, starts_with_plus, with_first, spelled_oid, oid_named, oids_named}
use Rattle.pgv_session.specs.Spelled.{IsOidWord, SpellsOids}
use Rattle.pgv_session.proofs.SplitLines.{joined, whole, split_joined}
use Rattle.pgv_session.proofs.Wording.{words_after, words_split}

digits_ascii : (digits : List ℕ) → AllByRecursion (λ d. d < 10) digits → IsAscii (map (λ d. 48 + d) digits)
digits_ascii [] h = IsAscii-nil
digits_ascii (d ∷ digits) h = IsAscii-cons (48 + d) (map (λ d. 48 + d) digits) (omega (arith, h.0)) (digits_ascii digits h.1)

digits_no_space : (digits : List ℕ) → AllByRecursion (λ d. d < 10) digits → text_after 32 (map (λ d. 48 + d) digits) ≡ None
digits_no_space [] h = refl
digits_no_space (d ∷ digits) h = let other : (48 + d == 32) ≡ false = ne_eqb (48 + d) 32 (λ e. omega arith) in rw other (digits_no_space digits h.1)

digits_no_plus : (digits : List ℕ) → AllByRecursion (λ d. d < 10) digits → starts_with_plus (map (λ d. 48 + d) digits) ≡ false
digits_no_plus [] h = refl
digits_no_plus (d ∷ digits) h = ne_eqb (48 + d) 43 (λ e. omega arith)

ascii_is_utf8 : (text : List ℕ) → IsAscii text → is_utf8 text ≡ true
ascii_is_utf8 text h = eq-eqb (utf8_valid_len text) (length text) (utf8_valid_len-IsUtf8 text (IsUtf8-from_ascii text h))

oid_no_space : (word : List ℕ) (oid : Oid) → IsOidWord word oid → text_after 32 word ≡ None
oid_no_space word oid h = ap (text_after 32) h.whole ∙ digits_no_space h.digits h.each

as_unsigned : (word : List ℕ) (oid : Oid) → IsOidWord word oid → IsUnsignedNumber word oid.0
as_unsigned word oid h = record { plus = false; digits = h.digits; some = h.some; each = h.each; whole = h.whole; value = h.value }

named_by_oid : (word : List ℕ) (oid : Oid) → IsOidWord word oid → oid_named word ≡ Some oid
named_by_oid word oid h =
    let utf8 : is_utf8 word ≡ true = ascii_is_utf8 word (subst IsAscii (sym h.whole) (digits_ascii h.digits h.each)) in
    let plain : starts_with_plus word ≡ false = ap starts_with_plus h.whole ∙ digits_no_plus h.digits h.each in
    let small : nat_lt oid.0 4294967296 ≡ true = lt-ltb oid.0 4294967296 (omega (arith, h.fits)) in
    rw (utf8, plain, unsigned_value_of word oid.0 (as_unsigned word oid h), small) refl

from_unsigned : (word : List ℕ) (oid : Oid) (plus : Bool) (digits : List ℕ) → 0 < length digits → AllByRecursion (λ d. d < 10) digits →
    word ≡ plus_text plus ++ map (λ d. 48 + d) digits → oid.0 ≡ number_from_digits 10 digits → oid.0 ≤ 4294967295 → starts_with_plus word ≡ false → IsOidWord word oid
from_unsigned word oid true digits some each whole value fits plain = let first : starts_with_plus word ≡ true = ap starts_with_plus whole in absurd cc
from_unsigned word oid false digits some each whole value fits plain = record { digits = digits; some = some; each = each; whole = whole; value = value; fits = fits }

from_number : (word : List ℕ) (oid : Oid) (n : ℕ) (b : Bool) → starts_with_plus word ≡ false → unsigned_value word ≡ Some n → nat_lt n 4294967296 ≡ b →
    (if b then Some (let o : Oid = record { 0 = n } in o) else None) ≡ Some oid → IsOidWord word oid
from_number word oid n true plain v e h =
    let number : IsUnsignedNumber word n = value_unsigned word n v in
    let same : oid.0 ≡ n = ap (λ (o : Oid). o.0) (sym (same_Some {A = Oid} (record { 0 = n }) oid h)) in
    from_unsigned word oid number.plus number.digits number.some number.each number.whole (same ∙ number.value) (omega (arith, same, ltb-true n 4294967296 e)) plain
from_number word oid n false plain v e h = absurd cc

from_value : (word : List ℕ) (oid : Oid) (value : Option ℕ) → starts_with_plus word ≡ false → unsigned_value word ≡ value → spelled_oid value ≡ Some oid → IsOidWord word oid
from_value word oid None plain v h = absurd cc
from_value word oid (Some n) plain v h = from_number word oid n (nat_lt n 4294967296) plain v refl h

from_tests : (word : List ℕ) (oid : Oid) (utf8 plus : Bool) → starts_with_plus word ≡ plus →
    (if utf8 then (if plus then None else spelled_oid (unsigned_value word)) else None) ≡ Some oid → IsOidWord word oid
from_tests word oid false plus e h = absurd cc
from_tests word oid true true e h = absurd cc
from_tests word oid true false e h = from_value word oid (unsigned_value word) e refl h

oid_is : (word : List ℕ) (oid : Oid) → oid_named word ≡ Some oid → IsOidWord word oid
oid_is word oid h = from_tests word oid (is_utf8 word) (starts_with_plus word) refl h

-- OIDs with a space before each
pub oids_found : (word : List ℕ) (oid : Oid) (oids : List Oid) (rest : List ℕ) → IsOidWord word oid → SpellsOids oids rest → oids_named (words (word ++ rest)) ≡ Some (oid ∷ oids)
oids_found word oid [] rest h none =
    let alone : word ++ rest ≡ word = ap (λ (r : List ℕ). word ++ r) none ∙ append-nil word in
    let parts = split_joined 32 word None (oid_no_space word oid h) in
    rw (alone, words_split word, parts.0, parts.1, named_by_oid word oid h) refl
oids_found word oid (next ∷ oids) rest h s =
    let parts = split_joined 32 word (Some (s.0 ++ s.1)) (oid_no_space word oid h) in
    rw (s.4, words_split (word ++ 32 ∷ (s.0 ++ s.1)), parts.0, parts.1, named_by_oid word oid h, oids_found s.0 next oids s.1 s.2 s.3) refl

with_first_is : {A : Type 0} (x : Option A) (xs : Option (List A)) (y : A) (ys : List A) → with_first x xs ≡ Some (y ∷ ys) → (x ≡ Some y) × (xs ≡ Some ys)
with_first_is None xs y ys h = absurd cc
with_first_is (Some x) None y ys h = absurd cc
with_first_is (Some x) (Some xs) y ys h = (cc, cc)

with_first_some : {A : Type 0} (x : Option A) (xs : Option (List A)) → with_first x xs ≡ Some [] → ⊥
with_first_some None xs h = cc
with_first_some (Some x) None h = cc
with_first_some (Some x) (Some xs) h = cc

split_named : (text : List ℕ) (oids : Option (List Oid)) → oids_named (words text) ≡ oids → with_first (oid_named (text_before 32 text)) (oids_named (words_after (text_after 32 text))) ≡ oids
split_named text oids h = ap oids_named (sym (words_split text)) ∙ h

oids_then : (oid : Oid) (oids : List Oid) (text : List ℕ) (rest : Option (List ℕ)) → text ≡ joined 32 (text_before 32 text) rest → IsOidWord (text_before 32 text) oid →
    ((left : List ℕ) → oids_named (words left) ≡ Some oids → SpellsOids oids (32 ∷ left)) → oids_named (words_after rest) ≡ Some oids → SpellsOids (oid ∷ oids) (32 ∷ text)
oids_then oid oids text None all first more h =
    let none : [] ≡ oids = same_Some {A = List Oid} [] oids h in
    (text_before 32 text, [], first, subst (λ (os : List Oid). SpellsOids os []) none refl, ap (λ (t : List ℕ). 32 ∷ t) (all ∙ sym (append-nil (text_before 32 text))))
oids_then oid oids text (Some left) all first more h = (text_before 32 text, 32 ∷ left, first, more left h, ap (λ (t : List ℕ). 32 ∷ t) all)

pub oids_are : (oids : List Oid) (text : List ℕ) → oids_named (words text) ≡ Some oids → SpellsOids oids (32 ∷ text)
oids_are [] text h = absurd (with_first_some (oid_named (text_before 32 text)) (oids_named (words_after (text_after 32 text))) (split_named text (Some []) h))
oids_are (oid ∷ oids) text h =
    let parts = with_first_is (oid_named (text_before 32 text)) (oids_named (words_after (text_after 32 text))) oid oids (split_named text (Some (oid ∷ oids)) h) in
    oids_then oid oids text (text_after 32 text) (whole 32 text) (oid_is (text_before 32 text) oid parts.0) (oids_are oids) parts.1
