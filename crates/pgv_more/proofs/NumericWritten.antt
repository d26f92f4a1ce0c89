-- Digits that are written one after another.
use Rattle.std.proofs.Common.{◌≡◌, ◌⊎◌, inl, inr, ℕ, zero, suc, ◌+◌, ◌<◌, Bool, true, false, List, [], ◌∷◌, ◌++◌, length, get_or, take, Option, Some, None, Result, Ok, Err, refl, sym, ap, ◌∙◌, append_assoc, arith}
use Rattle.std.proofs.Math.Seq.{take-nil}
use Rattle.std.proofs.lemmas.List.{take_more, append-nil}
use Rattle.std.proofs.lemmas.List.Folds.{list_all-append}
use Rattle.std.specs.Prelude.{ℤ, ◌≤◌, nat_lt, not, ⊤}
use Rattle.std.specs.Int.{w16}
use Rattle.std.specs.List.{flat_map, list_all}
use Rattle.std.proofs.lemmas.Bool.{and_parts, le-ltb}
use Rattle.pgv_buf.specs.Tokens.{Token, Cell, bytes, blank}
use Rattle.pgv_value.specs.Outcome.{Fails, allocates, done, in_place, fails_if, ◌>>◌}
use Rattle.pgv_value.specs.Parsed.{Parsed}
use Rattle.pgv_value.specs.declared.error.CodecError.{CodecError}
use Rattle.pgv_value.specs.declared.error.CodecError.TheVariants.{Memory, NumericDigit}
use Rattle.pgv_value.proofs.Outcomes.{answer_is}
use Rattle.pgv_codec.specs.Appending.{Appended}
use Rattle.pgv_codec.specs.Encoding.{Image, image_of, writes}
use Rattle.pgv_codec.specs.PlainBytes.{appended_parts}
use Rattle.pgv_value.specs.IntBinary.{fits_signed}
use Rattle.pgv_more.specs.Numeric.{number, word, sign_word, head_form, number_form, is_digit, digit_written, digits_tested, digits_written, number_image, numeric_image}
use Rattle.pgv_more.specs.declared.numeric.PgNumericSign.{PgNumericSign}

words-more : (xs : List ℤ) (x : ℤ) → flat_map word (xs ++ x ∷ []) ≡ flat_map word xs ++ word x
words-more [] x = append-nil (word x)
words-more (y ∷ xs) x = ap (λ (r : List ℕ). word y ++ r) (words-more xs x) ∙ sym (append_assoc (word y) (flat_map word xs) (word x))

take_all : {X : Type 0} (xs : List X) (i : ℕ) → length xs ≤ i → take i xs ≡ xs
take_all [] i le = take-nil i
take_all (x ∷ xs) zero le = absurd (omega (arith, le))
take_all (x ∷ xs) (suc i) le = ap (λ ys. x ∷ ys) (take_all xs i (omega (arith, le)))

-- the first digits are those of a number, and are appended
abbrev pub DigitsSoFar : List ℤ → ℕ → List Cell → List Cell → Type 0
DigitsSoFar xs i start now = (list_all is_digit (take i xs) ≡ true) × (now ≡ start ++ blank (bytes (flat_map word (take i xs))))

-- ---- one digit

-- where it is appended, it is one
digit_is : (b : Bool) (why : CodecError) (words ts : List Token) → (fails_if (not b) why >> (allocates true >> done words)).answer ≡ Ok ts → (b ≡ true) × (words ≡ ts)
digit_is true why words ts e = (refl, answer_is words ts e)
digit_is false why words ts e = absurd cc

-- where it is refused, it isn't one, or there was no memory
digit_isnt : (b : Bool) (why e : CodecError) (words : List Token) → Fails e (fails_if (not b) why >> (allocates true >> done words)) → ((b ≡ false) × (why ≡ e)) ⊎ (e ≡ Memory)
digit_isnt true why e words (inl h) = absurd cc
digit_isnt true why e words (inr (inl h)) = absurd (let no : (let r : Result (List Token) (Option CodecError) = Ok words in r) ≡ Err None = h.0 in cc)
digit_isnt true why e words (inr (inr h)) = inr h.0
digit_isnt false why e words (inl h) = inl (refl, cc)
digit_isnt false why e words (inr (inl h)) = absurd (let no : (let r : Result (List Token) (Option CodecError) = Err (Some why) in r) ≡ Err None = h.0 in cc)
digit_isnt false why e words (inr (inr h)) = inr h.0

-- ---- digits one after another

pub digits_more :
    (xs : List ℤ) (i : ℕ) (x d : ℤ) (start now next : List Cell) → i < length xs → x ≡ get_or xs i d → DigitsSoFar xs i start now → Appended (digit_written x) now next → DigitsSoFar xs (i + 1) start next
digits_more xs i x d start now next lt e a b =
    let second = digit_is (is_digit x) (NumericDigit x) (bytes (word x)) b.0 b.1 in
    let whole : take (i + 1) xs ≡ take i xs ++ x ∷ [] = take_more xs i d lt ∙ ap (λ (y : ℤ). take i xs ++ y ∷ []) (sym e) in
    let all : list_all is_digit (take i xs ++ x ∷ []) ≡ true = list_all-append is_digit (take i xs) (x ∷ []) ∙ rw (a.0, second.0) refl in
    let cells = appended_parts start now next (flat_map word (take i xs)) (word x) a.1 (b.2 ∙ ap (λ (ts : List Token). now ++ blank ts) (sym second.1)) in
    (ap (list_all is_digit) whole ∙ all, cells ∙ ap (λ (ws : List ℕ). start ++ blank (bytes ws)) (sym (ap (flat_map word) whole ∙ words-more (take i xs) x)))

all_tested : (ds : List ℤ) → list_all is_digit ds ≡ true → digits_tested ds ≡ Ok tt
all_tested [] e = refl
all_tested (d ∷ ds) e = let b = and_parts (is_digit d) (list_all is_digit ds) e in rw b.0 (all_tested ds b.1)

pub digits_done : (xs : List ℤ) (i : ℕ) (start now : List Cell) → length xs ≤ i → DigitsSoFar xs i start now → Appended (digits_written xs) start now
digits_done xs i start now le a =
    let whole = take_all xs i le in
    let all = all_tested xs (ap (list_all is_digit) (sym whole) ∙ a.0) in
    (bytes (flat_map word xs), rw all refl, a.1 ∙ ap (λ (ds : List ℤ). start ++ blank (bytes (flat_map word ds))) whole)

-- the first digit that can't be written refuses them all
digits_from : (ds : List ℤ) (i : ℕ) (z : ℤ) → i < length ds → list_all is_digit (take i ds) ≡ true → is_digit (get_or ds i z) ≡ false → digits_tested ds ≡ Err (NumericDigit (get_or ds i z))
digits_from [] i z l all isnt = absurd (omega (arith, l))
digits_from (d ∷ ds) zero z l all isnt = rw isnt refl
digits_from (d ∷ ds) (suc i) z l all isnt =
    let parts = and_parts (is_digit d) (list_all is_digit (take i ds)) all in
    rw parts.0 (digits_from ds i z (omega (arith, l)) parts.1 isnt)

pub digits_unwritten : (ds : List ℤ) (i : ℕ) (z : ℤ) (e : CodecError) (start now : List Cell) → i < length ds → DigitsSoFar ds i start now → Fails e (digit_written (get_or ds i z)) → Fails e (digits_written ds)
digits_unwritten ds i z e start now l so_far why = by (digit_isnt (is_digit (get_or ds i z)) (NumericDigit (get_or ds i z)) e (bytes (word (get_or ds i z))) why)
  where
    by : ((is_digit (get_or ds i z) ≡ false) × (NumericDigit (get_or ds i z) ≡ e)) ⊎ (e ≡ Memory) → Fails e (digits_written ds)
    by (inl h) = inl (rw (digits_from ds i z l so_far.0 h.0, h.1) refl)
    by (inr memory) = inr (inr (memory, refl))

-- ---- numbers

few : (n : ℕ) → n ≤ 32767 → nat_lt 32767 n ≡ false
few n le = le-ltb 32767 n le

-- where they are appended, each is a digit
each_is : (tested : Parsed ⊤) (words ts : List Token) → (allocates true >> (in_place tested >> done words)).answer ≡ Ok ts → (tested ≡ Ok tt) × (words ≡ ts)
each_is (Ok all) words ts e = (refl, answer_is words ts e)
each_is (Err d) words ts e = absurd cc

-- the words in front, and then the digits
pub number_appended :
    (sign : PgNumericSign) (ds : List ℤ) (weight scale : ℤ) (start mid now : List Cell) → length ds ≤ 32767 → fits_signed w16 weight ≡ true → fits_signed w16 scale ≡ true →
    mid ≡ start ++ blank (bytes (head_form (length ds) weight (sign_word sign) scale)) → Appended (digits_written ds) mid now →
    (ts : List Token) × ((numeric_image (number sign ds weight scale)).answer ≡ Ok (image_of ts)) × (now ≡ start ++ blank ts)
number_appended sign ds weight scale start mid now le weight_fits scale_fits first second =
    let all = each_is (digits_tested ds) (bytes (flat_map word ds)) second.0 second.1 in (
      bytes (number_form sign ds weight scale),
      rw (few (length ds) le, all.0, weight_fits, scale_fits) refl,
      appended_parts start mid now (head_form (length ds) weight (sign_word sign) scale) (flat_map word ds) first (second.2 ∙ ap (λ (ts : List Token). mid ++ blank ts) (sym all.1)),
    )

-- what the digits are refused with, the number is
fails_so : (tested : Parsed ⊤) (words : List Token) (image : Option Image) (e : CodecError) → Fails e (allocates true >> (in_place tested >> done words)) → Fails e (allocates true >> (in_place tested >> writes image))
fails_so (Ok all) words image e (inl h) = absurd cc
fails_so (Ok all) words image e (inr (inl h)) = absurd (let no : (let r : Result (List Token) (Option CodecError) = Ok words in r) ≡ Err None = h.0 in cc)
fails_so (Ok all) words image e (inr (inr h)) = inr (inr (h.0, refl))
fails_so (Err d) words image e (inl h) = let same : d ≡ e = cc in inl (rw same refl)
fails_so (Err d) words image e (inr (inl h)) = absurd (let no : (let r : Result (List Token) (Option CodecError) = Err (Some d) in r) ≡ Err None = h.0 in cc)
fails_so (Err d) words image e (inr (inr h)) = inr (inr (h.0, refl))

pub number_unwritten :
    (sign : PgNumericSign) (ds : List ℤ) (weight scale : ℤ) (e : CodecError) → length ds ≤ 32767 → Fails e (digits_written ds) → Fails e (numeric_image (number sign ds weight scale))
number_unwritten sign ds weight scale e le why = rw (few (length ds) le) (fails_so (digits_tested ds) (bytes (flat_map word ds)) (number_image sign ds weight scale) e why)
