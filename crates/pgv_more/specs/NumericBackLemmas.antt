-- What is written of a number is read back as it.
use Rattle.std.specs.Prelude.{◌≡◌, ℕ, ◌*◌, ◌<◌, ◌^◌, nat_lt, true, false, ◌&&◌, ℤ, pos, negsuc, List, [], ◌∷◌, ◌++◌, length, drop, Some, Ok, refl, ⊤}
use Rattle.std.specs.Int.{w16, from_be_bytes, to_be_bytes}
use Rattle.std.specs.List.{flat_map, list_all}
use Rattle.std.proofs.Common.{ap, sym, ◌∙◌, arith}
use Rattle.std.proofs.lemmas.Bool.{le-ltb, and_parts}
use Rattle.std.proofs.lemmas.Bool.Decides.{nat_tests}
use Rattle.std.proofs.lemmas.List.{length-append}
use Rattle.std.proofs.lemmas.Nat.{from_be_bytes-to_be_bytes_2}
use Rattle.pgv_buf.specs.Tokens.{bytes}
use Rattle.pgv_value.specs.FrameBinary.{Part}
use Rattle.pgv_value.specs.Outcome.{ok_of, reading_of, allocates, in_place, ◌>>◌}
use Rattle.pgv_value.proofs.Outcomes.{answer_of, held, taken_exactly, tested}
use Rattle.pgv_value.specs.IntBinary.{fits_signed}
use Rattle.pgv_value.specs.OwnBytesLemmas.{two_again}
use Rattle.pgv_value.specs.declared.error.CodecError.TheVariants.{NumericDigits, NumericDigit}
use Rattle.pgv_value.specs.declared.value.PgValueFormat.TheVariants.{Binary}
use Rattle.pgv_codec.specs.Back.{ReadsBack, always, image_is}
use Rattle.pgv_codec.specs.PartBackLemmas.{guarded}
use Rattle.pgv_codec.specs.ScalarBackLemmas.{part_is}
use Rattle.pgv_codec.specs.Encoding.{image_of, plainly, writes}
use Rattle.pgv_more.specs.Numeric.{number, numeric_of, word, sign_word, number_form, is_digit, digits_tested, number_image, numeric_image, digits, digits_after, said_sign, signed_word, unsigned_word, signed_number, numeric_in_binary, parse_numeric}
use Rattle.pgv_more.specs.declared.numeric.PgNumericSign.{PgNumericSign}
use Rattle.pgv_more.specs.declared.numeric.PgNumericSign.TheVariants.{Positive, Negative}
use Rattle.pgv_more.specs.declared.numeric.PgNumeric.{PgNumeric}
use Rattle.pgv_more.specs.declared.numeric.PgNumeric.TheVariants.{NotANumber, Number}

-- ---- words

pub length-words : (ds : List ℤ) → length (flat_map word ds) ≡ 2 * length ds
length-words [] = refl
length-words (d ∷ ds) = let h = length-words ds in omega (arith, h, length-append (word d) (flat_map word ds))

pub words_again : (ds : List ℤ) (rest : List ℕ) → list_all (fits_signed w16) ds ≡ true → digits (length ds) (flat_map word ds ++ rest) ≡ ds
words_again [] rest e = refl
words_again (d ∷ ds) rest e =
    let b = and_parts (fits_signed w16 d) (list_all (fits_signed w16) ds) e in
    rw (two_again d b.0, words_again ds rest b.1) refl

digits_there : (ds : List ℤ) (rest : List ℕ) → list_all (fits_signed w16) ds ≡ true → (digits_after (length ds) (flat_map word ds ++ rest)).answer ≡ Ok ds
digits_there ds rest e =
    let long : nat_lt (length (flat_map word ds ++ rest)) (2 * length ds) ≡ false = le-ltb _ _ (omega (arith, length-words ds, length-append (flat_map word ds) rest)) in
    rw (long, words_again ds rest e) refl

-- ---- a number is read from its form, whatever comes after it

sign_read : (form : List ℕ) (sign : PgNumericSign) → nat_lt (length form) 8 ≡ false → said_sign form ≡ sign_word sign → (numeric_in_binary form).answer ≡ (signed_number form sign).answer
sign_read form Positive long said = rw (long, said) refl
sign_read form Negative long said = rw (long, said) refl

number_back : (form : List ℕ) (sign : PgNumericSign) (n : ℕ) (ds : List ℤ) (weight scale : ℤ) → unsigned_word form ≡ n → (digits_after n (drop 8 form)).answer ≡ Ok ds →
    signed_word (drop 2 form) ≡ weight → signed_word (drop 6 form) ≡ scale → (signed_number form sign).answer ≡ Ok (number sign ds weight scale)
number_back form sign n ds weight scale count after first second = rw (count, after, first, second) refl

said_again : (sign : PgNumericSign) → from_be_bytes w16 (to_be_bytes w16 (sign_word sign)) ≡ sign_word sign
said_again Positive = refl
said_again Negative = refl

pub number_there : (rest : List ℕ) (sign : PgNumericSign) (ds : List ℤ) (weight scale : ℤ) → length ds < 2 ^ 16 → list_all (fits_signed w16) ds ≡ true → fits_signed w16 weight ≡ true →
    fits_signed w16 scale ≡ true → (numeric_in_binary (number_form sign ds weight scale ++ rest)).answer ≡ Ok (number sign ds weight scale)
number_there rest sign ds weight scale few fit weight_fits scale_fits =
    let form = number_form sign ds weight scale ++ rest in
    let long : nat_lt (length form) 8 ≡ false = le-ltb _ 8 (omega arith) in
    sign_read form sign long (said_again sign)
    ∙ number_back form sign (length ds) ds weight scale (from_be_bytes-to_be_bytes_2 (length ds) few) (digits_there ds rest fit) (two_again weight weight_fits) (two_again scale scale_fits)

-- ---- what was written

digit_fits : (d : ℤ) → is_digit d ≡ true → fits_signed w16 d ≡ true
digit_fits (pos n) e = grind (arith, nat_tests)
digit_fits (negsuc n) e = absurd (cc)

digits_fit : (ds : List ℤ) (all : ⊤) → digits_tested ds ≡ Ok all → list_all (fits_signed w16) ds ≡ true
digits_fit [] all e = refl
digits_fit (d ∷ ds) all e =
    let h = held (is_digit d) (NumericDigit d) (digits_tested ds) all e in
    rw (digit_fits d h.0, digits_fit ds all h.1) refl

few_digits : (n : ℕ) → nat_lt 32767 n ≡ false → n < 2 ^ 16
few_digits n e = grind (arith, nat_tests)

nothing_after : (xs : List ℕ) → xs ++ [] ≡ xs
nothing_after [] = refl
nothing_after (x ∷ xs) = ap (λ (ys : List ℕ). x ∷ ys) (nothing_after xs)

pub numeric_back : ReadsBack {A = PgNumeric} (λ n. plainly (numeric_image (numeric_of n))) (reading_of parse_numeric) numeric_of always
numeric_back NotANumber i t p os e whole small fit =
    ap (λ (part : Part). reading_of parse_numeric t Binary part) (part_is (0 ∷ 0 ∷ 0 ∷ 0 ∷ 192 ∷ 0 ∷ 0 ∷ 0 ∷ []) i p os e)
numeric_back (Number sign v weight scale) i t p os e whole small fit =
    let ds = v.items in
    let form = number_form sign ds weight scale in
    let image = number_image sign ds weight scale in
    let few = tested (nat_lt 32767 (length ds)) (NumericDigits (length ds)) (allocates true >> (in_place (digits_tested ds) >> writes image)) i (answer_of (numeric_image (number sign ds weight scale)).answer i e) in
    let fit = taken_exactly (digits_tested ds) (λ _. writes image) i few.1 in
    let g = guarded (fits_signed w16 weight && fits_signed w16 scale) (Some (image_of (bytes form))) i (image_is image i (ap ok_of fit.2)) in
    let words = and_parts (fits_signed w16 weight) (fits_signed w16 scale) g.0 in
    ap (λ (part : Part). reading_of parse_numeric t Binary part) (part_is form i p os g.1)
    ∙ ap ok_of (
    ap (λ (xs : List ℕ). (numeric_in_binary xs).answer) (sym (nothing_after form))
    ∙ number_there [] sign ds weight scale (few_digits (length ds) few.0) (digits_fit ds fit.0 fit.1) words.0 words.1)
