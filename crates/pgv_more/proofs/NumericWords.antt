-- Signed numbers and the bytes that they are read from.
use Rattle.std.proofs.Common.{◌≡◌, ℕ, ◌<◌, ◌^◌, true, List, [], ◌∷◌, length, refl, ap, ◌∙◌, arith, zero, suc, ◌+◌, ◌*◌, ◌++◌, drop, false, Some, Ok, sym}
use Rattle.std.proofs.Math.Facts.{sfits_to_z}
use Rattle.std.proofs.lemmas.Int.{of_z-to_z}
use Rattle.std.proofs.lemmas.Nat.{be_bytes_2, be_bytes_8}
use Rattle.std.specs.Prelude.{FitsSigned, nat_lt, ℤ, ◌==◌}
use Rattle.std.specs.Int.{w16, w64, cast_signed, cast_unsigned, from_be_bytes, to_be_bytes}
use Rattle.pgv_value.specs.FrameLaws.{AreBytes}
use Rattle.pgv_value.specs.IntBinary.{fits_signed}
use Rattle.pgv_value.specs.OwnBytesLemmas.{signed_fits}
use Rattle.pgv_value.proofs.Numbers.{bytes_below}
use Rattle.std.proofs.lemmas.List.{drop-drop}
use Rattle.pgv_more.specs.Numeric.{number, digits, digits_after, sign_of, said_sign, no_number, signed_word, unsigned_word, numeric_in_binary}
use Rattle.pgv_more.specs.declared.numeric.PgNumericSign.{PgNumericSign}

-- ---- two bytes

two_below : (a b : ℕ) → a < 256 → b < 256 → from_be_bytes w16 (a ∷ b ∷ []) < 2 ^ 16
two_below a b p q = omega arith

pub unsigned_two : (a b : ℕ) → a < 256 → b < 256 → (from_be_bytes w16 (a ∷ b ∷ []) < 2 ^ 16) × (to_be_bytes w16 (from_be_bytes w16 (a ∷ b ∷ [])) ≡ a ∷ b ∷ [])
unsigned_two a b p q = (two_below a b p q, be_bytes_2 (a ∷ b ∷ []) (from_be_bytes w16 (a ∷ b ∷ [])) refl (bytes_below (a ∷ b ∷ []) (p, (q, tt))) refl)

pub signed_two : (a b : ℕ) → a < 256 → b < 256 → let n = cast_signed w16 (from_be_bytes w16 (a ∷ b ∷ [])) in
    (fits_signed w16 n ≡ true) × (to_be_bytes w16 (cast_unsigned w16 n) ≡ a ∷ b ∷ [])
signed_two a b p q =
    let said = from_be_bytes w16 (a ∷ b ∷ []) in
    let u = unsigned_two a b p q in (
      signed_fits w16 (cast_signed w16 said) (sfits_to_z (record { fits = u.0 })),
      ap (to_be_bytes w16) (of_z-to_z w16 said u.0) ∙ u.1,
    )

-- ---- eight bytes

eight_below : (a b c d e f g h : ℕ) → a < 256 → b < 256 → c < 256 → d < 256 → e < 256 → f < 256 → g < 256 → h < 256 →
    from_be_bytes w64 (a ∷ b ∷ c ∷ d ∷ e ∷ f ∷ g ∷ h ∷ []) < 2 ^ 64
eight_below a b c d e f g h pa pb pc pd pe pf pg ph = omega arith

pub signed_eight : (a b c d e f g h : ℕ) → AreBytes (a ∷ b ∷ c ∷ d ∷ e ∷ f ∷ g ∷ h ∷ []) → let n = cast_signed w64 (from_be_bytes w64 (a ∷ b ∷ c ∷ d ∷ e ∷ f ∷ g ∷ h ∷ [])) in
    FitsSigned w64 n × (to_be_bytes w64 (cast_unsigned w64 n) ≡ a ∷ b ∷ c ∷ d ∷ e ∷ f ∷ g ∷ h ∷ [])
signed_eight a b c d e f g h small =
    let form = a ∷ b ∷ c ∷ d ∷ e ∷ f ∷ g ∷ h ∷ [] in
    let said = from_be_bytes w64 form in
    let fits = eight_below a b c d e f g h small.0 small.1.0 small.1.1.0 small.1.1.1.0 small.1.1.1.1.0 small.1.1.1.1.1.0 small.1.1.1.1.1.1.0 small.1.1.1.1.1.1.1.0 in (
      sfits_to_z (record { fits = fits }),
      ap (to_be_bytes w64) (of_z-to_z w64 said fits) ∙ be_bytes_8 form said refl (bytes_below form small) refl,
    )

-- what holds of lists of fewer than eight bytes, and of eight bytes with any after them, holds of every list
pub by_eight : (P : List ℕ → Type 0) → ((bytes : List ℕ) → nat_lt (length bytes) 8 ≡ true → P bytes) → ((a b c d e f g h : ℕ) (rest : List ℕ) → P (a ∷ b ∷ c ∷ d ∷ e ∷ f ∷ g ∷ h ∷ rest)) → (bytes : List ℕ) → P bytes
by_eight P short long (a ∷ b ∷ c ∷ d ∷ e ∷ f ∷ g ∷ h ∷ rest) = long a b c d e f g h rest
by_eight P short long (a ∷ b ∷ c ∷ d ∷ e ∷ f ∷ g ∷ []) = short (a ∷ b ∷ c ∷ d ∷ e ∷ f ∷ g ∷ []) refl
by_eight P short long (a ∷ b ∷ c ∷ d ∷ e ∷ f ∷ []) = short (a ∷ b ∷ c ∷ d ∷ e ∷ f ∷ []) refl
by_eight P short long (a ∷ b ∷ c ∷ d ∷ e ∷ []) = short (a ∷ b ∷ c ∷ d ∷ e ∷ []) refl
by_eight P short long (a ∷ b ∷ c ∷ d ∷ []) = short (a ∷ b ∷ c ∷ d ∷ []) refl
by_eight P short long (a ∷ b ∷ c ∷ []) = short (a ∷ b ∷ c ∷ []) refl
by_eight P short long (a ∷ b ∷ []) = short (a ∷ b ∷ []) refl
by_eight P short long (a ∷ []) = short (a ∷ []) refl
by_eight P short long [] = short [] refl

-- ---- digits that are read one after another, and numbers that are read from their parts

pub digits_more : (i : ℕ) (form : List ℕ) → digits (i + 1) form ≡ digits i form ++ signed_word (drop (2 * i) form) ∷ []
digits_more zero form = refl
digits_more (suc i) form =
    let next : drop (2 * i) (drop 2 form) ≡ drop (2 * suc i) form = drop-drop (2 * i) 2 form ∙ ap (λ (n : ℕ). drop n form) (omega arith) in
    let k : suc i + 1 ≡ suc (i + 1) = omega arith in
    ap (λ (n : ℕ). digits n form) k ∙ ap (λ (ds : List ℤ). signed_word form ∷ ds) (digits_more i (drop 2 form) ∙ ap (λ (ys : List ℕ). digits i (drop 2 form) ++ signed_word ys ∷ []) next)

pub digit_read : (i : ℕ) (form : List ℕ) (was now : List ℤ) (x : ℤ) → was ≡ digits i form → now ≡ was ++ x ∷ [] → x ≡ signed_word (drop (2 * i) form) → now ≡ digits (i + 1) form
digit_read i form was now x so_far pushed is =
    pushed ∙ ap (λ (y : ℤ). was ++ y ∷ []) is ∙ ap (λ (xs : List ℤ). xs ++ signed_word (drop (2 * i) form) ∷ []) so_far ∙ sym (digits_more i form)

pub number_is_read :
    (form : List ℕ) (sign : PgNumericSign) (ds : List ℤ) (weight scale : ℤ) → nat_lt (length form) 8 ≡ false → (said_sign form == no_number) ≡ false →
    sign_of (said_sign form) ≡ Some sign → (digits_after (unsigned_word form) (drop 8 form)).answer ≡ Ok ds → signed_word (drop 2 form) ≡ weight → signed_word (drop 6 form) ≡ scale →
    (numeric_in_binary form).answer ≡ Ok (number sign ds weight scale)
number_is_read form sign ds weight scale long said signed after first second = rw (long, said, signed, after, first, second) refl
