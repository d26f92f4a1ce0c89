-- The digits of strings of bytes.
use Rattle.std.proofs.Common.{◌≡◌, ℕ, ◌*◌, ◌/◌, ◌%◌, ◌<◌, ◌==◌, ◌&&◌, Bool, true, false, List, [], ◌∷◌, length, Option, Some, None, Result, Ok, Err, refl, sym, ◌∙◌, arith}
use Rattle.std.proofs.lemmas.Bool.{and_parts, eqb-true}
use Rattle.std.proofs.lemmas.List.Sums.{AllPass-from_list_all, list_all-from_AllPass}
use Rattle.std.specs.Prelude.{nat_eq, ok_or}
use Rattle.hex.specs.Hex.{decode_of, decode_pairs, decode_sized, is_hex_digit}
use Rattle.hex.specs.declared.error.FromHexError.{FromHexError}
use Rattle.hex.proofs.HexLemmas.{decode_of-digits, decode_of-ok, decode_sized-twice}
use Rattle.pgv_value.specs.Outcome.{copied}
use Rattle.pgv_value.specs.Reading.{has_items}
use Rattle.pgv_value.specs.declared.error.CodecError.TheVariants.{Syntax, WrongLength}
use Rattle.pgv_more.specs.ByteaText.{all_digits, bytea_in_text, after_prefix, of_length, sized_in_text, where_ok}

value_of_pairs : (digits : List ℕ) → (length digits % 2 == 0 && all_digits digits) ≡ true → (value : List ℕ) × (decode_of digits ≡ Ok value)
value_of_pairs digits pairs =
    let parts = and_parts (length digits % 2 == 0) (all_digits digits) pairs in
    decode_of-digits digits (eqb-true (length digits % 2) 0 parts.0) (AllPass-from_list_all is_hex_digit digits parts.1)

-- some are read from some
held : (digits value : List ℕ) → 0 < length digits → decode_of digits ≡ Ok value → has_items (where_ok (decode_of digits)) ≡ true
held digits [] some is = absurd (omega (arith, some, (decode_of-ok digits [] is).2))
held digits (byte ∷ value) some is = rw is refl

-- so memory may be asked for
asks : (read : Option (List ℕ)) → has_items read ≡ true → (copied (ok_or read Syntax)).may_alloc ≡ true
asks None has = has
asks (Some []) has = has
asks (Some (byte ∷ value)) has = refl

pub pairs_ask : (text digits : List ℕ) → Some digits ≡ after_prefix text → 0 < length digits → (length digits % 2 == 0 && all_digits digits) ≡ true → (copied (ok_or (bytea_in_text text) Syntax)).may_alloc ≡ true
pairs_ask text digits after some pairs =
    let value = value_of_pairs digits pairs in
    asks (bytea_in_text text) (rw (← after) (held digits value.0 some value.1))

-- and nothing of none
pub nothing_is_read : (text digits : List ℕ) → Some digits ≡ after_prefix text → length digits ≡ 0 → bytea_in_text text ≡ Some []
unfolding decode_pairs
nothing_is_read text [] after none = rw (← after) refl
nothing_is_read text (digit ∷ digits) after none = absurd (omega (arith, none))

-- all others stand for none
others_are_none : (digits : List ℕ) → (length digits % 2 == 0 && all_digits digits) ≡ false → (r : Result (List ℕ) FromHexError) → decode_of digits ≡ r → where_ok r ≡ None
others_are_none digits others (Err f) is = refl
others_are_none digits others (Ok value) is =
    let good = decode_of-ok digits value is in
    let all : all_digits digits ≡ true = list_all-from_AllPass is_hex_digit digits good.1 in
    let pairs : (length digits % 2 == 0 && all_digits digits) ≡ true = rw (good.0, all) refl in
    absurd (cc)

pub others_not_read : (text digits : List ℕ) → Some digits ≡ after_prefix text → (length digits % 2 == 0 && all_digits digits) ≡ false → bytea_in_text text ≡ None
others_not_read text digits after others = rw (← after) (others_are_none digits others (decode_of digits) refl)

-- ---- of n bytes

-- where digits are refused for n bytes, their bytes are of another number
wrong_length : (digits value : List ℕ) (n : ℕ) (e : FromHexError) → decode_of digits ≡ Ok value → decode_sized digits n ≡ Err e → of_length n value ≡ Err (WrongLength (length digits / 2))
wrong_length digits value n e is refused = by (nat_eq (length value) n) refl
  where
    by : (b : Bool) → nat_eq (length value) n ≡ b → of_length n value ≡ Err (WrongLength (length digits / 2))
    by false test = let half : length value ≡ length digits / 2 = omega (arith, (decode_of-ok digits value is).2) in rw (test, half) refl
    by true test =
        let size : length digits ≡ 2 * n = omega (arith, eqb-true (length value) n test, (decode_of-ok digits value is).2) in
        let both : Ok value ≡ Err e = sym is ∙ sym (decode_sized-twice digits n size) ∙ refused in
        absurd (cc)

pub refused_for_length : (text digits : List ℕ) (n : ℕ) (e : FromHexError) → Some digits ≡ after_prefix text → (length digits % 2 == 0 && all_digits digits) ≡ true → decode_sized digits n ≡ Err e →
    sized_in_text n text ≡ Err (WrongLength (length digits / 2))
refused_for_length text digits n e after pairs refused =
    let value = value_of_pairs digits pairs in
    rw (← after, value.1) (wrong_length digits value.0 n e value.1 refused)

pub refused_for_digits : (text digits : List ℕ) (n : ℕ) → Some digits ≡ after_prefix text → (length digits % 2 == 0 && all_digits digits) ≡ false → sized_in_text n text ≡ Err Syntax
refused_for_digits text digits n after others = rw (others_not_read text digits after others) refl
