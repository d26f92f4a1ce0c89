-- Numbers of levels are read from their printed digits.
use Rattle.std.specs.Prelude.{◌≡◌, ℕ, ◌<◌, ◌^◌, nat_lt, not, ◌&&◌, ◌==◌, true, false, List, [], ◌∷◌, length, Some, Ok, refl}
use Rattle.std.specs.Char.{is_ascii_digit}
use Rattle.std.specs.Fmt.{decimal}
use Rattle.std.specs.List.{list_all}
use Rattle.std.specs.Str.{all_ascii_digits}
use Rattle.std.specs.Str.Parse.{digits_value}
use Rattle.std.proofs.Common.{arith, sym}
use Rattle.std.proofs.lemmas.Bool.{lt-ltb, and_from, and_parts}
use Rattle.std.proofs.lemmas.Fmt.{decimal_nonempty, digits_decimal, digits_value-decimal}
use Rattle.std.proofs.lemmas.Str.Parse.{IsNumeralModel, numerals_by_value, tells_all_ascii_digits}
use Rattle.pgv_ltree.specs.JoinLemmas.{lacks, other_char, wider}
use Rattle.pgv_ltree.specs.QueryRead.{bound_read, count_read, is_count_text}

pub own : IsNumeralModel (λ ds. all_ascii_digits ds ≡ true) (digits_value 10)
own = numerals_by_value _ tells_all_ascii_digits

pub each_digit : (text : List ℕ) → all_ascii_digits text ≡ true → list_all is_ascii_digit text ≡ true
each_digit [] e = refl
each_digit (c ∷ text) e = let b = and_parts (is_ascii_digit c) (all_ascii_digits text) e in and_from (is_ascii_digit c) (list_all is_ascii_digit text) b.0 (each_digit text b.1)

-- digits lack every other character
pub digits_lack : (d : ℕ) → is_ascii_digit d ≡ false → (text : List ℕ) → all_ascii_digits text ≡ true → lacks d text ≡ true
digits_lack d n text e = wider is_ascii_digit (λ c. not (c == d)) (other_char is_ascii_digit d n) text (each_digit text e)

pub count_there : (text : List ℕ) (n : ℕ) → all_ascii_digits text ≡ true → 0 < length text → n ≡ digits_value 10 text → n < 65536 → count_read text ≡ Ok n
count_there text n d some v small =
    let low : digits_value 10 text < 65536 = omega (arith, v, small) in
    let test : is_count_text text ≡ true = and_from (all_ascii_digits text && nat_lt 0 (length text)) (nat_lt (digits_value 10 text) 65536) (and_from (all_ascii_digits text) (nat_lt 0 (length text)) d (lt-ltb 0 (length text) some)) (lt-ltb (digits_value 10 text) 65536 low) in
    rw (test, v) refl

small_64 : (n : ℕ) → n < 65536 → n < 2 ^ 64
small_64 n l = omega arith

pub decimal_digits : (n : ℕ) → n < 65536 → all_ascii_digits (decimal n) ≡ true
decimal_digits n l = digits_decimal own n (small_64 n l)

pub decimal_some : (n : ℕ) → n < 65536 → 0 < length (decimal n)
decimal_some n l = decimal_nonempty n (small_64 n l)

pub count_again : (n : ℕ) → n < 65536 → count_read (decimal n) ≡ Ok n
count_again n l = count_there (decimal n) n (decimal_digits n l) (decimal_some n l) (sym (digits_value-decimal own n (small_64 n l))) l

pub bound_there : (text : List ℕ) (n : ℕ) → 0 < length text → count_read text ≡ Ok n → bound_read text ≡ Ok (Some n)
bound_there [] n l e = absurd (omega arith)
bound_there (c ∷ text) n l e = rw e refl
