-- The laws of bits.
use Rattle.std.proofs.Common.{◌≡◌, ℕ, zero, suc, ◌+◌, ◌-◌, ◌*◌, ◌≤◌, eqb, ltb, Bool, true, false, cond, List, [], ◌∷◌, ◌++◌, length, take, drop, refl, sym, ap, ◌∙◌, arith, Some, None, Ok, Err}
use Rattle.std.specs.Prelude.{map, replicate}
use Rattle.std.specs.Int.{w32, cast_signed, to_be_bytes}
use Rattle.std.specs.List.{list_all}
use Rattle.std.proofs.lemmas.Bool.{eqb-true, and_parts}
use Rattle.std.proofs.lemmas.Bool.Decides.{nat_tests}
use Rattle.std.proofs.lemmas.List.{length-append, length-drop, length-take-le, length-replicate, take-append-drop}
use Rattle.std.proofs.lemmas.Nat.{be_bytes_4}
use Rattle.std.proofs.lemmas.Option.{same_Some}
use Rattle.pgv_value.specs.FrameLaws.{AreBytes}
use Rattle.pgv_value.specs.Parsed.{Parsed}
use Rattle.pgv_value.specs.declared.error.CodecError.{CodecError}
use Rattle.pgv_value.specs.declared.error.CodecError.TheVariants.{Short, NegativeLength, WrongLength}
use Rattle.pgv_value.proofs.Outcomes.{ok_is}
use Rattle.pgv_more.specs.Bits.{bits_of, byte_count, bytes_of, packed}
use Rattle.pgv_more.specs.BitsBinary.{IsBits, BitsAreRead, OneListOfBits, bits_in_binary, bit_count}
use Rattle.pgv_more.specs.BitsText.{BitsAreReadOfText, digit_of, is_bit_digit, is_one}
use Rattle.pgv_more.specs.BitsBackLemmas.{binary_there}
use Rattle.pgv_more.specs.PackedBits.{PackedIsOne}
use Rattle.pgv_more.specs.PackingLemmas.{AreByteNumbers, length-bits_of, number_of-lt, bytes_of-bits_of, bits_of-bytes_of, fill}

numbers : (bytes : List ℕ) → AreBytes bytes → AreByteNumbers bytes
numbers [] small i = omega arith
numbers (byte ∷ bytes) small zero = small.0
numbers (byte ∷ bytes) small (suc i) = numbers bytes small.1 i

small_bytes : (n : ℕ) (bits : List Bool) → AreByteNumbers (bytes_of n bits)
unfolding bytes_of
small_bytes zero bits i = omega arith
small_bytes (suc n) bits zero = number_of-lt 8 bits
small_bytes (suc n) bits (suc i) = small_bytes n (drop 8 bits) i

zeros_of : (k : ℕ) → fill k [] ≡ replicate k false
unfolding fill
zeros_of zero = refl
zeros_of (suc k) = ap (λ (bits : List Bool). false ∷ bits) (zeros_of k)

filled : (bits : List Bool) (n k : ℕ) → n ≡ length bits + k → fill n bits ≡ bits ++ replicate k false
unfolding fill
filled [] n k e = let f : n ≡ k = omega arith in rw f (zeros_of k)
filled (bit ∷ bits) zero k e = absurd (omega arith)
filled (bit ∷ bits) (suc n) k e = ap (λ (bs : List Bool). bit ∷ bs) (filled bits n k (omega arith))

-- bytes that have the same bits are the same
same_bytes : (xs ys : List ℕ) → AreByteNumbers xs → AreByteNumbers ys → bits_of xs ≡ bits_of ys → xs ≡ ys
same_bytes xs ys small small' e =
    let size : length xs ≡ length ys = omega (arith, length-bits_of xs, length-bits_of ys, ap length e) in
    sym (bytes_of-bits_of xs [] small) ∙ ap (λ (n : ℕ). bytes_of n (bits_of xs ++ [])) size ∙ ap (λ (bs : List Bool). bytes_of (length ys) (bs ++ [])) e ∙ bytes_of-bits_of ys [] small'

pub packed_is_one : PackedIsOne
unfolding PackedIsOne
packed_is_one bits bytes small = (
  λ e. let n = 8 * byte_count (length bits) in
      (n - length bits, omega arith, ap bits_of (sym e) ∙ bits_of-bytes_of (byte_count (length bits)) bits ∙ filled bits n (n - length bits) (omega arith)),
  λ h. let count : 8 * byte_count (length bits) ≡ length bits + h.0 = omega (arith, h.1, length-bits_of bytes, ap length h.2, length-append bits (replicate h.0 false), length-replicate h.0 false) in
      same_bytes (packed bits) bytes (small_bytes (byte_count (length bits)) bits) (numbers bytes small)
      (bits_of-bytes_of (byte_count (length bits)) bits ∙ filled bits (8 * byte_count (length bits)) h.0 count ∙ sym h.2),
)

found : (a b c : Bool) (d e f : CodecError) (x y : List Bool) → cond {A = Parsed (List Bool)} a (Err d) (cond b (Err e) (cond c (Ok x) (Err f))) ≡ Ok y → (a ≡ false) × (b ≡ false) × (c ≡ true) × (x ≡ y)
found true b c d e f x y is = absurd (cc)
found false true c d e f x y is = absurd (cc)
found false false false d e f x y is = absurd (cc)
found false false true d e f x y is = (refl, refl, refl, ok_is x y is)

front_small : (n : ℕ) (form : List ℕ) → AreByteNumbers form → AreByteNumbers (take n form)
front_small zero form small i = omega arith
front_small (suc n) [] small i = omega arith
front_small (suc n) (byte ∷ form) small zero = small 0
front_small (suc n) (byte ∷ form) small (suc i) = front_small n form (λ j. small (suc j)) i

not_less : (a b : ℕ) → ltb a b ≡ false → b ≤ a
not_less a b t = grind (arith, nat_tests)

is_bits : (form : List ℕ) (bits : List Bool) → AreBytes form → bits_in_binary form ≡ Ok bits → IsBits form bits
is_bits form bits small e =
    let n = bit_count form in
    let body = drop 4 form in
    let f = found (ltb (length form) 4) (ltb 2147483647 n) (eqb (length body) (byte_count n)) Short (NegativeLength (cast_signed w32 n)) (WrongLength (length form)) (take n (bits_of body)) bits e in
    let long : 4 ≤ length form = not_less (length form) 4 f.0 in
    let few : n ≤ 2147483647 = not_less 2147483647 n f.1 in
    let size : length body ≡ byte_count n = eqb-true (length body) (byte_count n) f.2 in
    let room : length (bits_of body) ≡ 8 * byte_count n = length-bits_of body ∙ ap (λ (m : ℕ). 8 * m) size in
    let many : length bits ≡ n = ap length (sym f.3) ∙ length-take-le n (bits_of body) (omega arith) in
    let front : to_be_bytes w32 n ≡ take 4 form = be_bytes_4 (take 4 form) n (length-take-le 4 form long) (front_small 4 form (numbers form small)) refl in (
      body,
      drop n (bits_of body),
      omega arith,
      sym (take-append-drop 4 form) ∙ ap (λ (xs : List ℕ). xs ++ body) (sym front) ∙ ap (λ (m : ℕ). to_be_bytes w32 m ++ body) (sym many),
      omega (arith, length-drop n (bits_of body)),
      sym (take-append-drop n (bits_of body)) ∙ ap (λ (bs : List Bool). bs ++ drop n (bits_of body)) f.3,
    )

pub bits_are_read : BitsAreRead
unfolding BitsAreRead
bits_are_read form bits small = (
  λ e. is_bits form bits small e,
  λ h. ap bits_in_binary h.3 ∙ binary_there bits h.1 h.0 h.2 h.4 h.5,
)

pub one_list_of_bits : OneListOfBits
unfolding OneListOfBits BitsAreRead
one_list_of_bits form first second small a b = ok_is first second (sym ((bits_are_read form first small).1 a) ∙ (bits_are_read form second small).1 b)

-- ---- texts

digit_is : (c : ℕ) → is_bit_digit c ≡ true → digit_of (is_one c) ≡ c
digit_is c e = grind (arith, nat_tests)

digits_are : (text : List ℕ) → list_all is_bit_digit text ≡ true → text ≡ map digit_of (map is_one text)
digits_are [] e = refl
digits_are (c ∷ text) e =
    let both = and_parts (is_bit_digit c) (list_all is_bit_digit text) e in
    ap (λ (d : ℕ). d ∷ text) (sym (digit_is c both.0)) ∙ ap (λ (ds : List ℕ). digit_of (is_one c) ∷ ds) (digits_are text both.1)

are_digits : (bits : List Bool) → (list_all is_bit_digit (map digit_of bits) ≡ true) × (map is_one (map digit_of bits) ≡ bits)
are_digits [] = (refl, refl)
are_digits (true ∷ bits) = let h = are_digits bits in (h.0, ap (λ (bs : List Bool). true ∷ bs) h.1)
are_digits (false ∷ bits) = let h = are_digits bits in (h.0, ap (λ (bs : List Bool). false ∷ bs) h.1)

kept : (b : Bool) (x y : List Bool) → cond b (Some x) None ≡ Some y → (b ≡ true) × (x ≡ y)
kept true x y e = (refl, same_Some x y e)
kept false x y e = absurd (cc)

pub bits_are_read_of_text : BitsAreReadOfText
unfolding BitsAreReadOfText
bits_are_read_of_text text bits = (
  λ e. let k = kept (list_all is_bit_digit text) (map is_one text) bits e in digits_are text k.0 ∙ ap (map digit_of) k.1,
  λ h. let k = are_digits bits in rw (h, k.0, k.1) refl,
)
