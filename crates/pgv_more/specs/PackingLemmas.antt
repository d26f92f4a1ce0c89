-- Unpacking inverts packing (PostgreSQL: "Bit String Types").
use Rattle.std.specs.Prelude.{◌≡◌, ℕ, zero, suc, ◌+◌, ◌*◌, ◌/◌, ◌%◌, ◌^◌, ◌<◌, ◌≤◌, ◌==◌, Bool, false, true, List, [], ◌∷◌, ◌++◌, length, take, drop, refl, if◌then◌else◌}
use Rattle.std.specs.Int.{bit_at}
use Rattle.std.proofs.Common.{sym, ap, ◌∙◌, arith, append_assoc, get_or}
use Rattle.std.proofs.lemmas.Nat.{mod-pow-add, pow_pos, pow-add, div-mul-add, shr-shr}
use Rattle.std.proofs.lemmas.Nat.Bits.{bit_at_cat_low, bit_at-lt, bit_at-zero}
use Rattle.std.proofs.lemmas.List.{length-append, length-drop, drop-append-le, drop_at, drop-drop, append-nil}
use Rattle.std.proofs.Math.Seq.{drop-nil}
use Rattle.std.proofs.Math.Nat.{add-mul}
use Rattle.pgv_more.specs.Bits.{low_bits, bits_of, number_of, byte_count, bytes_of, packed}

double : (n : ℕ) → 2 ^ suc n ≡ 2 ^ n + 2 ^ n
double n = omega arith

-- a bit as a number
abbrev one_if : Bool → ℕ
one_if true = 1
one_if false = 0

weight : (b : Bool) (n : ℕ) → (if b then n else 0) ≡ one_if b * n
weight true n = omega arith
weight false n = omega arith

tested : (b : Bool) → (one_if b % 2 == 1) ≡ b
tested true = refl
tested false = refl

weight_of_test : (c n : ℕ) → c < 2 → (if c == 1 then n else 0) ≡ c * n
weight_of_test zero n l = omega arith
weight_of_test (suc zero) n l = omega arith
weight_of_test (suc (suc c)) n l = absurd (omega arith)

pub length-low_bits : (n x : ℕ) → length (low_bits n x) ≡ n
unfolding low_bits
length-low_bits zero x = refl
length-low_bits (suc n) x = omega (arith, length-low_bits n x)

pub number_of-lt : (n : ℕ) (bits : List Bool) → number_of n bits < 2 ^ n
unfolding number_of
number_of-lt zero bits = omega arith
number_of-lt (suc n) [] = pow_pos (suc n)
number_of-lt (suc n) (true ∷ bits) = omega (arith, double n, number_of-lt n bits)
number_of-lt (suc n) (false ∷ bits) = omega (arith, double n, number_of-lt n bits)

pub number_of-nil : (n : ℕ) → number_of n [] ≡ 0
unfolding number_of
number_of-nil zero = refl
number_of-nil (suc n) = refl

-- ---- the bits of a number, and the number of bits

low_bits-low : (m n a r : ℕ) → m ≤ n → low_bits m (a * 2 ^ n + r) ≡ low_bits m r
unfolding low_bits
low_bits-low zero n a r l = refl
low_bits-low (suc m) n a r l = rw (bit_at_cat_low a n r m (omega arith), low_bits-low m n a r (omega arith)) refl

top_bit : (b : Bool) (n r : ℕ) → r < 2 ^ n → (bit_at (one_if b * 2 ^ n + r) n == 1) ≡ b
top_bit b n r l = rw (div-mul-add (one_if b) (2 ^ n) r l) (tested b)

-- a list of bits, cut or filled with zeros to n bits
unfoldable pub fill : ℕ → List Bool → List Bool
fill zero bits = []
fill (suc n) [] = false ∷ fill n []
fill (suc n) (bit ∷ bits) = bit ∷ fill n bits

low_bits-number_of : (n : ℕ) (bits : List Bool) → low_bits n (number_of n bits) ≡ fill n bits
unfolding low_bits number_of fill
low_bits-number_of zero bits = refl
low_bits-number_of (suc n) [] = rw (bit_at-zero n) (ap (λ (bs : List Bool). false ∷ bs) (ap (low_bits n) (sym (number_of-nil n)) ∙ low_bits-number_of n []))
low_bits-number_of (suc n) (bit ∷ bits) =
    rw (weight bit (2 ^ n), top_bit bit n (number_of n bits) (number_of-lt n bits), low_bits-low n n (one_if bit) (number_of n bits) (omega arith), low_bits-number_of n bits) refl

number_of-low_bits : (n x : ℕ) (more : List Bool) → number_of n (low_bits n x ++ more) ≡ x % 2 ^ n
unfolding low_bits number_of
number_of-low_bits zero x more = omega arith
number_of-low_bits (suc n) x more =
    let k : suc n ≡ 1 + n = omega arith in
    let e : x % 2 ^ suc n ≡ bit_at x n * 2 ^ n + x % 2 ^ n = ap (λ (m : ℕ). x % 2 ^ m) k ∙ mod-pow-add x 1 n in
    rw (number_of-low_bits n x more, weight_of_test (bit_at x n) (2 ^ n) (bit_at-lt x n)) (sym e)

number_of-append : (n : ℕ) (bits more : List Bool) → n ≤ length bits → number_of n (bits ++ more) ≡ number_of n bits
unfolding number_of
number_of-append zero bits more l = refl
number_of-append (suc n) [] more l = absurd (omega arith)
number_of-append (suc n) (bit ∷ bits) more l = ap (λ (m : ℕ). (if bit then 2 ^ n else 0) + m) (number_of-append n bits more (omega arith))

pub number_of-take : (n : ℕ) (bits : List Bool) → number_of n (take n bits) ≡ number_of n bits
unfolding number_of
number_of-take zero bits = refl
number_of-take (suc n) [] = refl
number_of-take (suc n) (bit ∷ bits) = ap (λ (m : ℕ). (if bit then 2 ^ n else 0) + m) (number_of-take n bits)

-- fewer bits are in front of zeros
pub number_of-short : (c j : ℕ) (bits : List Bool) → length bits ≤ c → number_of (c + j) bits ≡ number_of c bits * 2 ^ j
unfolding number_of
number_of-short zero j [] l = omega (arith, number_of-nil (zero + j))
number_of-short zero j (bit ∷ bits) l = absurd (omega arith)
number_of-short (suc c) j [] l = omega (arith, number_of-nil (suc c + j))
number_of-short (suc c) j (bit ∷ bits) l =
    let k : suc c + j ≡ suc (c + j) = omega arith in
    rw (k, number_of-short c j bits (omega arith), weight bit (2 ^ c), weight bit (2 ^ (c + j)), pow-add 2 c j) (omega (arith, add-mul (one_if bit * 2 ^ c) (number_of c bits) (2 ^ j)))

-- one more bit
pub number_of-push : (k : ℕ) (bits : List Bool) (bit : Bool) → number_of (length bits + suc k) (bits ++ bit ∷ []) ≡ number_of (length bits + suc k) bits + (if bit then 2 ^ k else 0)
unfolding number_of
number_of-push k [] bit = let e : 0 + suc k ≡ suc k = omega arith in rw (e, number_of-nil k) (omega arith)
number_of-push k (b ∷ bits) bit =
    let e : suc (length bits) + suc k ≡ suc (length bits + suc k) = omega arith in
    rw (e, number_of-push k bits bit) (omega arith)

-- the first c of c + j bits
first_bits : (c j x : ℕ) → take c (low_bits (c + j) x) ≡ low_bits c (x / 2 ^ j)
unfolding low_bits
first_bits zero j x = refl
first_bits (suc c) j x =
    let k : suc c + j ≡ suc (c + j) = omega arith in
    let e : c + j ≡ j + c = omega arith in
    rw (k, first_bits c j x, shr-shr x j c, e) refl

pub front_number : (c j x : ℕ) → number_of (c + j) (take c (low_bits (c + j) x)) ≡ x / 2 ^ j % 2 ^ c * 2 ^ j
front_number c j x =
    rw (first_bits c j x, number_of-short c j (low_bits c (x / 2 ^ j)) (omega (arith, length-low_bits c (x / 2 ^ j))), ← append-nil (low_bits c (x / 2 ^ j)), number_of-low_bits c (x / 2 ^ j) []) refl

-- ---- the bytes of bits, and the bits of bytes

pub length-bits_of : (bytes : List ℕ) → length (bits_of bytes) ≡ 8 * length bytes
unfolding bits_of
length-bits_of [] = refl
length-bits_of (byte ∷ bytes) = omega (arith, length-append (low_bits 8 byte) (bits_of bytes), length-low_bits 8 byte, length-bits_of bytes)

pub bits_of-append : (front after : List ℕ) → bits_of (front ++ after) ≡ bits_of front ++ bits_of after
unfolding bits_of
bits_of-append [] after = refl
bits_of-append (byte ∷ front) after = rw (bits_of-append front after) (sym (append_assoc (low_bits 8 byte) (bits_of front) (bits_of after)))

pub length-bytes_of : (n : ℕ) (bits : List Bool) → length (bytes_of n bits) ≡ n
unfolding bytes_of
length-bytes_of zero bits = refl
length-bytes_of (suc n) bits = omega (arith, length-bytes_of n (drop 8 bits))

fill-split : (a b : ℕ) (bits : List Bool) → fill (a + b) bits ≡ fill a bits ++ fill b (drop a bits)
unfolding fill
fill-split zero b bits = let e : 0 + b ≡ b = omega arith in rw e refl
fill-split (suc a) b [] = let e : suc a + b ≡ suc (a + b) = omega arith in rw (e, fill-split a b [], drop-nil a) refl
fill-split (suc a) b (bit ∷ bits) = let e : suc a + b ≡ suc (a + b) = omega arith in rw (e, fill-split a b bits) refl

take-fill : (n : ℕ) (bits : List Bool) → length bits ≤ n → take (length bits) (fill n bits) ≡ bits
unfolding fill
take-fill n [] l = refl
take-fill zero (bit ∷ bits) l = absurd (omega arith)
take-fill (suc n) (bit ∷ bits) l = ap (λ (bs : List Bool). bit ∷ bs) (take-fill n bits (omega arith))

pub bits_of-bytes_of : (n : ℕ) (bits : List Bool) → bits_of (bytes_of n bits) ≡ fill (8 * n) bits
unfolding bits_of bytes_of fill
bits_of-bytes_of zero bits = refl
bits_of-bytes_of (suc n) bits =
    let e : 8 * suc n ≡ 8 + 8 * n = omega arith in
    rw (low_bits-number_of 8 bits, bits_of-bytes_of n (drop 8 bits), e) (sym (fill-split 8 (8 * n) bits))

-- the bits are had back from their bytes
pub packed_again : (bits : List Bool) → take (length bits) (bits_of (packed bits)) ≡ bits
packed_again bits = rw (bits_of-bytes_of (byte_count (length bits)) bits) (take-fill (8 * byte_count (length bits)) bits (omega arith))

-- these are numbers of eight bits
abbrev pub AreByteNumbers : List ℕ → Type 0
AreByteNumbers bytes = (i : ℕ) → get_or bytes i 0 < 256

-- the bytes are had back from their bits
pub bytes_of-bits_of : (bytes : List ℕ) (more : List Bool) → AreByteNumbers bytes → bytes_of (length bytes) (bits_of bytes ++ more) ≡ bytes
unfolding bytes_of bits_of
bytes_of-bits_of [] more small = refl
bytes_of-bits_of (byte ∷ bytes) more small =
    let e : low_bits 8 byte ++ bits_of bytes ++ more ≡ low_bits 8 byte ++ (bits_of bytes ++ more) = append_assoc (low_bits 8 byte) (bits_of bytes) more in
    let first : number_of 8 (low_bits 8 byte ++ (bits_of bytes ++ more)) ≡ byte = number_of-low_bits 8 byte (bits_of bytes ++ more) ∙ omega (arith, small 0) in
    rw (e, first, drop_at (low_bits 8 byte) (bits_of bytes ++ more) 8 (length-low_bits 8 byte), bytes_of-bits_of bytes more (λ i. small (suc i))) refl

pub bytes_of-split : (a b : ℕ) (bits : List Bool) → bytes_of (a + b) bits ≡ bytes_of a bits ++ bytes_of b (drop (8 * a) bits)
unfolding bytes_of
bytes_of-split zero b bits = let e : 0 + b ≡ b = omega arith in rw e refl
bytes_of-split (suc a) b bits =
    let e : suc a + b ≡ suc (a + b) = omega arith in
    let f : 8 * suc a ≡ 8 + 8 * a = omega arith in
    rw (e, f, bytes_of-split a b (drop 8 bits), drop-drop (8 * a) 8 bits) refl

pub bytes_of-append : (n : ℕ) (bits more : List Bool) → 8 * n ≤ length bits → bytes_of n (bits ++ more) ≡ bytes_of n bits
unfolding bytes_of
bytes_of-append zero bits more l = refl
bytes_of-append (suc n) bits more l =
    rw (number_of-append 8 bits more (omega arith), drop-append-le 8 bits more (omega arith), bytes_of-append n (drop 8 bits) more (omega (arith, length-drop 8 bits))) refl
