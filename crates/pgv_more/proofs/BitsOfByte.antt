-- One byte of bits.
use Rattle.std.proofs.Common.{◌≡◌, ℕ, suc, zero, ◌+◌, ◌-◌, ◌*◌, ◌/◌, ◌%◌, ◌^◌, ◌<◌, ◌≤◌, Bool, true, false, List, [], ◌∷◌, ◌++◌, length, get_or, take, refl, sym, ap, ◌∙◌, arith}
use Rattle.std.specs.Int.{bit_at}
use lib.Bits.{bit_and, bit_or}
use Rattle.std.specs.Prelude.{◌==◌}
use Rattle.std.proofs.lemmas.Nat.{pow-add, shl-shr, or_shifted, pow_below}
use Rattle.std.proofs.lemmas.Nat.Bits.{ones_shl, and_high_mask}
use Rattle.std.proofs.lemmas.List.{get_or_append_left, get_or-append-add}
use Rattle.std.proofs.Math.Pow.{shr_mod}
use Rattle.pgv_more.specs.Bits.{low_bits, bits_of, number_of}
use Rattle.pgv_more.specs.PackingLemmas.{length-low_bits, number_of-push, number_of-short, front_number}

mask : (place : ℕ) → place < 8 → 128 / 2 ^ place ≡ 2 ^ (7 - place)
mask place l =
    let e : 7 - place + place ≡ 7 = omega arith in
    let p : 2 ^ (7 - place) * 2 ^ place ≡ 128 = sym (pow-add 2 (7 - place) place) ∙ ap (λ (k : ℕ). 2 ^ k) e in
    ap (λ (n : ℕ). n / 2 ^ place) (sym p) ∙ shl-shr (2 ^ (7 - place)) place

pub bit_set : (bits : List Bool) (place byte : ℕ) → place < 8 → length bits ≡ place → byte ≡ number_of 8 bits → bit_or byte (128 / 2 ^ place) ≡ number_of 8 (bits ++ true ∷ [])
bit_set bits place byte l e f =
    let whole : length bits + suc (7 - place) ≡ 8 = omega arith in
    let pushed : number_of 8 (bits ++ true ∷ []) ≡ number_of 8 bits + 2 ^ (7 - place) = rw whole at (number_of-push (7 - place) bits true) in
    let short : number_of 8 bits ≡ number_of (length bits) bits * 2 ^ suc (7 - place) = rw whole at (number_of-short (length bits) (suc (7 - place)) bits (omega arith)) in
    let joined = or_shifted (number_of (length bits) bits) (suc (7 - place)) (2 ^ (7 - place)) (pow_below (7 - place) (suc (7 - place)) (omega arith)) in
    rw (mask place l, f ∙ short, joined) (sym (pushed ∙ ap (λ (n : ℕ). n + 2 ^ (7 - place)) short))

pub bit_unset : (bits : List Bool) (place byte : ℕ) → place < 8 → length bits ≡ place → byte ≡ number_of 8 bits → byte ≡ number_of 8 (bits ++ false ∷ [])
bit_unset bits place byte l e f =
    let whole : length bits + suc (7 - place) ≡ 8 = omega arith in
    let pushed : number_of 8 (bits ++ false ∷ []) ≡ number_of 8 bits + 0 = rw whole at (number_of-push (7 - place) bits false) in
    omega arith

pub first_is : (byte many : ℕ) → byte < 256 → many ≤ 8 → bit_and byte (255 * 2 ^ (8 - many) % 256) ≡ number_of 8 (take many (low_bits 8 byte))
first_is byte many small l =
    let whole : many + (8 - many) ≡ 8 = omega arith in
    let fits : byte < 2 ^ (many + (8 - many)) = rw whole (omega arith) in
    let first : number_of 8 (take many (low_bits 8 byte)) ≡ byte / 2 ^ (8 - many) % 2 ^ many * 2 ^ (8 - many) = rw whole at (front_number many (8 - many) byte) in
    rw (ones_shl 8 (8 - many) (omega arith), and_high_mask 8 (8 - many) (omega arith) byte small, first, shr_mod {n = byte} many (8 - many) fits) refl

low_bit : (n x r : ℕ) (d : Bool) → r < n → get_or (low_bits n x) r d ≡ (bit_at x (n - 1 - r) == 1)
unfolding low_bits
low_bit zero x r d l = absurd (omega arith)
low_bit (suc n) x zero d l = let e : suc n - 1 - 0 ≡ n = omega arith in rw e refl
low_bit (suc n) x (suc r) d l = let e : suc n - 1 - suc r ≡ n - 1 - r = omega arith in rw e (low_bit n x r d (omega arith))

-- the bit at a place
pub bit_there : (bytes : List ℕ) (q r : ℕ) (d : Bool) → q < length bytes → r < 8 → get_or (bits_of bytes) (8 * q + r) d ≡ (bit_at (get_or bytes q 0) (7 - r) == 1)
unfolding bits_of
bit_there [] q r d l s = absurd (omega arith)
bit_there (byte ∷ bytes) zero r d l s =
    let e : 8 * 0 + r ≡ r = omega arith in
    let f : 8 - 1 - r ≡ 7 - r = omega arith in
    rw (e, get_or_append_left (low_bits 8 byte) (bits_of bytes) d r (omega (arith, length-low_bits 8 byte)), low_bit 8 byte r d s) refl
bit_there (byte ∷ bytes) (suc q) r d l s =
    let e : 8 * suc q + r ≡ length (low_bits 8 byte) + (8 * q + r) = omega (arith, length-low_bits 8 byte) in
    rw (e, get_or-append-add (low_bits 8 byte) (bits_of bytes) (8 * q + r) d) (bit_there bytes q r d (omega arith) s)
