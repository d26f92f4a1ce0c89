-- A whole number is read from its own bytes (PostgreSQL: "Numeric Types", 8.1.1).
use mir.Val.{bits, hbits}
use mir.ValLaws.{of_z_fits}
use Rattle.std.specs.Prelude.{◌≡◌, ℕ, ◌+◌, ◌<◌, ◌^◌, nat_lt, true, if◌then◌else◌, ℤ, pos, negsuc, ◌-ℤ◌, FitsSigned, Ok, refl}
use Rattle.std.specs.Int.{Width, w8, w16, w32, w64, cast_signed, cast_unsigned, from_be_bytes, to_be_bytes}
use Rattle.std.proofs.Common.{ap, ◌∙◌, arith}
use Rattle.std.proofs.lemmas.Bool.{ltb-true, lt-ltb, le-ltb}
use Rattle.std.proofs.lemmas.Int.{ints, to_z-of_z}
use Rattle.std.proofs.lemmas.Nat.{from_be_bytes-to_be_bytes_2, from_be_bytes-to_be_bytes_4, from_be_bytes-to_be_bytes_8}
use Rattle.byteorder.specs.Endian.{big_number}
use Rattle.pgv_value.specs.IntBinary.{fits_signed, whole_number}
use Rattle.pgv_value.specs.Parsed.{Parsed}

pub is_signed : (w : Width) (v : ℤ) → fits_signed w v ≡ true → FitsSigned w v
is_signed w (pos n) h = record { sfits = ltb-true n (2 ^ hbits w) h }
is_signed w (negsuc n) h = record { sfits = ltb-true n (2 ^ hbits w) h }

pub signed_fits : (w : Width) (v : ℤ) → FitsSigned w v → fits_signed w v ≡ true
signed_fits w (pos n) f = lt-ltb n (2 ^ hbits w) f.sfits
signed_fits w (negsuc n) f = lt-ltb n (2 ^ hbits w) f.sfits

pub unsigned_fits : (w : Width) (v : ℤ) → fits_signed w v ≡ true → cast_unsigned w v < 2 ^ bits w
unsigned_fits w v h = (of_z_fits w v (is_signed w v h)).fits

-- Bytes that say the number without its sign say it with its sign.
signed_again : (w : Width) (v : ℤ) (said : ℕ) → 2 ^ bits w ≡ 2 ^ hbits w + 2 ^ hbits w → fits_signed w v ≡ true →
    (cast_unsigned w v < 2 ^ bits w → said ≡ cast_unsigned w v) → (if nat_lt said (2 ^ hbits w) then pos said else pos said -ℤ pos (2 ^ bits w)) ≡ v
signed_again w (pos n) said double h same =
    let lt : n < 2 ^ hbits w = ltb-true n (2 ^ hbits w) h in
    rw (same (unsigned_fits w (pos n) h), lt-ltb n (2 ^ hbits w) lt) refl
signed_again w (negsuc n) said double h same =
    let lt : n < 2 ^ hbits w = ltb-true n (2 ^ hbits w) h in
    let is = same (unsigned_fits w (negsuc n) h) in
    rw (le-ltb said (2 ^ hbits w) (omega (arith, is, double, lt))) (omega (arith, ints, is, double, lt))

pub own_byte : (v : ℤ) → fits_signed w8 v ≡ true → whole_number (to_be_bytes w8 (cast_unsigned w8 v)) ≡ Ok v
own_byte v h = ap (λ (z : ℤ). let p : Parsed ℤ = Ok z in p) (signed_again w8 v (big_number 1 (to_be_bytes w8 (cast_unsigned w8 v))) (omega arith) h (λ lt. omega arith))

pub own_two_bytes : (v : ℤ) → fits_signed w16 v ≡ true → whole_number (to_be_bytes w16 (cast_unsigned w16 v)) ≡ Ok v
own_two_bytes v h = ap (λ (z : ℤ). let p : Parsed ℤ = Ok z in p) (signed_again w16 v (big_number 2 (to_be_bytes w16 (cast_unsigned w16 v))) (omega arith) h (λ lt. let same = from_be_bytes-to_be_bytes_2 (cast_unsigned w16 v) lt in omega (arith, same)))

pub own_four_bytes : (v : ℤ) → fits_signed w32 v ≡ true → whole_number (to_be_bytes w32 (cast_unsigned w32 v)) ≡ Ok v
own_four_bytes v h = ap (λ (z : ℤ). let p : Parsed ℤ = Ok z in p) (signed_again w32 v (big_number 4 (to_be_bytes w32 (cast_unsigned w32 v))) (omega arith) h (λ lt. let same = from_be_bytes-to_be_bytes_4 (cast_unsigned w32 v) lt in omega (arith, same)))

pub own_eight_bytes : (v : ℤ) → fits_signed w64 v ≡ true → whole_number (to_be_bytes w64 (cast_unsigned w64 v)) ≡ Ok v
own_eight_bytes v h = ap (λ (z : ℤ). let p : Parsed ℤ = Ok z in p) (signed_again w64 v (big_number 8 (to_be_bytes w64 (cast_unsigned w64 v))) (omega arith) h (λ lt. let same = from_be_bytes-to_be_bytes_8 (cast_unsigned w64 v) lt in omega (arith, same)))

-- A signed number is that of its own bytes.
pub eight_again : (v : ℤ) → fits_signed w64 v ≡ true → cast_signed w64 (from_be_bytes w64 (to_be_bytes w64 (cast_unsigned w64 v))) ≡ v
eight_again v h = ap (cast_signed w64) (from_be_bytes-to_be_bytes_8 (cast_unsigned w64 v) (unsigned_fits w64 v h)) ∙ to_z-of_z w64 v (is_signed w64 v h)

pub four_again : (v : ℤ) → fits_signed w32 v ≡ true → cast_signed w32 (from_be_bytes w32 (to_be_bytes w32 (cast_unsigned w32 v))) ≡ v
four_again v h = ap (cast_signed w32) (from_be_bytes-to_be_bytes_4 (cast_unsigned w32 v) (unsigned_fits w32 v h)) ∙ to_z-of_z w32 v (is_signed w32 v h)

pub two_again : (v : ℤ) → fits_signed w16 v ≡ true → cast_signed w16 (from_be_bytes w16 (to_be_bytes w16 (cast_unsigned w16 v))) ≡ v
two_again v h = ap (cast_signed w16) (from_be_bytes-to_be_bytes_2 (cast_unsigned w16 v) (unsigned_fits w16 v h)) ∙ to_z-of_z w16 v (is_signed w16 v h)
