use Rattle.std.proofs.Common.{◌≡◌, ◌<◌, ◌≤◌, ℕ, Bool, true, false, List, [], ◌∷◌, length, take, drop, Option, Some, None, Ok, refl, ap, arith, inr}
use Rattle.std.specs.Prelude.{◌==◌, cond, nat_lt}
use Rattle.std.specs.Int.{w32, from_be_bytes}
use Rattle.std.proofs.lemmas.Bool.Decides.{nat_tests}
use Rattle.std.proofs.lemmas.Option.{same_Some}
use Rattle.std.proofs.lemmas.Result.{err_from_is_err_and}
use Rattle.pgv_value.specs.Outcome.{copied}
use Rattle.pgv_value.specs.ReadingSteps.{number}
use Rattle.pgv_more.specs.Bits.{bits_of, byte_count}
use Rattle.pgv_more.specs.BitsBinary.{bits_in_binary, bit_count}
use Rattle.pgv_more.proofs.Kept.{kept_count}
use Rattle.pgv_more.proofs.bit_vec.codec.read_binary.Goals as goal

there : (bits : List Bool) → 0 < length bits → (copied {X = Bool} (Ok bits)).may_alloc ≡ true
there [] l = absurd (omega (arith, l))
there (bit ∷ bits) l = refl

by_number : (short : Bool) (form body : List ℕ) (count : ℕ) → nat_lt (length form) 4 ≡ short → cond {A = Option (ℕ × List ℕ)} short None (Some (from_be_bytes w32 (take 4 form), drop 4 form)) ≡ Some (count, body) →
    0 < count → count ≤ 2147483647 → length body ≡ byte_count count → (copied (bits_in_binary form)).may_alloc ≡ true
by_number true form body count is e some few size = absurd (cc)
by_number false form body count is e some few size =
    let parts = same_Some {A = ℕ × List ℕ} (from_be_bytes w32 (take 4 form), drop 4 form) (count, body) e in
    let first : bit_count form ≡ count = ap (λ (x : ℕ × List ℕ). x.0) parts in
    let rest : drop 4 form ≡ body = ap (λ (x : ℕ × List ℕ). x.1) parts in
    let positive_number : nat_lt 2147483647 count ≡ false = grind (arith, nat_tests, few) in
    let fits : (length body == byte_count count) ≡ true = grind (arith, nat_tests, size) in
    rw (is, first, positive_number, rest, fits) (there (take count (bits_of body)) (omega (arith, kept_count body count (omega (arith, size)), some)))

-- of a number that isn't zero bits are read, and so memory is asked for
some_bits : (form body : List ℕ) (count : ℕ) → number form ≡ Some (count, body) → 0 < count → count ≤ 2147483647 → length body ≡ byte_count count → (copied (bits_in_binary form)).may_alloc ≡ true
unfolding number
some_bits form body count e some few size = by_number (nat_lt (length form) 4) form body count refl e some few size

pub returns-in_err-from_packed : goal.returns-in_err-from_packed
returns-in_err-from_packed c =
    let p = err_from_is_err_and c.from_residual-in_err-from_packed.result c.from_residual-in_err-from_packed.ensures.1 in
    let some : 0 < c.in_ok-count.count = omega (arith, c.in_err-from_packed.ensures) in
    let asked = some_bits c.args.form.now c.in_ok-count.body.now c.in_ok-count.count c.in_ok-count.ensures.exact some c.if-count-gt-MAX_LENGTH.false (omega (arith, c.if-body-div_ceil.false, c.div_ceil.ensures)) in
    rw (p.1, p.2) (inr (inr (refl, asked)))
