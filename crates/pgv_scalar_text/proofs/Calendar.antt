-- The numbers of dates and times that jiff makes.
use Rattle.std.proofs.Common.{◌≡◌, ℕ, ◌<◌, ◌≤◌, Bool, true, false, ◌&&◌, nat_le, pos, ◌≤ℤ◌, Option, Some, None, option_map, Result, Ok, Err, IsOk, IfOk, ◌↔◌, arith, refl, ap, ◌∙◌, cond}
use Rattle.std.specs.Result.{result_ok}
use mir.Val.{to_z}
use mir.Syntax.{w8, w16}
use Rattle.std.proofs.lemmas.Int.{ints}
use Rattle.std.proofs.lemmas.Bool.Decides.{nat_tests}
use Rattle.std.proofs.lemmas.Bool.{false≢true}
use Rattle.jiff_core.proofs.DateTimeLemmas.{civil_nanos-parts}
use Rattle.jiff_core.specs.Calendar.{IsDate, days_in_month, days_from_civil}
use Rattle.jiff_core.specs.Date.{IsYmd, epoch_day}
use Rattle.jiff_core.specs.declared.civil.date.Date.{Date}
use Rattle.jiff_core.specs.declared.error.Error.{Error}
use Rattle.pgv_scalar_text.specs.DateTimeText.{is_day, day_number}

same_pos : (m n : ℕ) → pos m ≡ pos n → m ≡ n
same_pos m n e = omega (arith, ints)

in_order : (m n : ℕ) → m ≤ n → pos m ≤ℤ pos n
in_order m n h = omega (arith, ints)

order_in : (m n : ℕ) → pos m ≤ℤ pos n → m ≤ n
order_in m n h = omega (arith, ints)

-- the four tests of a day, whatever its month's last day is
pub tested : (m d last : ℕ) → (nat_le 1 m && nat_le m 12 && nat_le 1 d && nat_le d last) ≡ true → (1 ≤ m) × (m ≤ 12) × (1 ≤ d) × (d ≤ last)
tested m d last h = (grind (arith, nat_tests), grind (arith, nat_tests), grind (arith, nat_tests), grind (arith, nat_tests))

pub there : (m d last : ℕ) → 1 ≤ m → m ≤ 12 → 1 ≤ d → d ≤ last → (nat_le 1 m && nat_le m 12 && nat_le 1 d && nat_le d last) ≡ true
there m d last a b e f = grind (arith, nat_tests)

pub day_tested : (y m d : ℕ) → is_day y m d ≡ true → y < 10000 → IsDate (pos y) (pos m) (pos d)
day_tested y m d h l =
    let last = days_in_month (pos y) m in
    let (a, b, e, f) = tested m d last h in
    ((omega (arith, ints), omega (arith, ints)), (omega (arith, ints), omega (arith, ints)), (omega (arith, ints), in_order d last f))

pub day_there : (y m d : ℕ) → IsDate (pos y) (pos m) (pos d) → is_day y m d ≡ true
day_there y m d h =
    let last = days_in_month (pos y) m in
    there m d last (order_in 1 m h.1.0) (order_in m 12 h.1.1) (order_in 1 d h.2.0) (order_in d last h.2.1)

pub some_there : {X : Type 0} (b : Bool) (x : X) → b ≡ true → Some x ≡ cond b (Some x) None
some_there b x h = rw h

none_there : {X : Type 0} (b : Bool) (x : X) → (b ≡ true → ⊥) → None ≡ cond b (Some x) None
none_there true x h = absurd (h refl)
none_there false x h = refl

number_of : (y m d : ℕ) (r : Result Date Error) → y < 10000 → (IsOk r ↔ IsDate (pos y) (pos m) (pos d)) → IfOk r (IsYmd (pos y) (pos m) (pos d)) → option_map epoch_day (result_ok r) ≡ day_number y m d
number_of y m d (Ok date) l h k =
    let e : date.month ≡ m = same_pos _ _ k.1 in
    let f : date.day ≡ d = same_pos _ _ k.2 in
    let test = day_there y m d (h.0 refl) in
    let same : days_from_civil date.year date.month date.day ≡ days_from_civil (pos y) m d = ap (λ x. days_from_civil x date.month date.day) k.0 ∙ ap (λ x. days_from_civil (pos y) x date.day) e ∙ ap (λ x. days_from_civil (pos y) m x) f in
    ap Some same ∙ some_there (is_day y m d) (days_from_civil (pos y) m d) test
number_of y m d (Err e) l h k = none_there (is_day y m d) (days_from_civil (pos y) m d) (λ b. false≢true (h.1 (day_tested y m d b l)))

pub date_number : (y m d : ℕ) (r : Result Date Error) (o : Option Date) → y < 10000 → m < 100 → d < 100 → (IsOk r ↔ IsDate (to_z w16 y) (to_z w8 m) (to_z w8 d)) → IfOk r (IsYmd (to_z w16 y) (to_z w8 m) (to_z w8 d)) → o ≡ result_ok r → option_map epoch_day o ≡ day_number y m d
date_number y m d r o ly lm ld h k e =
    let ey : to_z w16 y ≡ pos y = omega (arith, ints) in
    let em : to_z w8 m ≡ pos m = omega (arith, ints) in
    let ed : to_z w8 d ≡ pos d = omega (arith, ints) in
    rw e (number_of y m d r ly (rw (ey, em, ed) at h) (rw (ey, em, ed) at k))

pub ruleset civil_parts = civil_nanos-parts
