-- The characters of labels are ASCII.
use Rattle.std.specs.Prelude.{◌≡◌, ℕ, nat_lt, true}
use Rattle.std.proofs.Common.{arith}
use Rattle.std.proofs.lemmas.Bool.Decides.{nat_tests}
use Rattle.pgv_ltree.specs.Labels.{is_label_char}

pub char_is_ascii : (c : ℕ) → is_label_char c ≡ true → nat_lt c 128 ≡ true
char_is_ascii c e = grind (arith, nat_tests, e)
