-- Where the modifiers of a variant begin.
use Rattle.std.proofs.Common.{◌≡◌, ℕ, ◌<◌, true, List, get_or, arith, Bool, take, drop, refl, false, length, Some, None}
use Rattle.std.specs.Prelude.{not, Ok, cond, nat_lt}
use Rattle.std.specs.Str.{IsCharBoundary}
use Rattle.std.proofs.lemmas.Bool.Decides.{nat_tests}
use Rattle.std.proofs.lemmas.List.Sums.{passes_at_first, prefix_len-le-length}
use Rattle.pgv_ltree.specs.QueryRead.{label_length, variant_read}
use Rattle.pgv_ltree.specs.QueryText.{is_mark, has_mark}
use Rattle.std.specs.List.{list_all, position, position_or_len}
use Rattle.pgv_ltree.specs.Labels.{is_label, label_read}
use Rattle.pgv_ltree.proofs.LawsOfTrees.{label_is}
use Rattle.std.proofs.lemmas.Bool.{ltb-false}
use Rattle.std.specs.Option.{unwrap_or}

small : (c : ℕ) → is_mark c ≡ true → c < 128
small c e = grind (arith, nat_tests, e)

-- a text may be cut there
pub boundary : (text : List ℕ) → IsCharBoundary text (label_length text)
boundary text = (
  prefix_len-le-length (λ c. not (is_mark c)) text,
  λ l high. let s : get_or text (label_length text) 0 < 128 = small _ (passes_at_first is_mark text 0 l) in absurd (omega (arith, s, high)),
)

-- ---- the variant of a text that was split

pub variant_there : (text front after label : List ℕ) (any_end in_case sublexeme : Bool) → front ≡ take (label_length text) text → after ≡ drop (label_length text) text → list_all is_mark after ≡ true → label_read front ≡ Ok label →
    any_end ≡ has_mark 42 after → in_case ≡ has_mark 64 after → sublexeme ≡ has_mark 37 after → variant_read text ≡ Ok (record { label = label; any_end = any_end; in_case = in_case; sublexeme = sublexeme })
variant_there text front after label any_end in_case sublexeme f a all l x y z =
    let is = label_is (is_label front) front label l in
    rw (← f, ← a, all, is.0, is.1, x, y, z) refl

-- the first place, or else the length
pub or_length : (p : ℕ → Bool) (xs : List ℕ) → unwrap_or (position p xs) (length xs) ≡ position_or_len p xs
or_length p xs = by (nat_lt (position_or_len p xs) (length xs)) refl
  where
    by : (b : Bool) → nat_lt (position_or_len p xs) (length xs) ≡ b → unwrap_or (cond b (Some (position_or_len p xs)) None) (length xs) ≡ position_or_len p xs
    by true e = refl
    by false e = omega (arith, ltb-false (position_or_len p xs) (length xs) e, prefix_len-le-length (λ x. not (p x)) xs)
