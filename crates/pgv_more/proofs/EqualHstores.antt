-- Maps are equal where their pairs are.
use Rattle.std.proofs.Common.{◌≡◌, ℕ, List, [], ◌∷◌, map, Option, Some, None, refl, ap}
use Rattle.std.proofs.lemmas.Option.{same_Some}
use Rattle.std.proofs.lemmas.Slice.Eq.{bytes_eq-Decides}
use Rattle.std.specs.Prelude.{◌&&◌, option_map, string_bytes}
use Rattle.std.specs.Bool.{Decides}
use Rattle.std.specs.Cmp.Lexicographic.{pointwise}
use Rattle.std.specs.Option.{option_eq}
use Rattle.std.specs.String.{string_eq}
use Rattle.std.specs.declared.string.String.{String}
use Rattle.std.proofs.lemmas.Bool.{and_parts}
use Rattle.pgv_value.specs.FrameBinary.{Part}
use Rattle.pgv_more.specs.Hstore.{Pair, pair_of}
use Rattle.pgv_more.specs.HstoreLaws.{HstoresAreEqual}
use Rattle.std.specs.List.{AllZip}
use Rattle.std.specs.Iterator.{AlwaysYields}
use Rattle.std.specs.Map.Iter.{TakesFirst}
use Rattle.std.proofs.lemmas.Iterator.Consumers.{YieldsList-from_rest}

-- the first pair, and the others, and something where there are none
first_of : Pair → List Pair → Pair
first_of other [] = other
first_of other (p ∷ ps) = p

others_of : List Pair → List Pair
others_of [] = []
others_of (p ∷ ps) = ps

same_text : {Z : Type 0} (x y : String Z) → Decides (string_eq x y) (string_bytes x ≡ string_bytes y)
same_text x y = bytes_eq-Decides (string_bytes x) (string_bytes y)

same_value : {Z : Type 0} (x y : Option (String Z)) → Decides (option_eq string_eq x y) (option_map string_bytes x ≡ option_map string_bytes y)
same_value None None = (λ e. refl, λ e. refl)
same_value None (Some y) = (λ e. absurd (cc), λ e. absurd (cc))
same_value (Some x) None = (λ e. absurd (cc), λ e. absurd (cc))
same_value (Some x) (Some y) = (λ e. ap (λ (bytes : List ℕ). let o : Part = Some bytes in o) ((same_text x y).0 e), λ e. (same_text x y).1 (same_Some (string_bytes x) (string_bytes y) e))

same_pair : {Z : Type 0} (p q : String Z × Option (String Z)) → Decides (string_eq p.0 q.0 && option_eq string_eq p.1 q.1) (pair_of p ≡ pair_of q)
same_pair p q = (
  λ e. let b = and_parts (string_eq p.0 q.0) (option_eq string_eq p.1 q.1) e in
      rw ((same_text p.0 q.0).0 b.0, (same_value p.1 q.1).0 b.1) refl,
  λ e. rw ((same_text p.0 q.0).1 (ap (λ (r : Pair). r.0) e), (same_value p.1 q.1).1 (ap (λ (r : Pair). r.1) e)) refl,
)

pub equal_entries : {Z : Type 0} (es fs : List (String Z × Option (String Z))) →
    Decides (pointwise (λ p q. string_eq p.0 q.0 && option_eq string_eq p.1 q.1) es fs) (map pair_of es ≡ map pair_of fs)
unfolding first_of others_of
equal_entries [] [] = (λ e. refl, λ e. refl)
equal_entries [] (f ∷ fs) = (λ e. absurd (cc), λ e. absurd (cc))
equal_entries (e ∷ es) [] = (λ e. absurd (cc), λ e. absurd (cc))
equal_entries (e ∷ es) (f ∷ fs) = (
  λ t. let b = and_parts (string_eq e.0 f.0 && option_eq string_eq e.1 f.1) (pointwise (λ p q. string_eq p.0 q.0 && option_eq string_eq p.1 q.1) es fs) t in
      let same = (same_pair e f).0 b.0 in
      let more = (equal_entries es fs).0 b.1 in
      λ i. same i ∷ more i,
  λ s. rw ((same_pair e f).1 (ap (first_of (pair_of e)) s), (equal_entries es fs).1 (ap others_of s)) refl,
)

pub hstores_are_equal : HstoresAreEqual (λ a b. pointwise (λ p q. string_eq p.0 q.0 && option_eq string_eq p.1 q.1) a.0.entries b.0.entries)
unfolding HstoresAreEqual
hstores_are_equal a b = equal_entries a.0.entries b.0.entries

-- ---- a map whose texts are clones has the same pairs

pub same_pairs : {Z : Type 0} (R : String Z → String Z → Type 0) (S : Option (String Z) → Option (String Z) → Type 0) → ((a b : String Z) → R a b → string_bytes b ≡ string_bytes a) → ((a b : Option (String Z)) → S a b → option_map string_bytes b ≡ option_map string_bytes a) →
    (es fs : List (String Z × Option (String Z))) → AllZip (λ p q. R p.0 q.0 × S p.1 q.1) es fs → map pair_of fs ≡ map pair_of es
same_pairs R S keys values [] [] h = refl
same_pairs R S keys values [] (f ∷ fs) h = absurd h
same_pairs R S keys values (e ∷ es) [] h = absurd h
same_pairs R S keys values (e ∷ es) (f ∷ fs) h = rw (keys e.0 f.0 h.0.0, values e.1 f.1 h.0.1, same_pairs R S keys values es fs h.1) refl

-- a relation of values that holds of two nulls, or of two texts as of texts
pub same_values : {Z : Type 0} (S : Option (String Z) → Option (String Z) → Type 0) → ((b : String Z) → ¬ (S None (Some b))) → ((a : String Z) → ¬ (S (Some a) None)) →
    ((a b : String Z) → S (Some a) (Some b) → string_bytes b ≡ string_bytes a) → (a b : Option (String Z)) → S a b → option_map string_bytes b ≡ option_map string_bytes a
same_values S gained lost texts None None h = refl
same_values S gained lost texts None (Some b) h = absurd (gained b h)
same_values S gained lost texts (Some a) None h = absurd (lost a h)
same_values S gained lost texts (Some a) (Some b) h = ap (λ (bytes : List ℕ). Some bytes) (texts a b h)

-- what an iterator gives that is seen as what it has left
pub entries_given : {X : Type 0} (left entries : List X) → left ≡ entries → AlwaysYields (TakesFirst (λ pair. pair)) (λ pair. pair) left entries
entries_given left entries e = (YieldsList-from_rest entries e).runs
