-- Pairs and maps that are written part after part.
use Rattle.std.proofs.Common.{◌≡◌, ℕ, suc, List, [], ◌∷◌, ◌++◌, length, map, Option, Some, None, Result, Ok, Err, true, refl, sym, ap, ◌∙◌, append_assoc, subst, inl, inr}
use Rattle.std.proofs.lemmas.List.{append-nil}
use Rattle.std.specs.Prelude.{string_bytes}
use Rattle.std.specs.FinMap.{is_sorted}
use Rattle.std.specs.FinMap.Entries.{below_all}
use Rattle.std.specs.List.{AllByRecursion}
use Rattle.std.specs.List.Sorted.{IsStrictlySortedBy}
use Rattle.std.specs.String.{string_cmp}
use Rattle.std.specs.declared.cmp.Ordering.TheVariants.{Less}
use Rattle.std.specs.declared.string.String.{String}
use Rattle.pgv_buf.specs.Tokens.{Token, Cell, blank, bytes}
use Rattle.pgv_value.specs.Outcome.{Outcome, Fails, after, allocates, done, in_place, stated, ◌>>=◌, ◌>>◌}
use Rattle.pgv_value.specs.declared.error.CodecError.{CodecError}
use Rattle.pgv_value.specs.declared.error.CodecError.TheVariants.{Memory}
use Rattle.pgv_codec.specs.Appending.{Appended, Encoded}
use Rattle.pgv_codec.specs.Encoding.{Image, image_of}
use Rattle.pgv_codec.specs.declared.buffer.IsNull.TheVariants.{No}
use Rattle.pgv_codec.proofs.StepOutcomes.{fails_here, fails_then}
use Rattle.pgv_codec.proofs.Lists.{both}
use Rattle.pgv_more.specs.Hstore.{Pair, pair_of, order, in_order, size_form, pair_written, pairs_written, hstore_image}

-- ---- pairs of a map, one after another

-- these tokens are written, and what is written of the pairs that are left comes after them
pub record Before (all left : List Pair) (ts : List Token) : Type 0 where
  pub whole : (us : List Token) → (pairs_written left).answer ≡ Ok us → (pairs_written all).answer ≡ Ok (ts ++ us)
  pub fault : (why : Option CodecError) → (pairs_written left).answer ≡ Err why → (pairs_written all).answer ≡ Err why

pub none_before : (all : List Pair) → Before all all []
none_before all = record { whole = λ us e. e; fault = λ why e. e }

-- one more pair
pub more_before : (all left more : List Pair) (p : Pair) (ts f : List Token) → left ≡ p ∷ more → (pair_written p).answer ≡ Ok f → Before all left ts → Before all more (ts ++ f)
unfolding pairs_written
more_before all left more p ts f is written before = record {
  whole = λ us e. before.whole (f ++ us) (rw (is, written, e) refl) ∙ ap (λ (r : List Token). let o : Result (List Token) (Option CodecError) = Ok r in o) (sym (append_assoc ts f us));
  fault = λ why e. before.fault why (rw (is, written, e) refl);
}

pub all_before : (all left : List Pair) (ts : List Token) → left ≡ [] → Before all left ts → (pairs_written all).answer ≡ Ok ts
unfolding pairs_written
all_before all left ts is before = before.whole [] (rw is refl) ∙ ap (λ (r : List Token). let o : Result (List Token) (Option CodecError) = Ok r in o) (append-nil ts)

fault_here : (all left more : List Pair) (p : Pair) (ts : List Token) (why : Option CodecError) → left ≡ p ∷ more → (pair_written p).answer ≡ Err why → Before all left ts → (pairs_written all).answer ≡ Err why
unfolding pairs_written
fault_here all left more p ts why is h before = before.fault why (rw (is, h) refl)

-- a pair that isn't written refuses them all
pub fails_before : (all left more : List Pair) (p : Pair) (ts : List Token) (e : CodecError) → left ≡ p ∷ more → Fails e (pair_written p) → Before all left ts → Fails e (after true (pairs_written all))
fails_before all left more p ts e is (inl h) before = inl (fault_here all left more p ts (Some e) is h before)
fails_before all left more p ts e is (inr (inl h)) before = inr (inl (fault_here all left more p ts None is h.0 before, h.1))
fails_before all left more p ts e is (inr (inr h)) before = inr (inr (h.0, refl))

-- ---- a whole map

below_pairs : {Z : Type 0} (k : String Z) (es : List (String Z × Option (String Z))) → AllByRecursion (λ y. string_cmp k y ≡ Less) (map (λ e. e.0) es) → below_all order (string_bytes k) (map pair_of es) ≡ true
below_pairs k [] h = refl
below_pairs k (e ∷ es) h = rw (h.0, below_pairs k es h.1) refl

sorted_pairs : {Z : Type 0} (es : List (String Z × Option (String Z))) → IsStrictlySortedBy string_cmp (map (λ e. e.0) es) → is_sorted order (map pair_of es) ≡ true
unfolding IsStrictlySortedBy
sorted_pairs [] h = refl
sorted_pairs (e ∷ es) h = rw (below_pairs e.0 es h.0, sorted_pairs es h.1) refl

same_length : {Z : Type 0} (es : List (String Z × Option (String Z))) → length (map pair_of es) ≡ length es
same_length [] = refl
same_length (e ∷ es) = ap suc (same_length es)

-- ---- its encoder

module _ {Z : Type 0} (es : List (String Z × Option (String Z))) where
  -- what comes after the number of pairs
  abbrev pub pairs_after : List ℕ → Outcome Image
  pairs_after number = allocates true >> (pairs_written (map pair_of es) >>= λ all. in_order (map pair_of es) >> done (image_of (bytes number ++ all)))

  image_by : (n : ℕ) → n ≡ length es → in_place (size_form n) >>= pairs_after ≡ hstore_image (map pair_of es)
  unfolding hstore_image
  image_by n e = rw (e, same_length es) refl

  pub number_fails : (n : ℕ) (e : CodecError) → n ≡ length es → size_form n ≡ Err e → Fails e (hstore_image (map pair_of es))
  number_fails n e count is = subst (Fails e) (image_by n count) (fails_here (in_place (size_form n)) pairs_after e (inl (ap stated is)))

  pub memory_fails : (n : ℕ) (number : List ℕ) (e : CodecError) → n ≡ length es → size_form n ≡ Ok number → e ≡ Memory → Fails e (hstore_image (map pair_of es))
  memory_fails n number e count is memory = subst (Fails e) (image_by n count) (fails_then (in_place (size_form n)) pairs_after number e (ap stated is) (inr (inr (memory, refl))))

  part_fails : {A B : Type 0} (o : Outcome A) (next : A → Outcome B) (e : CodecError) → Fails e (after true o) → Fails e (allocates true >> (o >>= next))
  part_fails o next e (inl h) = inl (rw h refl)
  part_fails o next e (inr (inl h)) = inr (inl (rw h.0 refl, h.1))
  part_fails o next e (inr (inr h)) = inr (inr (h.0, refl))

  pub pairs_fail : (n : ℕ) (number : List ℕ) (e : CodecError) → n ≡ length es → size_form n ≡ Ok number → Fails e (after true (pairs_written (map pair_of es))) → Fails e (hstore_image (map pair_of es))
  pairs_fail n number e count is fault =
      subst (Fails e) (image_by n count) (fails_then (in_place (size_form n)) pairs_after number e (ap stated is)
      (part_fails (pairs_written (map pair_of es)) (λ all. in_order (map pair_of es) >> done (image_of (bytes number ++ all))) e fault))

  -- the number of pairs, and the pairs
  pub map_appended : (n : ℕ) (number : List ℕ) (start mid now : List Cell) → n ≡ length es → size_form n ≡ Ok number → IsStrictlySortedBy string_cmp (map (λ e. e.0) es) →
      mid ≡ start ++ blank (bytes number) → Appended (after true (pairs_written (map pair_of es))) mid now → Encoded No (hstore_image (map pair_of es)) start now
  map_appended n number start mid now count is sorted first all = (
    bytes number ++ all.0,
    ap (λ (o : Outcome Image). o.answer) (sym (image_by n count)) ∙ rw (is, all.1, sorted_pairs es sorted) refl,
    both start mid now (bytes number) all.0 first all.2,
  )
