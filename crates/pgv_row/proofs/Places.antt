-- Places that are noted one after another are all within the bytes, which is a test.
use Rattle.std.proofs.Common.{◌≡◌, ℕ, nat_lt, not, ◌&&◌, Bool, true, false, List, [], ◌∷◌, ◌++◌, length, Option, Some, None, refl}
use Rattle.std.proofs.lemmas.Bool.{le-ltb, ltb-false}
use Rattle.pgv_row.specs.Places.{is_within, are_within, IsWithin, AreWithin}
use Rattle.pgv_row.specs.declared.place.Place.{Place}

pub one_within : (body : List ℕ) (places : List (Option Place)) (place : Option Place) → AreWithin body places → IsWithin body place → AreWithin body (places ++ place ∷ [])
one_within body [] place h w = (w, tt)
one_within body (p ∷ places) place h w = (h.0, one_within body places place h.1 w)

tested : (body : List ℕ) (place : Option Place) → IsWithin body place → is_within (length body) place ≡ true
tested body None w = refl
tested body (Some p) w = rw (le-ltb p.end p.start w.0, le-ltb (length body) p.end w.1) refl

pub all_tested : (body : List ℕ) (places : List (Option Place)) → AreWithin body places → are_within body places ≡ true
all_tested body [] h = refl
all_tested body (p ∷ places) h = rw (tested body p h.0) (all_tested body places h.1)

both_false : (a b : Bool) → (not a && not b) ≡ true → (a ≡ false) × (b ≡ false)
both_false false false e = (refl, refl)
both_false true b e = absurd cc
both_false false true e = absurd cc

both_true : (a b : Bool) → (a && b) ≡ true → (a ≡ true) × (b ≡ true)
both_true true true e = (refl, refl)
both_true false b e = absurd cc
both_true true false e = absurd cc

within : (body : List ℕ) (place : Option Place) → is_within (length body) place ≡ true → IsWithin body place
within body None e = tt
within body (Some p) e = let b = both_false (nat_lt p.end p.start) (nat_lt (length body) p.end) e in (ltb-false p.end p.start b.0, ltb-false (length body) p.end b.1)

pub all_within : (body : List ℕ) (places : List (Option Place)) → are_within body places ≡ true → AreWithin body places
all_within body [] e = tt
all_within body (p ∷ places) e = let b = both_true (is_within (length body) p) (are_within body places) e in (within body p b.0, all_within body places b.1)
