-- The cells in front of a mark, and those after it.
use Rattle.std.specs.Prelude.{◌≡◌, ℕ, ◌+◌, ◌-◌, ◌<◌, ◌==◌, false, if◌then◌else◌, List, [], ◌∷◌, ◌++◌, refl}
use Rattle.std.proofs.Common.{arith, ap}
use Rattle.std.proofs.lemmas.Bool.Decides.{nat_tests}
use Rattle.pgv_buf.specs.Tokens.{Token, byte, hole, slot, token_width, tokens_holes, tokens_slots, Cell, plain, width, hole_count, slot_count}

-- the cells at the front that have w bytes, h holes and s slots, and those after them
abbrev pub front_of : ℕ → ℕ → ℕ → List Cell → List Cell
front_of w h s [] = []
front_of w h s (t ∷ ts) = if w + h + s == 0 then [] else t ∷ front_of (w - width (t ∷ [])) (h - hole_count (t ∷ [])) (s - slot_count (t ∷ [])) ts

abbrev pub cells_after : ℕ → ℕ → ℕ → List Cell → List Cell
cells_after w h s [] = []
cells_after w h s (t ∷ ts) = if w + h + s == 0 then t ∷ ts else cells_after (w - width (t ∷ [])) (h - hole_count (t ∷ [])) (s - slot_count (t ∷ [])) ts

pub nothing_in_front : (ts : List Cell) → front_of 0 0 0 ts ≡ []
nothing_in_front [] = refl
nothing_in_front (t ∷ ts) = refl

pub all_after : (ts : List Cell) → cells_after 0 0 0 ts ≡ ts
all_after [] = refl
all_after (t ∷ ts) = refl

not_nothing : (w h s : ℕ) → 0 < w + h + s → (w + h + s == 0) ≡ false
not_nothing w h s l = grind (arith, nat_tests)

-- a token more is a byte, a hole or a slot more
record IsMore (t : Token) (ts : List Token) : Type 0 where
  holes : tokens_holes (t ∷ ts) ≡ tokens_holes (t ∷ []) + tokens_holes ts
  slots : tokens_slots (t ∷ ts) ≡ tokens_slots (t ∷ []) + tokens_slots ts
  some : 0 < token_width t + tokens_holes (t ∷ []) + tokens_slots (t ∷ [])

is_more : (t : Token) (ts : List Token) → IsMore t ts
is_more (byte x) ts = record { holes = omega arith; slots = omega arith; some = omega arith }
is_more (hole t) ts = record { holes = omega arith; slots = omega arith; some = omega arith }
is_more (slot d cs) ts = record { holes = omega arith; slots = omega arith; some = omega arith }

pub front_is : (a c : List Cell) (w h s : ℕ) → w ≡ width a → h ≡ hole_count a → s ≡ slot_count a → front_of w h s (a ++ c) ≡ a
front_is [] c w h s e f g = rw (e, f, g) (nothing_in_front c)
front_is (t ∷ a) c w h s e f g =
    let m = is_more t.0 (plain a) in
    rw (not_nothing w h s (omega (arith, m.holes, m.slots, m.some)))
    (ap (λ r. t ∷ r) (front_is a c (w - width (t ∷ [])) (h - hole_count (t ∷ [])) (s - slot_count (t ∷ [])) (omega arith) (omega (arith, m.holes)) (omega (arith, m.slots))))

pub rest_after_is : (a c : List Cell) (w h s : ℕ) → w ≡ width a → h ≡ hole_count a → s ≡ slot_count a → cells_after w h s (a ++ c) ≡ c
rest_after_is [] c w h s e f g = rw (e, f, g) (all_after c)
rest_after_is (t ∷ a) c w h s e f g =
    let m = is_more t.0 (plain a) in
    rw (not_nothing w h s (omega (arith, m.holes, m.slots, m.some)))
    (rest_after_is a c (w - width (t ∷ [])) (h - hole_count (t ∷ [])) (s - slot_count (t ∷ [])) (omega arith) (omega (arith, m.holes)) (omega (arith, m.slots)))
