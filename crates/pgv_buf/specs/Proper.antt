-- Which cells a buffer has, and the laws of joining cells.
use Rattle.std.specs.Prelude.{◌≡◌, ℕ, ◌+◌, List, [], ◌∷◌, ◌++◌, length, refl}
use Rattle.std.proofs.Common.{arith, ap, length-append}
use Rattle.std.proofs.lemmas.Grind.{flat_map-append}
use Rattle.pgv_types.specs.Ty.{Ty, by_oid}
use Rattle.pgv_buf.specs.Tokens.{Token, byte, hole, slot, token_width, tokens_holes, tokens_hole_types, CasesFit, Cell, plain, shown, width, hole_types_of, hole_count}

-- a byte shows itself, a hole four bytes, a slot as many as its default, and so do its cases
abbrev pub Shows : Token → List ℕ → Type 0
Shows (byte x) s = s ≡ x ∷ []
Shows (hole t) s = length s ≡ 4
Shows (slot d cs) s = (length s ≡ length d) × CasesFit (length d) cs

abbrev pub Proper : List Cell → Type 0
Proper [] = Unit {0}
Proper (c ∷ ts) = Shows c.0 c.1 × Proper ts

abbrev pub first_type : List Ty → Ty
first_type [] = by_oid 0
first_type (t ∷ ts) = t

abbrev pub first_or_zero : List ℕ → ℕ
first_or_zero [] = 0
first_or_zero (n ∷ ns) = n

abbrev pub rest_of : {A : Type 0} → List A → List A
rest_of [] = []
rest_of (x ∷ xs) = xs

pub shown-append : (a c : List Cell) → shown (a ++ c) ≡ shown a ++ shown c
shown-append = flat_map-append (λ (c : Cell). c.1)

pub width-append : (a c : List Cell) → width (a ++ c) ≡ width a + width c
width-append [] c = omega arith
width-append (t ∷ a) c = omega (arith, width-append a c)

pub Proper-append : (a c : List Cell) → Proper a → Proper c → Proper (a ++ c)
Proper-append [] c p q = q
Proper-append (t ∷ a) c p q = (p.0, Proper-append a c p.1 q)

pub Proper-front : (a c : List Cell) → Proper (a ++ c) → Proper a
Proper-front [] c p = tt
Proper-front (t ∷ a) c p = (p.0, Proper-front a c p.1)

pub Proper-back : (a c : List Cell) → Proper (a ++ c) → Proper c
Proper-back [] c p = p
Proper-back (t ∷ a) c p = Proper-back a c p.1

pub length_of_shown : (t : Token) (s : List ℕ) → Shows t s → length s ≡ token_width t
length_of_shown (byte x) s h = ap length h
length_of_shown (hole t) s h = h
length_of_shown (slot d cs) s h = h.0

pub length_shown : (ts : List Cell) → Proper ts → length (shown ts) ≡ width ts
length_shown [] p = refl
length_shown (t ∷ ts) p = omega (arith, length-append t.1 (shown ts), length_shown ts p.1, length_of_shown t.0 t.1 p.0)

pub length-hole_types : (ts : List Token) → length (tokens_hole_types ts) ≡ tokens_holes ts
length-hole_types [] = refl
length-hole_types (byte x ∷ ts) = length-hole_types ts
length-hole_types (hole t ∷ ts) = omega (arith, length-hole_types ts)
length-hole_types (slot d cs ∷ ts) = length-hole_types ts

pub length-hole_types_of : (ts : List Cell) → length (hole_types_of ts) ≡ hole_count ts
length-hole_types_of ts = length-hole_types (plain ts)
