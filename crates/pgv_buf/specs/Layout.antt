-- How tokens are kept beside their bytes: the places and types of the holes, and the places of the slots and the slots.
use Rattle.std.specs.Prelude.{◌≡◌, ℕ, ◌+◌, ◌==◌, Bool, true, false, if◌then◌else◌, List, [], ◌∷◌, ◌++◌, length, take, drop}
use Rattle.std.proofs.Common.{suc, zero}
use Rattle.pgv_types.specs.Ty.{Ty}
use Rattle.pgv_buf.specs.Tokens.{token_width, tokens_hole_types, Token, byte, hole, slot, Cell, blank_cell, plain, shown}
use Rattle.pgv_buf.specs.Proper.{Proper, first_type, first_or_zero, rest_of}

-- holes and slots are pieces: of known places and widths, and written over
abbrev pub is_hole : Token → Bool
is_hole (byte x) = false
is_hole (hole t) = true
is_hole (slot d cs) = false

abbrev pub is_slot : Token → Bool
is_slot (byte x) = false
is_slot (hole t) = false
is_slot (slot d cs) = true

-- a number that counts, or none
abbrev pub if_so : Bool → ℕ → List ℕ
if_so true n = n ∷ []
if_so false n = []

-- the places of the pieces of one sort, where the first token is at i
abbrev pub places : (Token → Bool) → ℕ → List Token → List ℕ
places is i [] = []
places is i (t ∷ ts) = if_so (is t) i ++ places is (i + token_width t) ts

-- the last of them, or q where there is none
abbrev pub last_from : ℕ → List ℕ → ℕ
last_from q [] = q
last_from q (p ∷ ps) = last_from p ps

-- a slot as it is kept: its default and its cases
pub record Kept : Type 0 where
  pub standard : List ℕ
  pub cases : List (Ty × List ℕ)

abbrev pub slots_of : List Token → List Kept
slots_of [] = []
slots_of (byte x ∷ ts) = slots_of ts
slots_of (hole t ∷ ts) = slots_of ts
slots_of (slot d cs ∷ ts) = record { standard = d; cases = cs } ∷ slots_of ts

pub record Layout : Type 0 where
  pub holes : List ℕ
  pub types : List Ty
  pub slot_places : List ℕ
  pub slots : List Kept

abbrev pub layout_of : List Token → Layout
layout_of ts = record { holes = places is_hole 0 ts; types = tokens_hole_types ts; slot_places = places is_slot 0 ts; slots = slots_of ts }

-- ---- the cells that are kept so

abbrev pub first_at : ℕ → List ℕ → Bool
first_at i [] = false
first_at i (p ∷ ps) = p == i

abbrev pub first_slot : List Kept → Kept
first_slot [] = record { standard = []; cases = [] }
first_slot (k ∷ ks) = k

abbrev pub holds_none : List ℕ → Bool
holds_none [] = true
holds_none (x ∷ xs) = false

-- bytes, places and types of holes, places of slots, slots
abbrev pub parse_cells : ℕ → ℕ → List ℕ → List ℕ → List Ty → List ℕ → List Kept → List Cell
parse_cells zero i b ps ts qs ks = []
parse_cells (suc n) i b ps ts qs ks =
    if first_at i qs
    then (slot (first_slot ks).standard (first_slot ks).cases, take (length (first_slot ks).standard) b) ∷ parse_cells n (i + length (first_slot ks).standard) (drop (length (first_slot ks).standard) b) ps ts (rest_of qs) (rest_of ks)
    else if first_at i ps
    then (hole (first_type ts), take 4 b) ∷ parse_cells n (i + 4) (drop 4 b) (rest_of ps) (rest_of ts) qs ks
    else if holds_none b then [] else blank_cell (byte (first_or_zero b)) ∷ parse_cells n (i + 1) (rest_of b) ps ts qs ks

unfoldable pub cells_of : List ℕ → Layout → List Cell
cells_of b l = parse_cells (length b + length l.holes + length l.slot_places) 0 b l.holes l.types l.slot_places l.slots

pub record Represents (ts : List Cell) (b : List ℕ) (l : Layout) : Type 0 where
  pub bytes_are : b ≡ shown ts
  pub layout_is : l ≡ layout_of (plain ts)
  pub proper : Proper ts

abbrev pub Valid : List ℕ → Layout → Type 0
Valid b l = Represents (cells_of b l) b l
