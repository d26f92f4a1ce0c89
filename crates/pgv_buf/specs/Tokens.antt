-- Tokens, which values are written as, and cells, which a buffer is: tokens, each with the bytes that it shows. A token
-- is a byte, a hole that names a type, or a slot: default bytes, and cases, each a type and as many bytes. The width of
-- a byte is 1, of a hole 4, of a slot the length of its default. A cell is a token with the bytes that a buffer shows
-- for it; `blank` shows zeros and defaults.
use Rattle.std.specs.Prelude.{if◌then◌else◌, ◌≡◌, ℕ, ◌+◌, List, [], ◌∷◌, length, map, flat_map, ◌⊎◌, refl}
use Rattle.std.specs.Int.{to_be_bytes, w32}
use Rattle.std.proofs.Common.{inl, inr}
use Rattle.std.specs.Coded.{Coded, code_by, coded×, coded⊎, coded_ℕ, coded_list}
use Rattle.pgv_types.specs.Ty.{Ty, ty_code}
use Rattle.pgv_types.specs.Relations.{softly}

pub data Token : Type 0 where
  byte : ℕ → Token
  hole : Ty → Token
  slot : List ℕ → List (Ty × List ℕ) → Token

-- plain bytes, as tokens
abbrev pub bytes : List ℕ → List Token
bytes = map byte

-- the width of tokens, and how many holes are among them
abbrev pub token_width : Token → ℕ
token_width (byte x) = 1
token_width (hole t) = 4
token_width (slot d cs) = length d

abbrev pub tokens_width : List Token → ℕ
tokens_width [] = 0
tokens_width (t ∷ ts) = token_width t + tokens_width ts

abbrev pub tokens_holes : List Token → ℕ
tokens_holes [] = 0
tokens_holes (byte x ∷ ts) = tokens_holes ts
tokens_holes (hole t ∷ ts) = 1 + tokens_holes ts
tokens_holes (slot d cs ∷ ts) = tokens_holes ts

-- the types that holes name, in order
abbrev pub tokens_hole_types : List Token → List Ty
tokens_hole_types [] = []
tokens_hole_types (byte x ∷ ts) = tokens_hole_types ts
tokens_hole_types (hole t ∷ ts) = t ∷ tokens_hole_types ts
tokens_hole_types (slot d cs ∷ ts) = tokens_hole_types ts

-- how many slots are among them
abbrev pub tokens_slots : List Token → ℕ
tokens_slots [] = 0
tokens_slots (byte x ∷ ts) = tokens_slots ts
tokens_slots (hole t ∷ ts) = tokens_slots ts
tokens_slots (slot d cs ∷ ts) = 1 + tokens_slots ts

-- ---- cells

-- a token, and the bytes that a buffer shows for it
abbrev pub Cell : Type 0
Cell = Token × List ℕ

-- a token as it is first written: a byte shows itself, a hole four zeros, a slot its default
abbrev pub first_shown : Token → List ℕ
first_shown (byte x) = x ∷ []
first_shown (hole t) = 0 ∷ 0 ∷ 0 ∷ 0 ∷ []
first_shown (slot d cs) = d

abbrev pub blank_cell : Token → Cell
blank_cell t = (t, first_shown t)

abbrev pub blank : List Token → List Cell
blank = map blank_cell

-- cells without what they show
abbrev pub plain : List Cell → List Token
plain = map (λ c. c.0)

-- ---- how the logic stores a cell

abbrev pub Parts : Type 0
Parts = ℕ ⊎ (Ty ⊎ (List ℕ × List (Ty × List ℕ)))

abbrev pub to_parts : Token → Parts
to_parts (byte x) = inl x
to_parts (hole t) = inr (inl t)
to_parts (slot d cs) = inr (inr (d, cs))

abbrev pub from_parts : Parts → Token
from_parts (inl x) = byte x
from_parts (inr (inl t)) = hole t
from_parts (inr (inr p)) = slot p.0 p.1

pub from_parts-to_parts : (t : Token) → from_parts (to_parts t) ≡ t
from_parts-to_parts (byte x) = refl
from_parts-to_parts (hole t) = refl
from_parts-to_parts (slot d cs) = refl

abbrev pub token_code : Coded Token
token_code = code_by Parts (coded⊎ coded_ℕ (coded⊎ ty_code (coded× (coded_list coded_ℕ) (coded_list (coded× ty_code (coded_list coded_ℕ)))))) to_parts from_parts from_parts-to_parts

abbrev pub cells_code : Coded (List Cell)
cells_code = coded_list (coded× token_code (coded_list coded_ℕ))

-- ---- words

-- the bytes that cells show, and how many they are
abbrev pub shown : List Cell → List ℕ
shown = flat_map (λ c. c.1)

abbrev pub width : List Cell → ℕ
width cs = tokens_width (plain cs)

-- plain bytes, as cells
abbrev pub fixed_bytes : List ℕ → List Cell
fixed_bytes xs = blank (bytes xs)

-- a number as four bytes, the highest first
abbrev pub be4 : ℕ → List ℕ
be4 n = to_be_bytes w32 n

-- the types of the holes, in order
abbrev pub hole_types_of : List Cell → List Ty
hole_types_of cs = tokens_hole_types (plain cs)

abbrev pub hole_count : List Cell → ℕ
hole_count cs = tokens_holes (plain cs)

abbrev pub slot_count : List Cell → ℕ
slot_count cs = tokens_slots (plain cs)

-- each case has as many bytes as the default
abbrev pub CasesFit : ℕ → List (Ty × List ℕ) → Type 0
CasesFit n [] = Unit {0}
CasesFit n (c ∷ cs) = (length c.1 ≡ n) × CasesFit n cs

-- what a slot shows for a parameter type: its first case that is softly equal, else the default
abbrev pub chosen : Ty → List ℕ → List (Ty × List ℕ) → List ℕ
chosen p d [] = d
chosen p d (c ∷ cs) = if softly c.0 p then c.1 else chosen p d cs
