-- Filling: a byte shows itself, the i-th hole the i-th OID, and each slot what it has for its type, whatever they
-- showed.
use Rattle.std.specs.Prelude.{ℕ, List, [], ◌∷◌, ◌++◌, replicate}
use Rattle.pgv_types.specs.Ty.{Ty}
use Rattle.pgv_types.specs.declared.oid.Oid.{Oid}
use Rattle.pgv_buf.specs.Tokens.{Token, byte, hole, slot, Cell, blank_cell, be4, chosen}
use Rattle.pgv_buf.specs.Proper.{first_type, first_or_zero, rest_of}

-- a hole without an OID of its own shows zeros
abbrev pub first_number : List Oid → ℕ
first_number [] = 0
first_number (o ∷ os) = o.0

-- a type for each slot, an OID for each hole
abbrev pub filled_cells : List Ty → List Oid → List Token → List Cell
filled_cells ps os [] = []
filled_cells ps os (byte x ∷ ts) = blank_cell (byte x) ∷ filled_cells ps os ts
filled_cells ps os (hole t ∷ ts) = (hole t, be4 (first_number os)) ∷ filled_cells ps (rest_of os) ts
filled_cells ps os (slot d cs ∷ ts) = (slot d cs, chosen (first_type ps) d cs) ∷ filled_cells (rest_of ps) os ts

-- the type of each slot, from the types of the arguments and how many slots each has
abbrev pub slot_types : List Ty → List ℕ → List Ty
slot_types [] ns = []
slot_types (p ∷ ps) ns = replicate (first_or_zero ns) p ++ slot_types ps (rest_of ns)
