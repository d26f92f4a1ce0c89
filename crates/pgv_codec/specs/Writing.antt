-- What tokens and images are written as, for the type of a parameter and with the OIDs of their holes (PostgreSQL:
-- "Message Formats", Bind; "Extended Query"). `write`: a byte is itself. The i-th hole is the i-th OID as four bytes,
-- the highest first. A slot is its first case whose type is softly equal to the parameter's type, else its default;
-- without a parameter's type it is its default. What is written of a part (`written_part`) is its image's tokens.
use Rattle.std.specs.Prelude.{ℕ, List, [], ◌∷◌, ◌++◌, Option, Some, None}
use Rattle.pgv_types.specs.Ty.{Ty}
use Rattle.pgv_types.specs.declared.oid.Oid.{Oid}
use Rattle.pgv_buf.specs.Fill.{first_number}
use Rattle.pgv_buf.specs.Proper.{rest_of}
use Rattle.pgv_buf.specs.Tokens.{Token, byte, hole, slot, be4, chosen, tokens_holes}
use Rattle.pgv_value.specs.FrameBinary.{Part}
use Rattle.pgv_codec.specs.Encoding.{Image, null_image, image_of}

-- what a slot shows for a parameter type, and without one: its default
abbrev pub chosen_for : Option Ty → List ℕ → List (Ty × List ℕ) → List ℕ
chosen_for None d cs = d
chosen_for (Some p) d cs = chosen p d cs

-- tokens, written for a parameter type, or for none, and with the OIDs of their holes
abbrev pub write : Option Ty → List Oid → List Token → List ℕ
write p os [] = []
write p os (byte x ∷ ts) = x ∷ write p os ts
write p os (hole t ∷ ts) = be4 (first_number os) ++ write p (rest_of os) ts
write p os (slot d cs ∷ ts) = chosen_for p d cs ++ write p os ts

-- the part that an image is written as, for a parameter type, or for none, and with the OIDs of its holes
abbrev pub written_part : Image → Option Ty → List Oid → Part
written_part null_image p os = None
written_part (image_of ts) p os = Some (write p os ts)

-- how many holes an image has
abbrev pub image_holes : Image → ℕ
image_holes null_image = 0
image_holes (image_of ts) = tokens_holes ts
