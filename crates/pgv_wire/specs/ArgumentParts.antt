-- Frames that are read one after another (PostgreSQL: "Message Formats", Bind: each parameter value is a length of four
-- bytes, the highest first, and that many bytes; the length -1 is null). Frame after frame is found at the front
-- (`ReadAs`), and nothing is left (`AllRead`): a part for each argument, null where its image is null, and else what it
-- shows after its length (`parts_in`). Each argument is the frame of an image (`OfImages`), and of one only.
use Rattle.std.specs.Prelude.{◌≡◌, ℕ, List, [], ◌∷◌, length, take, drop, Some, None, Ok, ⊤}
use Rattle.pgv_types.specs.Ty.{Ty}
use Rattle.pgv_types.specs.declared.oid.Oid.{Oid}
use Rattle.pgv_buf.specs.Proper.{first_type, rest_of}
use Rattle.pgv_buf.specs.Tokens.{Cell, shown}
use Rattle.pgv_value.specs.FrameBinary.{Part, front}
use Rattle.pgv_codec.specs.Encoding.{Image, null_image, image_of, frame_of}
use Rattle.pgv_codec.specs.Writing.{written_part, image_holes}
use Rattle.pgv_wire.specs.Arguments.{Argument, Framed, framed, all_cells}

-- one frame after the other is found in front, with these parts, and then this is left
abbrev pub ReadAs : List ℕ → List Part → List ℕ → Type 0
ReadAs bs [] rest = bs ≡ rest
ReadAs bs (p ∷ ps) rest = (rest_after : List ℕ) × (front bs ≡ Some (p, rest_after)) × ReadAs rest_after ps rest

-- frames of these images
abbrev pub AreImages : List Image → List Framed → Type 0
AreImages [] [] = ⊤
AreImages [] (f ∷ fs) = ⊥
AreImages (i ∷ is) [] = ⊥
AreImages (i ∷ is) (f ∷ fs) = ((frame_of i).answer ≡ Ok f.1) × AreImages is fs

-- each argument is the frame of an image
abbrev pub OfImages : List Argument → Type 0
OfImages args = (is : List Image) × AreImages is (framed args)

-- the part of a frame: null, or what it shows after its length
abbrev pub part_in : Image → List Cell → Part
part_in null_image ts = None
part_in (image_of us) ts = Some (drop 4 (shown ts))

abbrev pub parts_in : List Image → List Argument → List Part
parts_in [] args = []
parts_in (i ∷ is) [] = []
parts_in (i ∷ is) (a ∷ args) = part_in i a.1 ∷ parts_in is args

-- the parts of all, each with its own parameter type and its share of the OIDs
abbrev pub written_parts : List Image → List Ty → List Oid → List Part
written_parts [] ps os = []
written_parts (i ∷ is) ps os = written_part i (Some (first_type ps)) (take (image_holes i) os) ∷ written_parts is (rest_of ps) (drop (image_holes i) os)

-- frames that are read one after another, a part for each and nothing after: null where the image is null, and
-- else what the argument shows after its length
abbrev pub AllRead : List Argument → Type 0
AllRead args = (is : List Image) × AreImages is (framed args) × ReadAs (shown (all_cells args)) (parts_in is args) [] × (length (parts_in is args) ≡ length args)
