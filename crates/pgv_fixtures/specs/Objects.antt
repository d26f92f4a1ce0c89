-- Empty objects of json and jsonb (PostgreSQL: "JSON Types", 8.14): a version, or a space, and two braces.
use Rattle.std.specs.Prelude.{◌≡◌, ℕ, ◌==◌, Bool, true, false, if◌then◌else◌, codes, List, [], ◌∷◌, ◌++◌, length, get_or, Option, Some, None, Ok, Err, ⊤, refl}
use Rattle.std.proofs.lemmas.Option.{same_Some}
use Rattle.pgv.specs.Words.{Ty, builtin, softly, left_brace, right_brace, Token, byte, slot, Part, Given, Parsed, Binary, UnexpectedNull, Syntax, ReadsBack, reading_of, without_memory, always, image_of, plainly, writes, written_part}

-- a byte of any value, which is the slot's, and the braces; other bytes are C29
abbrev pub braces : List ℕ → Parsed ⊤
braces bytes =
    if length bytes == 3 then (if get_or bytes 1 0 == left_brace then (if get_or bytes 2 0 == right_brace then Ok tt else Err Syntax) else Err Syntax) else Err Syntax

-- null is C13
abbrev pub object_part : Part → Parsed ⊤
object_part None = Err UnexpectedNull
object_part (Some bytes) = braces bytes

abbrev pub parse_object : Given → Parsed ⊤
parse_object v = object_part v.bytes

abbrev pub object_image : List Token
object_image = slot (codes " ") ((builtin 3802, 1 ∷ []) ∷ []) ∷ byte left_brace ∷ byte right_brace ∷ []

-- whichever case the slot shows
pub object_back : {A : Type 0} → ReadsBack {A = A} (λ _. plainly (writes (Some (image_of object_image)))) (reading_of (without_memory parse_object)) (λ _. tt) always
object_back v i t p os e whole small fit = rw (← same_Some _ i e) (by_parameter p)
  where
    by_case : (b : Bool) → reading_of (without_memory parse_object) t Binary (Some ((if b then 1 ∷ [] else codes " ") ++ codes "{}")) ≡ Some tt
    by_case true = refl
    by_case false = refl

    by_parameter : (p : Option Ty) → reading_of (without_memory parse_object) t Binary (written_part (image_of object_image) p os) ≡ Some tt
    by_parameter None = refl
    by_parameter (Some param) = by_case (softly (builtin 3802) param)
