-- What scalars are written as (PostgreSQL: "Data Types"; the binary forms of "Formats and Format Codes"), and under
-- which types texts are read.
use Rattle.std.specs.Prelude.{ℕ, ◌^◌, Bool, false, ◌||◌, nat_lt, ◌==◌, ℤ, codes, List, [], ◌∷◌, length, Option, Some, None, if◌then◌else◌}
use Rattle.std.specs.Int.{Width, cast_unsigned, to_be_bytes}
use mir.Val.{bits}
use Rattle.pgv_types.specs.Ty.{Ty, Kind, builtin, named, simple, domain, composite, array, pseudo, enumeration, range}
use Rattle.pgv_types.specs.Facts.{kind_at}
use Rattle.pgv_types.specs.Relations.{softly}
use Rattle.pgv_buf.specs.Tokens.{byte, bytes}
use Rattle.pgv_value.specs.IntBinary.{fits_signed}
use Rattle.pgv_codec.specs.Encoding.{Image, image_of}

-- ---- numbers, each of n bits; a number that has no room there has no image

-- in two's complement, the highest byte first
abbrev pub signed_image : Width → ℤ → Option Image
signed_image w v = if fits_signed w v then Some (image_of (bytes (to_be_bytes w (cast_unsigned w v)))) else None

abbrev pub unsigned_image : Width → ℕ → Option Image
unsigned_image w n = if nat_lt n (2 ^ bits w) then Some (image_of (bytes (to_be_bytes w n))) else None

abbrev pub bool_image : Bool → Option Image
bool_image b = Some (image_of (byte (if b then 1 else 0) ∷ []))

-- ---- texts and identifiers

-- a text's bytes
abbrev pub text_image : List ℕ → Option Image
text_image text = Some (image_of (bytes text))

-- an identifier's sixteen bytes
abbrev pub uuid_image : List ℕ → Option Image
uuid_image id = if length id == 16 then Some (image_of (bytes id)) else None

-- ---- under which types values are read

abbrev pub softly_one_of : List Ty → Ty → Bool
softly_one_of [] t = false
softly_one_of (u ∷ us) t = softly t u || softly_one_of us t

-- name, bpchar, varchar, unknown and citext
abbrev pub is_other_text : Ty → Bool
is_other_text t = softly_one_of (builtin 19 ∷ builtin 1042 ∷ builtin 1043 ∷ builtin 705 ∷ named (codes "citext") ∷ []) t

-- these and text
abbrev pub is_text : Ty → Bool
is_text t = softly t (builtin 25) || is_other_text t

abbrev pub is_text_elements : Option Kind → Bool
is_text_elements None = false
is_text_elements (Some simple) = false
is_text_elements (Some pseudo) = false
is_text_elements (Some (domain t)) = false
is_text_elements (Some (composite fs)) = false
is_text_elements (Some (array t)) = is_text t
is_text_elements (Some (enumeration ls)) = false
is_text_elements (Some (range t)) = false

-- an array of one of these
abbrev pub is_text_array : Ty → Bool
is_text_array t = is_text_elements (kind_at t)

-- void and record
abbrev pub is_void_or_record : Ty → Bool
is_void_or_record t = softly_one_of (builtin 2278 ∷ builtin 2249 ∷ []) t
