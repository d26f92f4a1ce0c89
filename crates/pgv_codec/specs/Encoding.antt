-- What an encoder says of a value (`Encoding`): a number of bytes that it may need, the type that it produces where
-- that isn't its Rust type's own, and its image, or why it has none (PostgreSQL: "Message Formats", 55.7, Bind;
-- "Arrays", "Composite Types"). An image is null, or a list of tokens. Grammars are written with the steps of an
-- `Outcome`: the first step that fails says why, and memory may have been asked for where one that was taken may ask
-- for it. The frame of a value whose size hint is above 2147483647 is refused with C2 before anything is written, and
-- so is an image of more bytes than that. Null's frame is `ffffffff`; every other is the width in four bytes, then the
-- image. `typed t` is the four bytes of the OID of t, or a hole where it has none. An array is 1, 0, `typed` of what
-- the first element produces or else of the elements' type, the number of elements, 1, and their frames. A record is
-- the number of its fields, and for each its type and its frame.
use Rattle.std.specs.Prelude.{ℕ, ◌+◌, List, [], ◌∷◌, ◌++◌, length, Bool, true, false, Option, Some, None, ok_or, nat_lt, ◌==◌, if◌then◌else◌}
use Rattle.pgv_types.specs.Ty.{Ty}
use Rattle.pgv_types.specs.Facts.{is_custom, oid_of}
use Rattle.pgv_buf.specs.Tokens.{Token, hole, bytes, be4, tokens_width}
use Rattle.pgv_value.specs.FrameBinary.{max_length, null_length}
use Rattle.pgv_value.specs.Outcome.{Outcome, done, fails_if, unstated, allocates, ◌>>=◌, ◌>>◌}
use Rattle.pgv_value.specs.declared.error.CodecError.TheVariants.{ValueSize, ArrayLength, FieldCount}

pub data Image : Type 0 where
  null_image : Image
  image_of : List Token → Image

pub record Encoding : Type 0 where
  pub size_hint : ℕ
  pub produced : Option Ty
  pub image : Outcome Image

abbrev pub given_or : Option Ty → Ty → Ty
given_or (Some t) u = t
given_or None u = u

-- the type of a value: what it produces, or else that of its Rust type
abbrev pub value_type : Ty → Encoding → Ty
value_type info e = given_or e.produced info

-- whether a type is copied that asks for memory: where there is one and it is a custom one
abbrev pub is_copied : Option Ty → Bool
is_copied None = false
is_copied (Some t) = is_custom t

-- ---- what values say

-- an image alone
abbrev pub plainly : Outcome Image → Encoding
plainly image = record { size_hint = 0; produced = None; image = image }

-- an image, and a number of bytes that it may need
abbrev pub with_hint : ℕ → Outcome Image → Encoding
with_hint hint image = record { size_hint = hint; produced = None; image = image }

-- an image, where there is one; with what a value without one is refused is left open
abbrev pub writes : Option Image → Outcome Image
writes image = record { answer = ok_or image None; may_alloc = true }

-- what is only read has no image
abbrev pub unwritten : Encoding
unwritten = plainly unstated

-- ---- frames

abbrev pub frame_of : Image → Outcome (List Token)
frame_of null_image = done (bytes (be4 null_length))
frame_of (image_of ts) = do
  fails_if (nat_lt max_length (tokens_width ts)) (ValueSize (tokens_width ts))
  done (bytes (be4 (tokens_width ts)) ++ ts)

unfoldable pub frame : Encoding → Outcome (List Token)
frame e = do
  fails_if (nat_lt max_length e.size_hint) (ValueSize e.size_hint)
  allocates true
  image ← e.image
  frame_of image

-- a type, as an element's or a field's is written: its OID, which is a number of four bytes, or a hole
abbrev pub typed_oid : Ty → Option ℕ → Outcome (List Token)
typed_oid t None = done (hole t ∷ [])
typed_oid t (Some oid) = if nat_lt oid 4294967296 then done (bytes (be4 oid)) else unstated

abbrev pub typed : Ty → Outcome (List Token)
typed t = typed_oid t (oid_of t)

-- ---- lists

-- the frames of values, one after another
unfoldable pub frames : List Encoding → Outcome (List Token)
frames [] = done []
frames (e ∷ es) = do
  first ← frame e
  others ← frames es
  done (first ++ others)

-- the type of the elements: that of the first, or else that of their Rust type
abbrev pub written_element : Ty → List Encoding → Ty
written_element info [] = info
written_element info (e ∷ es) = value_type info e

-- one dimension, no flags, the type of the elements, how many there are, and the lower bound
abbrev pub header : Ty → ℕ → Outcome (List Token)
header t n = do
  oid ← typed t
  done ((bytes (be4 1) ++ bytes (be4 0)) ++ (oid ++ (bytes (be4 n) ++ bytes (be4 1))))

unfoldable pub array_image : Ty → List Encoding → Outcome Image
array_image info es = do
  fails_if (nat_lt max_length (length es)) (ArrayLength (length es))
  allocates true
  head ← header (written_element info es) (length es)
  parts ← frames es
  done (image_of (head ++ parts))

-- an array of n elements; a list of another length isn't one
abbrev pub sized_image : ℕ → Ty → List Encoding → Outcome Image
sized_image n info es = if length es == n then array_image info es else unstated

-- ---- what may be null

abbrev pub option_encoding : {X : Type 0} → Ty → (X → Encoding) → Option X → Encoding
option_encoding info encoding None = record { size_hint = 0; produced = Some info; image = done null_image }
option_encoding info encoding (Some x) = encoding x

-- ---- records

-- a field: its type, and its frame
unfoldable pub field : Ty → Encoding → Outcome (List Token)
field info e = do
  allocates true
  oid ← typed (value_type info e)
  part ← frame e
  done (oid ++ part)

-- the most fields that a record may have
abbrev pub most_fields : ℕ
most_fields = 4294967295

-- a field after n others
abbrev pub counted_field : ℕ → Outcome (List Token) → Outcome (List Token)
counted_field n f = fails_if (n == most_fields) FieldCount >> f

-- fields one after another, after n others
abbrev pub fields_from : ℕ → List (Outcome (List Token)) → Outcome (List Token)
fields_from n [] = done []
fields_from n (f ∷ fs) = do
  first ← counted_field n f
  others ← fields_from (n + 1) fs
  done (first ++ others)

unfoldable pub record_image : List (Outcome (List Token)) → Outcome Image
record_image fs = do
  allocates true
  all ← fields_from 0 fs
  done (image_of (bytes (be4 (length fs)) ++ all))
