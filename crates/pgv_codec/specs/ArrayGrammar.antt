-- Arrays (PostgreSQL: "Arrays", 8.15; the binary form is that of its source, array_send): what is read, why it is
-- refused and where memory is asked for. In binary: the number of dimensions, flags, the OID of the elements' type, and
-- for the one dimension that is read the number of elements and the lower bound; then a frame for each element. No
-- dimensions and anything after it is no elements. The element's type is the built-in of the OID, else the element of
-- the value's type; it must exist, also for no elements. Anything may come after the last frame. In text the values of
-- an array text, each read under the elements' own type.
use Rattle.std.specs.Prelude.{ℕ, zero, suc, nat_lt, ◌==◌, not, ◌&&◌, Bool, List, [], ◌∷◌, length, Option, Some, None, if◌then◌else◌}
use Rattle.std.specs.Int.{w32, cast_signed}
use Rattle.pgv_types.specs.Ty.{Ty}
use Rattle.pgv_types.specs.Facts.{built_in, element_of, is_custom}
use Rattle.pgv_text.specs.Values.{array_values}
use Rattle.pgv_value.specs.FrameBinary.{Part, max_length}
use Rattle.pgv_value.specs.Fronts.{u32_at, value_at}
use Rattle.pgv_value.specs.Outcome.{Outcome, done, fails, fails_if, or_fail, allocates, ◌>>=◌, ◌>>◌}
use Rattle.pgv_value.specs.Reading.{has_items}
use Rattle.pgv_value.specs.Text.{is_utf8}
use Rattle.pgv_value.specs.ValueView.{Given, given}
use Rattle.pgv_value.specs.declared.error.CodecError.TheVariants.{UnexpectedNull, Utf8, Syntax, NegativeLength, Dimensions, LowerBound, ElementType, ElementCount}
use Rattle.pgv_value.specs.declared.value.PgValueFormat.{PgValueFormat}
use Rattle.pgv_value.specs.declared.value.PgValueFormat.TheVariants.{Text, Binary}

-- the type of the elements: the built-in type of the OID that is there, else the element of the array's type
abbrev pub element_type : Ty → ℕ → Option Ty
element_type t oid = elim (built_in oid) [ None ↦ element_of t | Some u ↦ Some u ]

-- what is in front of the elements' frames: their type and how many there are
pub record Head : Type 0 where
  pub element : Ty
  pub count : ℕ
  pub frames : List ℕ

-- after the number of dimensions, which is one; the elements' type is copied, which asks for memory of a custom one
-- alone
unfoldable pub one_dimension : Ty → List ℕ → Outcome Head
one_dimension t bytes = do
  flags ← u32_at bytes
  oid ← u32_at flags.1
  element ← or_fail (element_type t oid.0) (ElementType (record { 0 = oid.0 }))
  count ← u32_at oid.1
  fails_if (nat_lt max_length count.0) (NegativeLength (cast_signed w32 count.0))
  bound ← u32_at count.1
  fails_if (not (bound.0 == 1)) (LowerBound (cast_signed w32 bound.0))
  allocates (is_custom element)
  done (record { element = element; count = count.0; frames = bound.1 })

-- the head of an array, where it has elements at all: of no dimensions it has none, and nothing more is looked at
unfoldable pub head : Ty → List ℕ → Outcome (Option Head)
head t bytes = do
  dimensions ← u32_at bytes
  if dimensions.0 == 0 then done None else
      if dimensions.0 == 1 then (one_dimension t dimensions.1 >>= λ h. done (Some h))
      else fails (Dimensions (cast_signed w32 dimensions.0))

-- n frames of values of a type, each read; anything may come after them
unfoldable pub parse_frames : {M : Type 0} → (Given → Outcome M) → Ty → ℕ → List ℕ → Outcome (List M)
parse_frames parse t zero bytes = done []
parse_frames parse t (suc n) bytes = do
  value ← value_at t bytes
  m ← parse value.0
  ms ← parse_frames parse t n value.1
  done (m ∷ ms)

-- parts in text, each read
unfoldable pub each : {M : Type 0} → (Given → Outcome M) → Ty → List Part → Outcome (List M)
each parse t [] = done []
each parse t (part ∷ parts) = do
  m ← parse (given t Text part)
  ms ← each parse t parts
  done (m ∷ ms)

-- The list has room for as many elements as the bytes can hold; where that is none, it asks for no memory.
abbrev pub has_room : ℕ → List ℕ → Bool
has_room count bytes = nat_lt 0 count && nat_lt 3 (length bytes)

unfoldable pub elements : {M : Type 0} → (Given → Outcome M) → Ty → ℕ → List ℕ → Outcome (List M)
elements parse t count bytes = do
  allocates (has_room count bytes)
  parse_frames parse t count bytes

-- the elements after a head
abbrev pub elements_after : {M : Type 0} → (Given → Outcome M) → Option Head → Outcome (List M)
elements_after parse None = done []
elements_after parse (Some h) = elements parse h.element h.count h.frames

-- an array in binary
unfoldable pub array_in_binary : {M : Type 0} → (Given → Outcome M) → Ty → List ℕ → Outcome (List M)
array_in_binary parse t bytes = head t bytes >>= elements_after parse

-- an array in text, of elements under a type
unfoldable pub array_in_text : {M : Type 0} → (Given → Outcome M) → Ty → List ℕ → Outcome (List M)
array_in_text parse t text = do
  parts ← or_fail (array_values text) Syntax
  allocates (has_items (array_values text))
  each parse t parts

abbrev pub array_by : {M : Type 0} → Ty → (Given → Outcome M) → Ty → PgValueFormat → Option (List ℕ) → Outcome (List M)
array_by info parse t format None = fails UnexpectedNull
array_by info parse t Text (Some bytes) = if is_utf8 bytes then array_in_text parse info bytes else fails Utf8
array_by info parse t Binary (Some bytes) = array_in_binary parse t bytes

-- an array of elements that are read so, in text under the elements' own type, `info`
abbrev pub parse_array : {M : Type 0} → Ty → (Given → Outcome M) → Given → Outcome (List M)
parse_array info parse v = array_by info parse v.type_info v.format v.bytes

-- an array of n elements; a list of another length is C22
abbrev pub parse_sized : {M : Type 0} → ℕ → Ty → (Given → Outcome M) → Given → Outcome (List M)
parse_sized n info parse v = do
  ms ← parse_array info parse v
  fails_if (not (length ms == n)) (ElementCount (length ms))
  done ms
