-- Ranges (PostgreSQL: "Range Types", 8.17; the binary form is that of its source, range_recv): what is read, why it is
-- refused and where memory is asked for. The relations that it computes are in `RangeBinary` and `RangeInText`. Memory
-- is asked for only by the values of the bounds that are read, and for copies: in binary of a custom type that the
-- range is over, after the frame of a bound; in text of a part that isn't in the text as it is.
use Rattle.std.specs.Prelude.{ℕ, Bool, true, false, List, [], ◌∷◌, drop, Option, Some, None, if◌then◌else◌}
use Rattle.std.specs.Str.{chars}
use Rattle.std.specs.declared.ops.Bound.{Bound}
use Rattle.std.specs.declared.ops.Bound.TheVariants.{Included, Excluded, Unbounded}
use Rattle.pgv_types.specs.Ty.{Ty, Kind, simple, domain, composite, array, pseudo, enumeration, range as range_over}
use Rattle.pgv_types.specs.Facts.{is_custom, kind_at}
use Rattle.pgv_text.specs.ContentText.{RangeContent, empty as empty_text, parts as parts_text, range_content}
use Rattle.pgv_text.specs.Copies.{copies_of, first_copied}
use Rattle.pgv_text.specs.NestPieces.{Nest}
use Rattle.pgv_text.specs.declared.scanner.TextForm.TheVariants.{Range}
use Rattle.pgv_value.specs.FrameBinary.{Part}
use Rattle.pgv_value.specs.Fronts.{one_part}
use Rattle.pgv_value.specs.Outcome.{Outcome, done, fails, or_fail, allocates, ◌>>=◌, ◌>>◌}
use Rattle.pgv_value.specs.Text.{is_utf8}
use Rattle.pgv_value.specs.ValueView.{Given, given}
use Rattle.pgv_value.specs.declared.error.CodecError.TheVariants.{UnexpectedNull, Utf8, Short, NotARange, Syntax}
use Rattle.pgv_value.specs.declared.value.PgValueFormat.{PgValueFormat}
use Rattle.pgv_value.specs.declared.value.PgValueFormat.TheVariants.{Text, Binary}
use Rattle.pgv_range.specs.RangeOf.{RangeOf, empty, bounds}
use Rattle.pgv_range.specs.FlagByte.{form_of_flags}
use Rattle.pgv_range.specs.declared.flags.Side.{Side}
use Rattle.pgv_range.specs.declared.flags.Side.TheVariants.{Infinite, Inclusive, Exclusive}
use Rattle.pgv_range.specs.declared.flags.RangeForm.{RangeForm}
use Rattle.pgv_range.specs.declared.flags.RangeForm.TheVariants.{Empty, Sides}

-- ---- types

abbrev pub element_in_kind : Option Kind → Option Ty
element_in_kind None = None
element_in_kind (Some simple) = None
element_in_kind (Some (domain t)) = None
element_in_kind (Some (composite fs)) = None
element_in_kind (Some (array t)) = None
element_in_kind (Some pseudo) = None
element_in_kind (Some (enumeration ls)) = None
element_in_kind (Some (range_over u)) = Some u

-- what a type is a range over, where it is of kind range
abbrev pub range_element : Ty → Option Ty
range_element t = element_in_kind (kind_at t)

-- whether a type is a range over an accepted one
abbrev pub accepted_by : (Ty → Bool) → Option Ty → Bool
accepted_by accepts None = false
accepted_by accepts (Some u) = accepts u

abbrev pub range_accepts : (Ty → Bool) → Ty → Bool
range_accepts accepts t = accepted_by accepts (range_element t)

-- ---- in binary, of bounds of a type

-- the value of the frame in front, and what comes after it
abbrev pub bound_in_front : {M : Type 0} → (Given → Outcome M) → Ty → List ℕ → Outcome (M × List ℕ)
bound_in_front parse u bytes = do
  part ← one_part bytes
  allocates (is_custom u)
  m ← parse (given u Binary part.0)
  done (m, part.1)

-- the bound of which this is said, and what comes after it
abbrev pub bound_in : {M : Type 0} → (Given → Outcome M) → Ty → Side → List ℕ → Outcome (Bound M × List ℕ)
bound_in parse u Infinite bytes = done (Unbounded, bytes)
bound_in parse u Inclusive bytes = bound_in_front parse u bytes >>= λ v. done (Included v.0, v.1)
bound_in parse u Exclusive bytes = bound_in_front parse u bytes >>= λ v. done (Excluded v.0, v.1)

-- the lower bound and the upper one; anything may come after them
unfoldable pub bounds_in : {M : Type 0} → (Given → Outcome M) → Ty → Side → Side → List ℕ → Outcome (RangeOf M)
bounds_in parse u below above bytes = do
  lower ← bound_in parse u below bytes
  upper ← bound_in parse u above lower.1
  done (bounds lower.0 upper.0)

-- of an empty range nothing more is looked at
abbrev pub range_by : {M : Type 0} → (Given → Outcome M) → Ty → RangeForm → List ℕ → Outcome (RangeOf M)
range_by parse u Empty bytes = done empty
range_by parse u (Sides below above) bytes = bounds_in parse u below above bytes

abbrev pub range_bytes : {M : Type 0} → (Given → Outcome M) → Ty → List ℕ → Outcome (RangeOf M)
range_bytes parse u [] = fails Short
range_bytes parse u (flags ∷ rest) = range_by parse u (form_of_flags flags) rest

-- the values of the bounds are read under the type that it is a range over
abbrev pub range_in_binary : {M : Type 0} → (Given → Outcome M) → Ty → List ℕ → Outcome (RangeOf M)
range_in_binary parse t bytes = do
  u ← or_fail (range_element t) NotARange
  range_bytes parse u bytes

-- ---- in text, of bounds of a type

-- a part that is absent is no bound; another is included where its bracket is a square one
abbrev pub side_in_text : {M : Type 0} → Bool → M → Bound M
side_in_text true m = Included m
side_in_text false m = Excluded m

abbrev pub bound_in_text : {M : Type 0} → (Given → Outcome M) → Ty → Bool → Part → Outcome (Bound M)
bound_in_text parse t included None = done Unbounded
bound_in_text parse t included (Some text) = parse (given t Text (Some text)) >>= λ m. done (side_in_text included m)

-- the bound of the part in front, and the parts after it
abbrev pub next_bound : {M : Type 0} → (Given → Outcome M) → Ty → Bool → List Bool → List Part → Outcome (Bound M × List Part)
next_bound parse t included copied [] = fails Syntax
next_bound parse t included copied (part ∷ parts) = do
  allocates (first_copied copied)
  b ← bound_in_text parse t included part
  done (b, parts)

unfoldable pub bounds_in_text : {M : Type 0} → (Given → Outcome M) → Ty → List Bool → Nest → Outcome (RangeOf M)
bounds_in_text parse t copied nest = do
  lower ← next_bound parse t nest.lower copied nest.values
  upper ← next_bound parse t nest.upper (drop 1 copied) lower.1
  done (bounds lower.0 upper.0)

-- the empty range, or the bounds between the brackets
abbrev pub content_in_text : {M : Type 0} → (Given → Outcome M) → Ty → List ℕ → RangeContent → Outcome (RangeOf M)
content_in_text parse t text empty_text = done empty
content_in_text parse t text (parts_text nest) = bounds_in_text parse t (copies_of Range text) nest

unfoldable pub range_in_text : {M : Type 0} → (Given → Outcome M) → Ty → List ℕ → Outcome (RangeOf M)
range_in_text parse t text = do
  content ← or_fail (range_content (chars text)) Syntax
  content_in_text parse t text content

-- ---- a range of values that are read so; in text each is read under the values' own type, `info`

abbrev pub range_or_null : {M : Type 0} → Ty → (Given → Outcome M) → Ty → PgValueFormat → Option (List ℕ) → Outcome (RangeOf M)
range_or_null info parse t format None = fails UnexpectedNull
range_or_null info parse t Text (Some bytes) = if is_utf8 bytes then range_in_text parse info bytes else fails Utf8
range_or_null info parse t Binary (Some bytes) = range_in_binary parse t bytes

abbrev pub parse_range : {M : Type 0} → Ty → (Given → Outcome M) → Given → Outcome (RangeOf M)
parse_range info parse v = range_or_null info parse v.type_info v.format v.bytes
