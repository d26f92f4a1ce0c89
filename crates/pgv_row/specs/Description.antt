-- The body of a RowDescription (PostgreSQL: "Message Formats", RowDescription): the number of columns in two bytes,
-- unsigned, and for each its name, which a zero byte ends, the OID of its table in four bytes and its number there in
-- two, the OID of its type in four, the size of the type in two and its modifier in four, and the format of its values
-- in two; nothing comes after them. How it is read: what isn't there is C15, a name that isn't UTF-8 C14, another
-- format than 0 and 1 C30, and bytes after the last column C17. The type of a column is the built-in of its OID, or
-- else what a catalogue has of it, or else known by its OID alone.
use Rattle.std.specs.Prelude.{FitsSigned, ◌≡◌, ◌==◌, ◌↔◌, ℕ, pos, negsuc, [], ◌<◌, ◌^◌, not, true, false, List, ◌∷◌, ◌++◌, length, flat_map, Option, Some, None, Ok}
use Rattle.std.specs.Int.{w16, w32, cast_signed, cast_unsigned, to_be_bytes}
use Rattle.std.specs.List.{AllByRecursion}
use Rattle.pgv_types.specs.Ty.{Ty, by_oid}
use Rattle.pgv_types.specs.Facts.{built_in, is_custom, oid_of}
use Rattle.pgv_value.specs.FrameLaws.{AreBytes}
use Rattle.pgv_value.specs.Text.{is_utf8}
use Rattle.pgv_value.specs.declared.error.CodecError.TheVariants.{WrongLength}
use Rattle.pgv_value.specs.declared.value.PgValueFormat.{PgValueFormat}
use Rattle.pgv_value.specs.declared.value.PgValueFormat.TheVariants.{Binary}
use Rattle.pgv_row.specs.ColumnView.{Column}
use Rattle.pgv_value.specs.Fronts.{i16_front, u16_front, u32_front, name_front, format_of_code, format_number}
use Rattle.pgv_value.specs.Outcome.{Outcome, in_place, allocates, fails_if, done, ◌>>=◌, ◌>>◌}
use Rattle.pgv_value.specs.Several.{several}

-- ---- the type of a column

-- what is known of the types of a server, by their OIDs
abbrev pub KnownTypes : Type 0
KnownTypes = ℕ → Option Ty

abbrev pub type_or : Option Ty → Ty → Ty
type_or None t = t
type_or (Some u) t = u

unfoldable pub type_by : KnownTypes → ℕ → Ty
type_by known oid = type_or (built_in oid) (type_or (known oid) (by_oid oid))

abbrev pub number_or_zero : Option ℕ → ℕ
number_or_zero None = 0
number_or_zero (Some n) = n

-- ---- how a column is read

unfoldable pub column_front : KnownTypes → List ℕ → Outcome (Column × List ℕ)
column_front known bytes = do
  name ← in_place (name_front bytes)
  table ← in_place (u32_front name.1)
  attribute ← in_place (i16_front table.1)
  oid ← in_place (u32_front attribute.1)
  size ← in_place (i16_front oid.1)
  modifier ← in_place (u32_front size.1)
  code ← in_place (u16_front modifier.1)
  format ← in_place (format_of_code code.0)
  allocates (is_custom (type_by known oid.0))
  done (record { name = name.0; table = table.0; attribute = attribute.0; type_oid = oid.0; size = size.0; modifier = cast_signed w32 modifier.0; format = format; type_info = type_by known oid.0 }, code.1)

unfoldable pub description : KnownTypes → List ℕ → Outcome (List Column)
description known bytes = do
  count ← in_place (u16_front bytes)
  allocates true
  columns ← several (column_front known) count.0 count.1
  fails_if (not (length columns.1 == 0)) (WrongLength (length bytes))
  done columns.0

-- a column of this type, without a name, whose values are in binary
abbrev pub column_of_type : Ty → Column
column_of_type t = record { name = []; table = 0; attribute = pos 0; type_oid = number_or_zero (oid_of t); size = negsuc 0; modifier = negsuc 0; format = Binary; type_info = t }

-- a column whose values are in this format
abbrev pub in_format : PgValueFormat → Column → Column
in_format format c = record c { format = format }

-- ---- what a body is

-- its name, which a zero byte ends, and its numbers
abbrev pub column_bytes : Column → List ℕ
column_bytes c =
    c.name ++ (0 ∷ (to_be_bytes w32 c.table ++ (to_be_bytes w16 (cast_unsigned w16 c.attribute) ++ (to_be_bytes w32 c.type_oid ++ (to_be_bytes w16 (cast_unsigned w16 c.size) ++ (to_be_bytes w32 (cast_unsigned w32 c.modifier) ++ to_be_bytes w16 (format_number c.format)))))))

-- a name has no zero byte and is UTF-8, each number fits its bytes, and the type is that of the OID
pub record IsColumn (known : KnownTypes) (c : Column) : Type 0 where
  pub name : AllByRecursion (λ b. (b == 0) ≡ false) c.name
  pub text : is_utf8 c.name ≡ true
  pub table : c.table < 2 ^ 32
  pub attribute : FitsSigned w16 c.attribute
  pub type_oid : c.type_oid < 2 ^ 32
  pub size : FitsSigned w16 c.size
  pub modifier : FitsSigned w32 c.modifier
  pub type_is : c.type_info ≡ type_by known c.type_oid

-- a body: the number of columns, and these; nothing comes after them
pub record IsDescription (known : KnownTypes) (bytes : List ℕ) (columns : List Column) : Type 0 where
  pub whole : bytes ≡ to_be_bytes w16 (length columns) ++ flat_map column_bytes columns
  pub many : length columns < 2 ^ 16
  pub each : AllByRecursion (IsColumn known) columns

-- ---- laws

-- A body is read as columns exactly where it is a description of them.
unfoldable pub DescriptionIsRead : Type 0
DescriptionIsRead = (known : KnownTypes) (bytes : List ℕ) (columns : List Column) → AreBytes bytes → ((description known bytes).answer ≡ Ok columns) ↔ IsDescription known bytes columns
