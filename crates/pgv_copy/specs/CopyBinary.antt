-- COPY in binary as it is read (PostgreSQL: "COPY", "Binary Format"): a header, rows of frames one after another, and a
-- trailer. That this is what a stream's bytes are, is a law (CopyStream). `step` is what a reader's next call answers,
-- in the order of the format: a number of fields below -1 is C16 before another number is C12, and that before any
-- field is read.
use Rattle.std.specs.Prelude.{ℕ, nat_lt, pos, negsuc, int_lt, ◌&&◌, ◌||◌, Bool, true, false, List, [], ◌∷◌, length, take, drop, bytes_eq, Option, Some, None, Ok, Err, if◌then◌else◌}
use Rattle.std.specs.Int.{w32, cast_signed}
use Rattle.std.specs.List.{list_any}
use Rattle.std.specs.Ordering.{int_eq}
use Rattle.pgv_types.specs.Facts.{is_custom}
use Rattle.pgv_types.specs.Ty.{Ty}
use Rattle.pgv_value.specs.FrameBinary.{max_length}
use Rattle.pgv_value.specs.Fronts.{i16_front, u32_front, value_front}
use Rattle.pgv_value.specs.Outcome.{Outcome, after, in_place}
use Rattle.pgv_value.specs.Parsed.{Parsed, ◌>>=◌}
use Rattle.pgv_value.specs.ValueView.{Given}
use Rattle.pgv_value.specs.declared.error.CodecError.TheVariants.{Short, NegativeLength, FieldCount, Syntax}
use Rattle.pgv_value.specs.declared.value.PgValueFormat.TheVariants.{Binary}
use Rattle.pgv_copy.specs.CopyView.{Copying}

-- ---- the header

-- `PGCOPY`, a line feed, ff, a carriage return, a line feed and 0
abbrev pub signature : List ℕ
signature = 80 ∷ 71 ∷ 67 ∷ 79 ∷ 80 ∷ 89 ∷ 10 ∷ 255 ∷ 13 ∷ 10 ∷ 0 ∷ []

-- what comes after the signature: bytes that end within it are C15, and any others are C29
unfoldable pub after_signature : List ℕ → Parsed (List ℕ)
after_signature bytes =
    if nat_lt (length bytes) 11 then Err (if bytes_eq bytes (take (length bytes) signature) then Short else Syntax) else
    if bytes_eq (take 11 bytes) signature then Ok (drop 11 bytes) else Err Syntax

-- what comes after the flags, of which the upper 16 have to be clear
unfoldable pub after_flags : List ℕ → Parsed (List ℕ)
after_flags bytes = u32_front bytes >>= λ flags. if nat_lt 65535 flags.0 then Err Syntax else Ok flags.1

-- what comes after the extension: its length, and that many bytes
unfoldable pub after_extension : List ℕ → Parsed (List ℕ)
after_extension bytes =
    u32_front bytes >>= λ size.
    if nat_lt max_length size.0 then Err (NegativeLength (cast_signed w32 size.0)) else
    if nat_lt (length size.1) size.0 then Err Short else Ok (drop size.0 size.1)

-- what comes after the header
abbrev pub after_header : List ℕ → Parsed (List ℕ)
after_header bytes = after_signature bytes >>= after_flags >>= after_extension

-- ---- rows

-- what comes after the number of fields, which has to be this one; at -1, the trailer, nothing does
unfoldable pub after_count : ℕ → List ℕ → Parsed (Option (List ℕ))
after_count width bytes =
    i16_front bytes >>= λ count.
    if int_eq count.0 (negsuc 0) then Ok None else
    if int_lt count.0 (pos 0) then Err (NegativeLength count.0) else
    if int_eq count.0 (pos width) then Ok (Some count.1) else Err FieldCount

-- the frame in front, as a field of this type, and what comes after it
abbrev pub field_in_front : Ty → List ℕ → Parsed (Given × List ℕ)
field_in_front t bytes = value_front t Binary bytes

-- a field of each type, and what comes after them
unfoldable pub fields : List Ty → List ℕ → Parsed (List Given × List ℕ)
fields [] bytes = Ok ([], bytes)
fields (t ∷ ts) bytes = field_in_front t bytes >>= λ first. fields ts first.1 >>= λ more. Ok (first.0 ∷ more.0, more.1)

-- Whether a list that has room for some values asks for memory to take a field of each type: it has room for fewer, or
-- a custom type is copied.
abbrev pub list_takes : ℕ → List Ty → Bool
list_takes room types = nat_lt room (length types) || list_any is_custom types

-- the fields in a list that has room for some values
abbrev pub listed : ℕ → List Ty → List ℕ → Outcome (List Given × List ℕ)
listed room types bytes = after (list_takes room types) (in_place (fields types bytes))

-- ---- a reader's calls

-- a reader before these bytes, and one after the trailer
abbrev pub reader_before : List Ty → List ℕ → Copying
reader_before types bytes = record { types = types; left = Some bytes }

abbrev pub reader_ended : List Ty → Copying
reader_ended types = record { types = types; left = None }

-- a reader of a stream, after its header
abbrev pub opened : List Ty → List ℕ → Parsed Copying
opened types bytes = after_header bytes >>= λ rest. Ok (reader_before types rest)

-- how many bytes are still to be read
abbrev pub length_left : Option (List ℕ) → ℕ
length_left None = 0
length_left (Some bytes) = length bytes

abbrev pub bytes_left : Copying → ℕ
bytes_left reader = length_left reader.left

-- what a call answers, and the reader after it
abbrev pub Step : Type 0
Step = Parsed (Option (List Given) × Copying)

abbrev pub row_or_end : List Ty → Option (List ℕ) → Step
row_or_end types None = Ok (None, reader_ended types)
row_or_end types (Some bytes) = fields types bytes >>= λ row. Ok (Some row.0, reader_before types row.1)

abbrev pub step_from : List Ty → Option (List ℕ) → Step
step_from types None = Ok (None, reader_ended types)
step_from types (Some bytes) = after_count (length types) bytes >>= row_or_end types

-- The next row, or none at the trailer and after it.
unfoldable pub step : Copying → Step
step reader = step_from reader.types reader.left

-- ---- memory

-- whether bytes are left after the number of fields, so that a row begins there
abbrev pub begins_row : Parsed (Option (List ℕ)) → Bool
begins_row (Err e) = false
begins_row (Ok None) = false
begins_row (Ok (Some bytes)) = true

abbrev pub row_takes_from : ℕ → List Ty → Option (List ℕ) → Bool
row_takes_from room types None = false
row_takes_from room types (Some bytes) = list_takes room types && begins_row (after_count (length types) bytes)

-- Whether a call asks for memory: only where a row begins whose list asks for some, and its fields are read.
abbrev pub row_takes : ℕ → Copying → Bool
row_takes room reader = row_takes_from room reader.types reader.left

-- what a call gives that fills a list with room for some values, and the reader after it
abbrev pub next_row_in : ℕ → Copying → Outcome (Option (List Given) × Copying)
next_row_in room reader = after (row_takes room reader) (in_place (step reader))

-- what a call gives that makes a list, and the reader after it
abbrev pub next_row : Copying → Outcome (Option (List Given) × Copying)
next_row reader = next_row_in 0 reader

-- what is in a list that was filled, if it was
abbrev pub filled : Bool → List Given → Option (List Given)
filled there row = if there then Some row else None
