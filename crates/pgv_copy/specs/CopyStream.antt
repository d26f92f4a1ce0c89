-- A COPY stream in binary, as what its bytes are and not as how they are read (PostgreSQL: "COPY", "Binary Format"): a
-- header, the rows one after another, a trailer, and whatever follows (`IsCopy`). The header is the signature
-- `PGCOPY\n\377\r\n\0`, 32 flags of which 16 to 31 are clear, the length of an extension, and the extension
-- (`IsHeader`). A row is the number of its fields in two bytes, which is that of the columns, and a frame for each
-- (`IsRow`, `row_bytes`). The trailer is the number -1. Laws: a stream is read as its rows.
use Rattle.std.specs.Prelude.{◌≡◌, ℕ, zero, suc, ◌+◌, ◌<◌, ◌≤◌, ◌^◌, ◌⊎◌, List, [], ◌∷◌, ◌++◌, map, flat_map, length, take, replicate, Option, Some, None, Ok, Err}
use Rattle.std.specs.Int.{w32, to_be_bytes}
use Rattle.std.specs.List.{AllByRecursion}
use Rattle.pgv_types.specs.Ty.{Ty}
use Rattle.pgv_value.specs.FrameBinary.{Part, row_bytes, FitsLength}
use Rattle.pgv_value.specs.FrameLaws.{AreBytes}
use Rattle.pgv_value.specs.Parsed.{Parsed}
use Rattle.pgv_value.specs.ValueView.{Given}
use Rattle.pgv_value.specs.declared.error.CodecError.TheVariants.{Short}
use Rattle.pgv_value.specs.declared.value.PgValueFormat.TheVariants.{Binary}
use Rattle.pgv_copy.specs.CopyBinary.{Step, signature, after_header, reader_before, step}
use Rattle.pgv_copy.specs.CopyView.{Copying}

-- ---- what a stream is

-- A header: the signature; 32 flags, of which 16 to 31 are clear; the length of an extension, and the extension.
pub record IsHeader (bytes : List ℕ) : Type 0 where
  pub flags : ℕ
  pub extension : List ℕ
  pub whole : bytes ≡ signature ++ (to_be_bytes w32 flags ++ (to_be_bytes w32 (length extension) ++ extension))
  pub none_critical : flags < 2 ^ 16
  pub length_fits : length extension < 2 ^ 31

-- the number -1, after the last row
abbrev pub trailer : List ℕ
trailer = 255 ∷ 255 ∷ []

-- a row of this many fields, a number that fits its two bytes
pub record IsRow (width : ℕ) (row : List Part) : Type 0 where
  pub wide : length row ≡ width
  pub width_fits : width < 2 ^ 15
  pub each : AllByRecursion FitsLength row

-- A stream: a header, the rows one after another, the trailer, and whatever follows.
pub record IsCopy (width : ℕ) (bytes : List ℕ) (rows : List (List Part)) (follows : List ℕ) : Type 0 where
  pub head : List ℕ
  pub whole : bytes ≡ head ++ (flat_map row_bytes rows ++ (trailer ++ follows))
  pub begins : IsHeader head
  pub each : AllByRecursion (IsRow width) rows

-- ---- what a reader answers

-- what a call answers: a row, none, or why it is refused
abbrev pub Answer : Type 0
Answer = Parsed (Option (List Given))

-- the answer of a call and the reader after it, which a refusal leaves as it was
abbrev pub called : Step → Copying → Answer × Copying
called (Ok x) reader = (Ok x.0, x.1)
called (Err e) reader = (Err e, reader)

abbrev pub call : Copying → Answer × Copying
call reader = called (step reader) reader

-- the answers of calls one after another
abbrev pub answers : ℕ → Copying → List Answer
answers zero reader = []
answers (suc n) reader = (call reader).0 ∷ answers n (call reader).1

-- a row's fields as values of these types
abbrev pub values : List Ty → List Part → List Given
values (t ∷ types) (part ∷ row) = record { bytes = part; type_info = t; format = Binary } ∷ values types row
values _ _ = []

-- each row is answered, one after another
abbrev pub row_answers : List Ty → List (List Part) → List Answer
row_answers types rows = map (λ row. Ok (Some (values types row))) rows

-- ---- a stream is read as its rows

-- The header is passed over. The calls after it return the rows, and then that there is no further row.
unfoldable pub CopyIsItsRows : Type 0
CopyIsItsRows =
    (types : List Ty) (bytes : List ℕ) (rows : List (List Part)) (follows : List ℕ) → IsCopy (length types) bytes rows follows →
    (rest : List ℕ) × (after_header bytes ≡ Ok rest) ×
    ((n : ℕ) → answers (length rows + n) (reader_before types rest) ≡ row_answers types rows ++ replicate n (Ok None))

-- Bytes that are read as rows and then an end are a stream of these rows.
unfoldable pub RowsAreOfACopy : Type 0
RowsAreOfACopy =
    (types : List Ty) (bytes rest : List ℕ) (rows : List (List Given)) → AreBytes bytes → after_header bytes ≡ Ok rest →
    answers (length rows + 1) (reader_before types rest) ≡ map (λ row. Ok (Some row)) rows ++ Ok None ∷ [] →
    (parts : List (List Part)) × (follows : List ℕ) × IsCopy (length types) bytes parts follows × (rows ≡ map (values types) parts)

-- Of a stream that is cut off, either the header is refused because the bytes end too early, or the first rows are
-- answered, and from then on each call is refused so.
pub record StopsAtTheCut (types : List Ty) (bytes : List ℕ) (rows : List (List Part)) : Type 0 where
  pub rest : List ℕ
  pub count : ℕ
  pub begun : List ℕ
  pub begins : after_header bytes ≡ Ok rest
  pub within : count ≤ length rows
  pub whole : rest ≡ flat_map row_bytes (take count rows) ++ begun
  pub stops : (n : ℕ) → answers (count + n) (reader_before types rest) ≡ row_answers types (take count rows) ++ replicate n (Err Short)

-- A header that is cut off is refused because the bytes end too early.
unfoldable pub CutHeaderIsShort : Type 0
CutHeaderIsShort = (bytes more : List ℕ) → IsHeader (bytes ++ more) → 0 < length more → after_header bytes ≡ Err Short

unfoldable pub CutCopyIsShort : Type 0
CutCopyIsShort =
    (types : List Ty) (bytes more : List ℕ) (rows : List (List Part)) → IsCopy (length types) (bytes ++ more) rows [] → 0 < length more →
    (after_header bytes ≡ Err Short) ⊎ StopsAtTheCut types bytes rows
