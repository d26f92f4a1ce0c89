-- A COPY stream in binary that comes in pieces (PostgreSQL: "COPY Operations", CopyData), cut anywhere. `next_of` is
-- what the bytes say that have come and were not read: a row, the end, or a refusal; C15 means that more has to come.
-- `Advances` is what a call of a reader of pieces answers, and the reader after it. Laws: what is proved about bytes is
-- proved whatever comes after them (`WhatCameStays`); rows that are read after each piece are the rows of the joined
-- bytes (`PiecesAreOneStream`), and of a whole stream all of its rows (`CopyInPiecesIsItsRows`).
use Rattle.std.specs.Prelude.{◌≡◌, ◌≢◌, ◌⊎◌, ◌≤◌, ◌<◌, ℕ, Bool, true, false, List, [], ◌∷◌, ◌++◌, map, flat_map, length, drop, option_map, Option, Some, None, is_some, Result, Ok, Err, refl, if◌then◌else◌}
use Rattle.std.specs.Coded.{Coded, code_by, coded×, coded_bool, coded_ℕ, coded_list, coded_option}
use Rattle.pgv_types.specs.Ty.{Ty, ty_code}
use Rattle.pgv_value.specs.FrameBinary.{Part}
use Rattle.pgv_value.specs.Outcome.{Outcome}
use Rattle.pgv_value.specs.Parsed.{Parsed, ◌>>=◌}
use Rattle.pgv_value.specs.ValueView.{Given, given_code}
use Rattle.pgv_value.specs.declared.error.CodecError.{CodecError}
use Rattle.pgv_value.specs.declared.error.CodecError.TheVariants.{Short}
use Rattle.pgv_copy.specs.CopyBinary.{Step, after_header, fields, reader_before, reader_ended, step}
use Rattle.pgv_copy.specs.CopyStream.{IsCopy, values}
use Rattle.pgv_copy.specs.CopyView.{Copying}
use Rattle.pgv_copy.specs.declared.pieces.PgCopyNext.{PgCopyNext}
use Rattle.pgv_copy.specs.declared.pieces.PgCopyNext.TheVariants.{Row, More, End}

-- ---- a reader of pieces

-- The types of the columns; whether the header is still to come, and whether the end has; the bytes that came and were
-- not read; and the row that was read last, until more bytes come.
pub record Pieces : Type 0 where
  pub types : List Ty
  pub in_header : Bool
  pub is_ended : Bool
  pub left : List ℕ
  pub row : Option (List Given)

-- a reader to which nothing has come
abbrev pub nothing_came : List Ty → Pieces
nothing_came types = record { types = types; in_header = true; is_ended = false; left = []; row = None }

-- more bytes have come; after the end they don't count
abbrev pub with_more : Pieces → List ℕ → Pieces
with_more p more = if p.is_ended then p else record p { left = p.left ++ more; row = None }

-- the row that was read last, where one was; its list asks for memory
abbrev pub row_lent : Option (List Given) → Outcome (Option (List Given))
row_lent row = record { answer = Ok row; may_alloc = is_some row }

-- the rest of a stream whose header is still to come, or has been read
abbrev pub after_begin : Bool → List ℕ → Parsed (List ℕ)
after_begin true bytes = after_header bytes
after_begin false bytes = Ok bytes

-- the next row of bytes, or none at the end
abbrev pub next_of : List Ty → Bool → List ℕ → Step
next_of types in_header bytes = after_begin in_header bytes >>= λ rest. step (reader_before types rest)

-- the reader that has read a row, and is before these bytes
abbrev pub row_read : List Ty → List Given → List ℕ → Pieces
row_read types row left = record { types = types; in_header = false; is_ended = false; left = left; row = Some row }

-- the reader at the end
abbrev pub end_read : List Ty → Pieces
end_read types = record { types = types; in_header = false; is_ended = true; left = []; row = None }

-- what a call says of the bytes that have come
abbrev pub AdvancesBy : Pieces → Result PgCopyNext CodecError → Pieces → Type 0
AdvancesBy old (Ok Row) new =
    (row : List Given) × (next_of old.types old.in_header old.left ≡ Ok (Some row, reader_before old.types new.left))
    × (new ≡ row_read old.types row new.left)
AdvancesBy old (Ok More) new = (next_of old.types old.in_header old.left ≡ Err Short) × (new ≡ old)
AdvancesBy old (Ok End) new =
    (next_of old.types old.in_header old.left ≡ Ok (None, reader_ended old.types)) × (new ≡ end_read old.types)
AdvancesBy old (Err e) new = (next_of old.types old.in_header old.left ≡ Err e) × (e ≢ Short) × (new ≡ old)

-- What a call answers, and the reader after it: at the end it is the end again.
abbrev pub AdvancesFrom : Bool → Pieces → Result PgCopyNext CodecError → Pieces → Type 0
AdvancesFrom true old answer new = (answer ≡ Ok End) × (new ≡ old)
AdvancesFrom false old answer new = AdvancesBy old answer new

abbrev pub Advances : Pieces → Result PgCopyNext CodecError → Pieces → Type 0
Advances old answer new = AdvancesFrom old.is_ended old answer new

-- ---- what came stays

abbrev pub Stays : {A : Type 0} → (A → A) → Parsed A → Parsed A → Type 0
Stays further (Ok x) later = later ≡ Ok (further x)
Stays further (Err e) later = (e ≡ Short) ⊎ (later ≡ Err e)

-- a reader with more bytes after those that are left
abbrev pub further : List ℕ → Option (List Given) × Copying → Option (List Given) × Copying
further more s = (s.0, record s.1 { left = option_map (λ left. left ++ more) s.1.left })

-- A row, the end and a refusal other than C15 are the same whatever comes after these bytes.
unfoldable pub WhatCameStays : Type 0
WhatCameStays =
    (types : List Ty) (in_header : Bool) (bytes more : List ℕ) →
    Stays (further more) (next_of types in_header bytes) (next_of types in_header (bytes ++ more))

-- ---- rows of pieces

-- rows that are read one after another, and what is left then
abbrev pub ReadRows : List Ty → Bool → List ℕ → List (List Given) → Bool → List ℕ → Type 0
ReadRows types in_header bytes [] after left = (in_header ≡ after) × (bytes ≡ left)
ReadRows types in_header bytes (row ∷ rows) after left =
    (next : List ℕ) × (next_of types in_header bytes ≡ Ok (Some row, reader_before types next)) × ReadRows types false next rows after left

-- Pieces that come one after another, rows that are read after each of them, and what is left then.
abbrev pub ReadPieces : List Ty → Bool → List ℕ → List (List ℕ) → List (List Given) → Bool → List ℕ → Type 0
ReadPieces types in_header held [] rows after left = (rows ≡ []) × (in_header ≡ after) × (held ≡ left)
ReadPieces types in_header held (piece ∷ pieces) rows after left =
    (first : List (List Given)) × (later : List (List Given)) × (mid : Bool) × (kept : List ℕ)
    × (rows ≡ first ++ later) × ReadRows types in_header (held ++ piece) first mid kept × ReadPieces types mid kept pieces later after left

-- the bytes of pieces, joined
abbrev pub joined : List (List ℕ) → List ℕ
joined pieces = flat_map (λ piece. piece) pieces

-- What is read after each piece, however the bytes are cut, are the rows of the joined bytes.
unfoldable pub PiecesAreOneStream : Type 0
PiecesAreOneStream =
    (types : List Ty) (in_header after : Bool) (held left : List ℕ) (pieces : List (List ℕ)) (rows : List (List Given)) →
    ReadPieces types in_header held pieces rows after left → ReadRows types in_header (held ++ joined pieces) rows after left

-- no row is there: more has to come, or the end is there
abbrev pub NoRow : Step → Type 0
NoRow (Ok x) = x.0 ≡ None
NoRow (Err e) = e ≡ Short

-- Of a stream that comes in pieces, where all rows are read that are there, exactly its rows are read, and then its
-- end.
unfoldable pub CopyInPiecesIsItsRows : Type 0
CopyInPiecesIsItsRows =
    (types : List Ty) (pieces : List (List ℕ)) (rows : List (List Part)) (follows : List ℕ) (given : List (List Given)) (after : Bool) (left : List ℕ) →
    IsCopy (length types) (joined pieces) rows follows → ReadPieces types true [] pieces given after left → NoRow (next_of types after left) →
    (given ≡ map (values types) rows) × (next_of types after left ≡ Ok (None, reader_ended types))

-- ---- how a reader has its bytes

-- one is the end of the other
abbrev pub IsEnd : List ℕ → List ℕ → Type 0
IsEnd bytes rest = (n : ℕ) × (n ≤ length bytes) × (rest ≡ drop n bytes)

-- a row that is there begins and ends within the bytes
pub record IsRowIn (types : List Ty) (in_header : Bool) (bytes row rest : List ℕ) : Type 0 where
  pub given : List Given
  pub row_end : IsEnd bytes row
  pub rest_end : IsEnd bytes rest
  pub found : fields types row ≡ Ok (given, rest)
  pub read : next_of types in_header bytes ≡ Ok (Some given, reader_before types rest)
  pub shorter : length rest < length bytes

-- what comes after the fields of a row
abbrev pub rest_after : Parsed (List Given × List ℕ) → Parsed (List ℕ)
rest_after read = read >>= λ row. Ok row.1

-- the fields of the row whose bytes these begin with, where one was read
abbrev pub row_by : Parsed (List Given × List ℕ) → Option (List Given)
row_by (Ok x) = Some x.0
row_by (Err e) = None

abbrev pub row_at : Bool → List Ty → List ℕ → Option (List Given)
row_at has types bytes = if has then row_by (fields types bytes) else None

-- The bytes that are read end within those that are held, and a row that was read is whole.
pub record AreHeld (has : Bool) (types : List Ty) (row next : ℕ) (held : List ℕ) : Type 0 where
  pub next_within : next ≤ length held
  pub row_within : row ≤ length held
  pub row_whole : has ≡ true → (x : List Given × List ℕ) × (fields types (drop row held) ≡ Ok x)

-- ---- how the logic stores it

abbrev pub pieces_code : Coded Pieces
pieces_code = code_by (List Ty × (Bool × (Bool × (List ℕ × Option (List Given)))))
    (coded× (coded_list ty_code) (coded× coded_bool (coded× coded_bool (coded× (coded_list coded_ℕ) (coded_option (coded_list given_code))))))
    (λ p. (p.types, (p.in_header, (p.is_ended, (p.left, p.row)))))
    (λ q. record { types = q.0; in_header = q.1.0; is_ended = q.1.1.0; left = q.1.1.1.0; row = q.1.1.1.1 })
    (λ _. refl)
