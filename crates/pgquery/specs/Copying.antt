-- A COPY in binary to the driver (PostgreSQL: "COPY", "Binary Format"; "COPY Operations"): the lines of its rows, as
-- they come in messages.
use Rattle.std.specs.Prelude.{◌≡◌, ◌≢◌, ℕ, Bool, true, false, zero, suc, ◌==◌, codes, List, [], ◌∷◌, ◌++◌, length, replicate, Option, Some, None, Ok}
use Rattle.std.specs.List.{flat_map, slice_get}
use Rattle.hex.specs.Hex.{encode_lower}
use Rattle.pgv.specs.Words.{Given, Part}
use Rattle.pgv_characters.specs.Characters.{upper_h, lower_d}
use Rattle.pgv_types.specs.Ty.{by_oid}
use Rattle.pgv_copy.specs.CopyPieces.{Advances, Pieces, nothing_came, with_more}
use Rattle.pgv_copy.specs.declared.pieces.PgCopyNext.{PgCopyNext}
use Rattle.pgv_copy.specs.declared.pieces.PgCopyNext.TheVariants.{Row}
use Rattle.pgv_value.specs.declared.value.PgValueFormat.{PgValueFormat}
use Rattle.pgv_value.specs.declared.value.PgValueFormat.TheVariants.{Binary}
use Rattle.pgv_message.specs.CopyFormats.{copy_formats}
use Rattle.pgv_message.specs.Messages.{query}
use Rattle.pgquery.specs.Incoming.{Incoming}
use Rattle.pgquery.specs.RowLines.{byte_between}
use Rattle.pgquery.specs.Talks.{SendsMessages, Talks, UpToReady}
use Rattle.pgquery.specs.declared.connection.Connection.{Connection}

-- ---- the line of a row

-- null as `\N`, and else the bytes in hex
abbrev pub in_hex : Part → List ℕ
in_hex None = codes "\\N"
in_hex (Some bytes) = encode_lower bytes

abbrev pub field_in_hex : Option Given → List ℕ
field_in_hex None = []
field_in_hex (Some value) = in_hex value.bytes

-- the first n fields, a tab between two
abbrev pub fields_in_hex : List Given → ℕ → List ℕ
fields_in_hex row zero = []
fields_in_hex row (suc n) = fields_in_hex row n ++ (byte_between 9 n ++ field_in_hex (slice_get row n))

abbrev pub copied_line : List Given → List ℕ
copied_line row = fields_in_hex row (length row) ++ 10 ∷ []

-- ---- the rows of a piece

-- A reader of pieces reads these rows, one after another.
abbrev pub ReadsPieces : Pieces → List (List Given) → Pieces → Type 0
ReadsPieces reader [] after = after ≡ reader
ReadsPieces reader (row ∷ rows) after = (next : Pieces) × Advances reader (Ok Row) next × (next.row ≡ Some row) × ReadsPieces next rows after

-- This text is the lines of the rows that a reader reads once a piece has come, up to where no other is there.
abbrev pub ShowsPiece : List ℕ → Pieces → Pieces → List ℕ → Type 0
ShowsPiece piece reader after text =
    (rows : List (List Given)) × (last : Pieces) × (found : PgCopyNext) ×
    ReadsPieces (with_more reader piece) rows last × (found ≢ Row) × Advances last (Ok found) after × (text ≡ flat_map copied_line rows)

-- ---- answers

-- a reader for the columns that a CopyOutResponse names, of whose types nothing is known
abbrev pub OpensCopy : List ℕ → Pieces → Type 0
OpensCopy body reader =
    (columns : List PgValueFormat) × ((copy_formats body).answer ≡ Ok (Binary, columns)) × (reader ≡ nothing_came (replicate (length columns) (by_oid 0)))

-- What an answer does to the reader, and which text it shows: CopyOutResponse, whose tag is `H`, makes the reader, and
-- a CopyData, whose tag is `d`, is a piece.
abbrev pub CopiesBy : Bool → Bool → List ℕ → Pieces → Pieces → List ℕ → Type 0
CopiesBy true is_data body reader after text = OpensCopy body after × (text ≡ [])
CopiesBy false true body reader after text = ShowsPiece body reader after text
CopiesBy false false body reader after text = (after ≡ reader) × (text ≡ [])

abbrev pub CopiesAnswer : ℕ → List ℕ → Pieces → Pieces → List ℕ → Type 0
CopiesAnswer tag body reader after text = CopiesBy (tag == upper_h) (tag == lower_d) body reader after text

-- This text is the lines of the rows that come in answers, in order.
abbrev pub CopiesAnswers : Pieces → List Incoming → Pieces → List ℕ → Type 0
CopiesAnswers reader [] after text = (after ≡ reader) × (text ≡ [])
CopiesAnswers reader (m ∷ ms) after text =
    (next : Pieces) × (lines : List ℕ) × (rest : List ℕ) × (text ≡ lines ++ rest) × CopiesAnswer m.tag m.body reader next lines × CopiesAnswers next ms after rest

-- The rows that came up to the message that says that the server is ready are this text.
pub record ShowsCopy {R W : Type 0} (remaining : R → Option (List ℕ)) (contents : W → Option (List ℕ)) (old new : Connection R W) (text : List ℕ) : Type 0 where
  pub answers : List Incoming
  pub after : Pieces
  pub ready : UpToReady answers
  pub talks : Talks remaining contents old new [] answers
  pub copies : CopiesAnswers (nothing_came []) answers after text

-- The statement was sent, and this text is the rows that came of it.
abbrev pub RunsCopy : {R W : Type 0} → (R → Option (List ℕ)) → (W → Option (List ℕ)) → List ℕ → Connection R W → Connection R W → List ℕ → Type 0
RunsCopy {R} {W} remaining contents sql old new text =
    (asked : Connection R W) × SendsMessages remaining contents (query sql) old asked × ShowsCopy remaining contents asked new text

-- bytes to which a text of which this holds was appended
abbrev pub Grows : List ℕ → List ℕ → (List ℕ → Type 0) → Type 0
Grows old new Is = (text : List ℕ) × Is text × (new ≡ old ++ text)
