-- A record that is being written (PostgreSQL: "Composite Types"; its binary form is that of record_send).
use Rattle.std.specs.Prelude.{◌≡◌, ℕ, ◌+◌, List, [], ◌++◌, length, drop, Result, Ok, Err, ⊤}
use Rattle.pgv_buf.specs.declared.Mark.{Mark}
use Rattle.pgv_buf.specs.Tokens.{Token, Cell, bytes, be4, blank, plain}
use Rattle.pgv_buf.specs.Marks.{mark_of}
use Rattle.pgv_value.specs.Outcome.{Outcome, Fails}
use Rattle.pgv_value.specs.declared.error.CodecError.{CodecError}
use Rattle.pgv_codec.specs.Encoding.{fields_from}
use Rattle.pgv_codec.specs.TokenLemmas.{front_of, cells_after}

-- what stood before it, how many fields it has, and these
pub record RecordWriting : Type 0 where
  pub before : List Cell
  pub count : ℕ
  pub fields : List Token

unfoldable pub writing_at : Mark → ℕ → List Cell → RecordWriting
writing_at m n ts = record { before = front_of m.bytes m.holes m.slots ts; count = n; fields = drop 4 (plain (cells_after m.bytes m.holes m.slots ts)) }

abbrev pub begun : List Cell → RecordWriting
begun was = record { before = was; count = 0; fields = [] }

abbrev pub with_field : RecordWriting → List Token → RecordWriting
with_field w f = record { before = w.before; count = w.count + 1; fields = w.fields ++ f }

-- the buffer then
abbrev pub so_far : RecordWriting → List Cell
so_far w = w.before ++ blank (bytes (be4 w.count) ++ w.fields)

-- fields more
abbrev pub with_fields : RecordWriting → ℕ → List Token → RecordWriting
with_fields w n ts = record { before = w.before; count = w.count + n; fields = w.fields ++ ts }

-- one more field
abbrev pub AddsField : Outcome (List Token) → RecordWriting → RecordWriting → Type 0
AddsField f was now = (ts : List Token) × (f.answer ≡ Ok ts) × (now ≡ with_field was ts)

-- so it is, or it is refused as stated
abbrev pub WritesField : Outcome (List Token) → RecordWriting → RecordWriting → Result ⊤ CodecError → Type 0
WritesField f was now (Ok done) = AddsField f was now
WritesField f was now (Err e) = Fails e f

-- this many fields more, one after another, or one is refused
abbrev pub WritesFields : List (Outcome (List Token)) → RecordWriting → RecordWriting → Result ⊤ CodecError → Type 0
WritesFields fs was now (Ok done) = (ts : List Token) × ((fields_from was.count fs).answer ≡ Ok ts) × (now ≡ with_fields was (length fs) ts)
WritesFields fs was now (Err e) = Fails e (fields_from was.count fs)

abbrev pub IsOpen : Mark → ℕ → List Cell → Type 0
IsOpen m n ts = (m ≡ mark_of (writing_at m n ts).before) × (ts ≡ so_far (writing_at m n ts))
