-- Messages of a frontend (PostgreSQL: "Message Formats"), each as the bytes that are sent, or why they are not.
use Rattle.std.specs.Prelude.{ℕ, codes, List, [], ◌∷◌, length, flat_map}
use Rattle.std.specs.Int.{w16, w32, to_be_bytes}
use Rattle.pgv_characters.specs.Characters.{upper_c, upper_d, upper_p, upper_q, upper_s, lower_f}
use Rattle.pgv_types.specs.declared.oid.Oid.{Oid}
use Rattle.pgv_buf.specs.Tokens.{shown}
use Rattle.pgv_value.specs.declared.value.PgValueFormat.{PgValueFormat}
use Rattle.pgv_wire.specs.Arguments.{Argument, all_cells}
use Rattle.pgv_message.specs.declared.describe.Prepared.{Prepared}
use Rattle.pgv_message.specs.declared.describe.Prepared.TheVariants.{Statement, Portal}
use Rattle.pgv_message.specs.Pieces.{format_bytes, oid_bytes}
use Rattle.pgv_copy.specs.CopyPieces.{joined}
use Rattle.pgv_message.specs.MessageWriting.{Writing, ◌>>=◌, ended_text, count_of, whole_message}

-- Bind, `B`: the portal, the statement, one format for all parameters, which is binary, the number of parameters and a
-- frame for each, and the number of formats of the result's columns and these: none where all are text, one for all, or
-- one for each.
unfoldable pub bind : List ℕ → List ℕ → List Argument → List PgValueFormat → Writing (List ℕ)
bind portal statement arguments results = do
  portal_name ← ended_text portal
  statement_name ← ended_text statement
  parameters ← count_of (length arguments)
  formats ← count_of (length results)
  whole_message (codes "B") (joined (portal_name ∷ statement_name ∷ to_be_bytes w16 1 ∷ to_be_bytes w16 1 ∷ parameters ∷ shown (all_cells arguments) ∷ formats ∷ flat_map format_bytes results ∷ []))

-- Parse, `P`: the statement's name, the query, the number of parameters whose types are given, and their OIDs, 0 where
-- the server is to find one.
unfoldable pub parse_message : List ℕ → List ℕ → List Oid → Writing (List ℕ)
parse_message statement query oids = do
  name ← ended_text statement
  sql ← ended_text query
  types ← count_of (length oids)
  whole_message (codes "P") (joined (name ∷ sql ∷ types ∷ flat_map oid_bytes oids ∷ []))

-- `S` a statement, `P` a portal
abbrev pub kind_byte : Prepared → ℕ
kind_byte Statement = upper_s
kind_byte Portal = upper_p

-- a message about a statement or a portal
unfoldable pub about : ℕ → Prepared → List ℕ → Writing (List ℕ)
about tag kind name = do
  bytes ← ended_text name
  whole_message (tag ∷ []) (joined ((kind_byte kind ∷ []) ∷ bytes ∷ []))

-- Describe, `D`, and Close, `C`, of a statement or of a portal
abbrev pub describe : Prepared → List ℕ → Writing (List ℕ)
describe = about upper_d

abbrev pub close : Prepared → List ℕ → Writing (List ℕ)
close = about upper_c

-- Execute, `E`: the portal, and the number of rows after which it stops, 0 for all
unfoldable pub execute : List ℕ → ℕ → Writing (List ℕ)
execute portal rows = do
  name ← ended_text portal
  whole_message (codes "E") (joined (name ∷ to_be_bytes w32 rows ∷ []))

-- a message whose body is one text
unfoldable pub one_text : ℕ → List ℕ → Writing (List ℕ)
one_text tag bytes = do
  ended ← ended_text bytes
  whole_message (tag ∷ []) (joined (ended ∷ []))

-- Query, `Q`, and CopyFail, `f`, with the reason
abbrev pub query : List ℕ → Writing (List ℕ)
query = one_text upper_q

abbrev pub copy_fail : List ℕ → Writing (List ℕ)
copy_fail = one_text lower_f

-- CopyData, `d`: bytes of a COPY stream, cut anywhere
abbrev pub copy_data : List ℕ → Writing (List ℕ)
copy_data bytes = whole_message (codes "d") bytes

-- a message without a body: CopyDone, `c`; Flush, `H`; Sync, `S`; Terminate, `X`
abbrev pub bare_message : ℕ → Writing (List ℕ)
bare_message tag = whole_message (tag ∷ []) []
