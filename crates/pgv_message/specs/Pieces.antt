-- The bytes of the pieces that a message is made of.
use Rattle.std.specs.Prelude.{ℕ, List, [], ◌∷◌, flat_map}
use Rattle.std.specs.Int.{w16, w32, to_be_bytes}
use Rattle.pgv_types.specs.declared.oid.Oid.{Oid}
use Rattle.pgv_value.specs.declared.value.PgValueFormat.{PgValueFormat}
use Rattle.pgv_value.specs.declared.value.PgValueFormat.TheVariants.{Text, Binary}
use Rattle.pgv_message.specs.declared.pieces.Piece.{Piece}
use Rattle.pgv_message.specs.declared.pieces.Piece.TheVariants as piece
use Rattle.pgv_message.specs.MessageWriting.{text}

-- a format in two bytes: 0 for text, 1 for binary
abbrev pub format_bytes : PgValueFormat → List ℕ
format_bytes Text = 0 ∷ 0 ∷ []
format_bytes Binary = 0 ∷ 1 ∷ []

abbrev pub format_codes : List PgValueFormat → List ℕ
format_codes = flat_map format_bytes

-- an OID in four bytes
abbrev pub oid_bytes : Oid → List ℕ
oid_bytes o = to_be_bytes w32 o.0

abbrev pub piece_bytes : Piece → List ℕ
piece_bytes (piece.Byte b) = b ∷ []
piece_bytes (piece.Count n) = to_be_bytes w16 n
piece_bytes (piece.Number n) = to_be_bytes w32 n
piece_bytes (piece.Text s) = text s.now
piece_bytes (piece.Bytes bytes) = bytes.now
piece_bytes (piece.Oids oids) = flat_map oid_bytes oids.now
piece_bytes (piece.Formats formats) = flat_map format_bytes formats.now

-- pieces one after another
abbrev pub joined_pieces : List Piece → List ℕ
joined_pieces = flat_map piece_bytes
