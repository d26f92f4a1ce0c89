-- The TYPEs of the lines, one table of the names that there are: for each its type, what is read under it, what is
-- written, and which refusal is answered, apart from out of memory, if a value is not read, or is read and has no
-- frame. A name that is not in the table is answered as a line that asks for nothing.
use Rattle.std.specs.Prelude.{ℕ, codes, bytes_eq, List, [], ◌∷◌, map, Option, Some, None, option_map, if◌then◌else◌}
use Rattle.std.specs.Int.{w8, w16, w32, w64}
use Rattle.pgv_types.specs.Ty.{Ty, builtin, named}
use Rattle.pgv_value.specs.ScalarGrammar.{parse_bool, parse_int, parse_char, parse_oid, parse_uuid}
use Rattle.pgv_value.specs.Text.{parse_text}
use Rattle.pgv_value.specs.DateTimeBinary.{parse_date, parse_time, parse_date_time, parse_instant}
use Rattle.pgv_value.specs.Interval.{parse_interval}
use Rattle.pgv_value.specs.NetworkBinary.{parse_network}
use Rattle.pgv_value.specs.Outcome.{Outcome, ok_of, why_of, without_memory, reading_of, error_of}
use Rattle.pgv_value.specs.ValueView.{Given}
use Rattle.pgv_value.specs.declared.error.CodecError.{CodecError}
use Rattle.pgv_value.specs.declared.value.PgValueFormat.{PgValueFormat}
use Rattle.pgv_wire.specs.Arguments.{Framed}
use Rattle.pgv_codec.specs.ArrayGrammar.{parse_array}
use Rattle.pgv_codec.specs.Encoding.{Encoding, Image, array_image, frame, option_encoding, plainly, value_type, with_hint, writes}
use Rattle.pgv_codec.specs.DateTimeImage.{date_image, time_image, moment_image}
use Rattle.pgv_codec.specs.Intervals.{interval_image}
use Rattle.pgv_codec.specs.NetworkImage.{network_image, network_hint}
use Rattle.pgv_codec.specs.Nullable.{nullable}
use Rattle.pgv_codec.specs.ScalarImage.{bool_image, signed_image, unsigned_image, text_image, uuid_image}
use Rattle.pgv_ltree.specs.TreesCodec.{ltree, ltree_array, parse_tree, tree_image}
use Rattle.pgv_ltree.specs.QueryCodec.{lquery, parse_query, query_image}
use Rattle.pgv_more.specs.Hstore.{hstore_image, parse_hstore}
use Rattle.pgv_more.specs.BitsBinary.{bits_image, bits_hint}
use Rattle.pgv_more.specs.BitsCodec.{parse_bits}
use Rattle.pgv_more.specs.ByteaText.{parse_bytea}
use Rattle.pgv_more.specs.MacAddressCodec.{mac_image, parse_mac}
use Rattle.pgv_more.specs.TimeTzCodec.{time_tz_image, parse_time_tz}
use Rattle.pgv_more.specs.MoneyCodec.{parse_money}
use Rattle.pgv_more.specs.Numeric.{numeric_image, parse_numeric}
use Rattle.pgv_range.specs.RangeGrammar.{parse_range}
use Rattle.pgv_range.specs.RangeSaying.{range_written}
use Rattle.pgv_session.specs.declared.type_name.TypeName.{TypeName}
use Rattle.pgv_session.specs.declared.type_name.TypeName.TheVariants.{Bool, Char, Int2, Int4, Int8, Oid, Text, Uuid, Date, Time, Timestamp, Timestamptz, Timetz, Interval, Varbit, Inet, Macaddr, Bytea, Citext, Money, Numeric, Hstore, Int4Range, Int8Range, DateRange, Ltree, Lquery, Int4Array, TextArray, DateArray, LtreeArray}

-- what is added of a value: its type and its frame, where it has one
abbrev pub framed_as : Ty → Encoding → Option Framed
framed_as info e = option_map (λ ts. (value_type info e, ts)) (ok_of (frame e).answer)

-- what is added of a meaning that was read, if any
abbrev pub framed_by : {M : Type 0} → Ty → (Ty → M → Encoding) → Option M → Option Framed
framed_by info written None = None
framed_by info written (Some m) = framed_as info (written info m)

-- which refusal is answered of it: where nothing was read, what the type says of what it was given, and else what its
-- frame is refused with
abbrev pub refused_by : {M : Type 0} → Ty → (Ty → M → Encoding) → Option CodecError → Option M → Option CodecError
refused_by info written unread None = unread
refused_by info written unread (Some m) = why_of (frame (written info m)).answer

-- a TYPE: its type, what is added for the value that a text or bytes are under it, and where there is none, which
-- refusal is answered, if the type states it
pub record LineType : Type 0 where
  pub info : Ty
  pub value : PgValueFormat → Option (List ℕ) → Option Framed
  pub refusal : PgValueFormat → Option (List ℕ) → Option CodecError

-- values that are read and written so
abbrev pub line_type : {M : Type 0} → Ty → (Given → Outcome M) → (Ty → M → Encoding) → LineType
line_type info parse written = record {
  info = info;
  value = λ f part. framed_by info written (reading_of parse info f part);
  refusal = λ f part. refused_by info written (error_of parse info f part) (reading_of parse info f part);
}

-- values that are written as an image, of which nothing else is stated
abbrev pub by_image : {M : Type 0} → (M → ℕ) → (M → Option Image) → Ty → M → Encoding
by_image hint image info m = with_hint (hint m) (writes (image m))

-- lists of such values, which may be null, of elements of this type
abbrev pub list_row : {M : Type 0} → Ty → Ty → (Given → Outcome M) → (Ty → M → Encoding) → LineType
list_row info element parse written =
    line_type info (parse_array element (nullable parse)) (λ _ ms. plainly (array_image element (map (option_encoding element (written element)) ms)))

-- ranges of such values
abbrev pub range_row : {M : Type 0} → Ty → Ty → (Given → Outcome M) → (Ty → M → Encoding) → LineType
range_row info element parse written = line_type info (parse_range element parse) (λ _ m. range_written (written element) m)

-- the rows of the TYPEs
abbrev pub row_of : TypeName → LineType
row_of Bool = line_type (builtin 16) (without_memory parse_bool) (by_image (λ _. 0) bool_image)
row_of Char = line_type (builtin 18) (without_memory parse_char) (by_image (λ _. 0) (signed_image w8))
row_of Int2 = line_type (builtin 21) (without_memory (parse_int w16)) (by_image (λ _. 0) (signed_image w16))
row_of Int4 = line_type (builtin 23) (without_memory (parse_int w32)) (by_image (λ _. 0) (signed_image w32))
row_of Int8 = line_type (builtin 20) (without_memory (parse_int w64)) (by_image (λ _. 0) (signed_image w64))
row_of Oid = line_type (builtin 26) (without_memory parse_oid) (by_image (λ _. 0) (unsigned_image w32))
row_of Text = line_type (builtin 25) parse_text (by_image (λ _. 0) text_image)
row_of Uuid = line_type (builtin 2950) (without_memory parse_uuid) (by_image (λ _. 0) uuid_image)
row_of Date = line_type (builtin 1082) (without_memory parse_date) (by_image (λ _. 4) date_image)
row_of Time = line_type (builtin 1083) (without_memory parse_time) (by_image (λ _. 8) time_image)
row_of Timestamp = line_type (builtin 1114) (without_memory parse_date_time) (by_image (λ _. 8) moment_image)
row_of Timestamptz = line_type (builtin 1184) (without_memory parse_instant) (by_image (λ _. 8) moment_image)
row_of Timetz = line_type (builtin 1266) (without_memory parse_time_tz) (λ _ m. with_hint 12 (time_tz_image m))
row_of Interval = line_type (builtin 1186) (without_memory parse_interval) (by_image (λ _. 16) interval_image)
row_of Varbit = line_type (builtin 1562) parse_bits (λ _ m. with_hint (bits_hint m) (bits_image m))
row_of Inet = line_type (builtin 869) (without_memory parse_network) (by_image network_hint network_image)
row_of Macaddr = line_type (builtin 829) (without_memory parse_mac) (by_image (λ _. 6) mac_image)
row_of Bytea = line_type (builtin 17) parse_bytea (by_image (λ _. 0) text_image)
row_of Citext = line_type (named (codes "citext")) parse_text (by_image (λ _. 0) text_image)
row_of Money = line_type (builtin 790) (without_memory parse_money) (by_image (λ _. 0) (signed_image w64))
row_of Numeric = line_type (builtin 1700) parse_numeric (λ _ m. plainly (numeric_image m))
row_of Hstore = line_type (named (codes "hstore")) parse_hstore (λ _ ps. plainly (hstore_image ps))
row_of Int4Range = range_row (builtin 3904) (builtin 23) (without_memory (parse_int w32)) (by_image (λ _. 0) (signed_image w32))
row_of Int8Range = range_row (builtin 3926) (builtin 20) (without_memory (parse_int w64)) (by_image (λ _. 0) (signed_image w64))
row_of DateRange = range_row (builtin 3912) (builtin 1082) (without_memory parse_date) (by_image (λ _. 4) date_image)
row_of Ltree = line_type ltree parse_tree (by_image (λ _. 0) tree_image)
row_of Lquery = line_type lquery parse_query (by_image (λ _. 0) query_image)
row_of Int4Array = list_row (builtin 1007) (builtin 23) (without_memory (parse_int w32)) (by_image (λ _. 0) (signed_image w32))
row_of TextArray = list_row (builtin 1009) (builtin 25) parse_text (by_image (λ _. 0) text_image)
row_of DateArray = list_row (builtin 1182) (builtin 1082) (without_memory parse_date) (by_image (λ _. 4) date_image)
row_of LtreeArray = list_row ltree_array ltree parse_tree (by_image (λ _. 0) tree_image)

-- the rows by their names
abbrev pub types : List (List ℕ × LineType)
types =
    (codes "bool", row_of Bool) ∷
    (codes "char", row_of Char) ∷
    (codes "int2", row_of Int2) ∷
    (codes "int4", row_of Int4) ∷
    (codes "int8", row_of Int8) ∷
    (codes "oid", row_of Oid) ∷
    (codes "text", row_of Text) ∷
    (codes "uuid", row_of Uuid) ∷
    (codes "date", row_of Date) ∷
    (codes "time", row_of Time) ∷
    (codes "timestamp", row_of Timestamp) ∷
    (codes "timestamptz", row_of Timestamptz) ∷
    (codes "timetz", row_of Timetz) ∷
    (codes "interval", row_of Interval) ∷
    (codes "varbit", row_of Varbit) ∷
    (codes "inet", row_of Inet) ∷
    (codes "macaddr", row_of Macaddr) ∷
    (codes "bytea", row_of Bytea) ∷
    (codes "citext", row_of Citext) ∷
    (codes "money", row_of Money) ∷
    (codes "numeric", row_of Numeric) ∷
    (codes "hstore", row_of Hstore) ∷
    (codes "int4range", row_of Int4Range) ∷
    (codes "int8range", row_of Int8Range) ∷
    (codes "daterange", row_of DateRange) ∷
    (codes "ltree", row_of Ltree) ∷
    (codes "lquery", row_of Lquery) ∷
    (codes "int4[]", row_of Int4Array) ∷
    (codes "text[]", row_of TextArray) ∷
    (codes "date[]", row_of DateArray) ∷
    (codes "ltree[]", row_of LtreeArray) ∷
    []

-- the row of a name, where it has one
abbrev pub row_named : List (List ℕ × LineType) → List ℕ → Option LineType
row_named [] name = None
row_named (t ∷ ts) name = if bytes_eq name t.0 then Some t.1 else row_named ts name
