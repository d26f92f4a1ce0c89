-- The tree that a running type stands for.
use Rattle.std.specs.Prelude.{◌≡◌, ℕ, List, [], ◌∷◌, map}
use Rattle.std.specs.Rc.{rc_str_bytes, rc_slice_items}
use Rattle.std.specs.declared.rc.RcStr.{RcStr}
use Rattle.std.specs.declared.alloc.Global.{Global}
use Rattle.pgv_types.specs.Ty.{Ty, builtin, custom, named, by_oid, array_of, Kind, simple, pseudo, domain, composite, array, enumeration, range, Fields, no_fields, field}
use Rattle.pgv_types.specs.declared.custom.PgCustomType.{PgCustomType}
use Rattle.pgv_types.specs.declared.custom.PgArrayOf.{PgArrayOf}
use Rattle.pgv_types.specs.declared.type_info.PgTypeInfo.TheInside.{Inside}
use Rattle.pgv_types.specs.declared.builtin.PgBuiltIn.{PgBuiltIn}
use Rattle.pgv_types.specs.declared.builtin.PgBuiltIn.TheVariants.{Bool, BoolArray, Bytea, ByteaArray, Char, CharArray, Name, NameArray, Int8, Int8Array, Int2, Int2Array, Int4, Int4Array, Text, TextArray, Oid, OidArray, Json, JsonArray, Point, PointArray, Lseg, LsegArray, Path, PathArray, Box, BoxArray, Polygon, PolygonArray, Line, LineArray, Cidr, CidrArray, Float4, Float4Array, Float8, Float8Array, Unknown, Circle, CircleArray, Macaddr8, Macaddr8Array, Money, MoneyArray, Macaddr, MacaddrArray, Inet, InetArray, Bpchar, BpcharArray, Varchar, VarcharArray, Date, DateArray, Time, TimeArray, Timestamp, TimestampArray, Timestamptz, TimestamptzArray, Interval, IntervalArray, Timetz, TimetzArray, Bit, BitArray, Varbit, VarbitArray, Numeric, NumericArray, Record, RecordArray, Void, Uuid, UuidArray, Jsonb, JsonbArray, Int4Range, Int4RangeArray, NumRange, NumRangeArray, TsRange, TsRangeArray, TstzRange, TstzRangeArray, DateRange, DateRangeArray, Int8Range, Int8RangeArray, Jsonpath, JsonpathArray}
use Rattle.pgv_types.specs.declared.type_info.PgType.{PgType}
use Rattle.pgv_types.specs.declared.type_info.PgType.TheVariants.{BuiltIn, Custom, DeclareWithName, DeclareWithOid, DeclareArrayOf}
use Rattle.pgv_types.specs.declared.kind.PgTypeKind.{PgTypeKind}
use Rattle.pgv_types.specs.declared.kind.PgTypeKind.TheVariants.{Simple, Pseudo, Domain, Composite, Array, Enum, Range}

abbrev pub fields_of : List (RcStr Global × Ty) → Fields
fields_of [] = no_fields
fields_of (x ∷ xs) = field (rc_str_bytes x.0) x.1 (fields_of xs)

abbrev pub kind_of : PgTypeKind → Kind
kind_of Simple = simple
kind_of Pseudo = pseudo
kind_of (Domain t) = domain t
kind_of (Composite fs) = composite (fields_of fs.items)
kind_of (Array t) = array t
kind_of (Enum labels) = enumeration (map rc_str_bytes (rc_slice_items labels))
kind_of (Range t) = range t

-- how the server describes a custom type
abbrev pub custom_oid : PgCustomType → ℕ
custom_oid c = c.oid.0

abbrev pub custom_name : PgCustomType → List ℕ
custom_name c = rc_str_bytes c.name

abbrev pub custom_kind : PgCustomType → Kind
custom_kind c = kind_of c.kind

abbrev pub IsSameCustom : PgCustomType → PgCustomType → Type 0
IsSameCustom c copy = (custom_oid copy ≡ custom_oid c) × (custom_name copy ≡ custom_name c) × (custom_kind copy ≡ custom_kind c)

abbrev pub element_name_of : PgArrayOf → List ℕ
element_name_of a = a.elem_name

-- the OID of a built-in type
abbrev pub oid_of_variant : PgBuiltIn → ℕ
oid_of_variant Bool = 16
oid_of_variant BoolArray = 1000
oid_of_variant Bytea = 17
oid_of_variant ByteaArray = 1001
oid_of_variant Char = 18
oid_of_variant CharArray = 1002
oid_of_variant Name = 19
oid_of_variant NameArray = 1003
oid_of_variant Int8 = 20
oid_of_variant Int8Array = 1016
oid_of_variant Int2 = 21
oid_of_variant Int2Array = 1005
oid_of_variant Int4 = 23
oid_of_variant Int4Array = 1007
oid_of_variant Text = 25
oid_of_variant TextArray = 1009
oid_of_variant Oid = 26
oid_of_variant OidArray = 1028
oid_of_variant Json = 114
oid_of_variant JsonArray = 199
oid_of_variant Point = 600
oid_of_variant PointArray = 1017
oid_of_variant Lseg = 601
oid_of_variant LsegArray = 1018
oid_of_variant Path = 602
oid_of_variant PathArray = 1019
oid_of_variant Box = 603
oid_of_variant BoxArray = 1020
oid_of_variant Polygon = 604
oid_of_variant PolygonArray = 1027
oid_of_variant Line = 628
oid_of_variant LineArray = 629
oid_of_variant Cidr = 650
oid_of_variant CidrArray = 651
oid_of_variant Float4 = 700
oid_of_variant Float4Array = 1021
oid_of_variant Float8 = 701
oid_of_variant Float8Array = 1022
oid_of_variant Unknown = 705
oid_of_variant Circle = 718
oid_of_variant CircleArray = 719
oid_of_variant Macaddr8 = 774
oid_of_variant Macaddr8Array = 775
oid_of_variant Money = 790
oid_of_variant MoneyArray = 791
oid_of_variant Macaddr = 829
oid_of_variant MacaddrArray = 1040
oid_of_variant Inet = 869
oid_of_variant InetArray = 1041
oid_of_variant Bpchar = 1042
oid_of_variant BpcharArray = 1014
oid_of_variant Varchar = 1043
oid_of_variant VarcharArray = 1015
oid_of_variant Date = 1082
oid_of_variant DateArray = 1182
oid_of_variant Time = 1083
oid_of_variant TimeArray = 1183
oid_of_variant Timestamp = 1114
oid_of_variant TimestampArray = 1115
oid_of_variant Timestamptz = 1184
oid_of_variant TimestamptzArray = 1185
oid_of_variant Interval = 1186
oid_of_variant IntervalArray = 1187
oid_of_variant Timetz = 1266
oid_of_variant TimetzArray = 1270
oid_of_variant Bit = 1560
oid_of_variant BitArray = 1561
oid_of_variant Varbit = 1562
oid_of_variant VarbitArray = 1563
oid_of_variant Numeric = 1700
oid_of_variant NumericArray = 1231
oid_of_variant Record = 2249
oid_of_variant RecordArray = 2287
oid_of_variant Void = 2278
oid_of_variant Uuid = 2950
oid_of_variant UuidArray = 2951
oid_of_variant Jsonb = 3802
oid_of_variant JsonbArray = 3807
oid_of_variant Int4Range = 3904
oid_of_variant Int4RangeArray = 3905
oid_of_variant NumRange = 3906
oid_of_variant NumRangeArray = 3907
oid_of_variant TsRange = 3908
oid_of_variant TsRangeArray = 3909
oid_of_variant TstzRange = 3910
oid_of_variant TstzRangeArray = 3911
oid_of_variant DateRange = 3912
oid_of_variant DateRangeArray = 3913
oid_of_variant Int8Range = 3926
oid_of_variant Int8RangeArray = 3927
oid_of_variant Jsonpath = 4072
oid_of_variant JsonpathArray = 4073

abbrev pub type_of : PgType → Ty
type_of (BuiltIn known) = builtin (oid_of_variant known)
type_of (Custom c) = custom (custom_oid c.value) (custom_name c.value) (custom_kind c.value)
type_of (DeclareWithName n) = named n
type_of (DeclareWithOid o) = by_oid o.0
type_of (DeclareArrayOf a) = array_of (element_name_of a)

abbrev pub type_view : Inside → Ty
type_view a = type_of a.0
