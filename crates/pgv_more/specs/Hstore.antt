-- Maps of texts (PostgreSQL: appendix F, hstore; the binary form is that of its source, hstore_send): the number of
-- pairs, and for each the frame of its key and that of its value, which may be null. A map is seen as its pairs in the
-- order of the keys' bytes. Written: for each pair the length and the bytes of its key and of its value, where the
-- length -1 is null. There is no image where a number is above 2147483647: the first such says why (C9). Read in binary
-- alone: a number that isn't negative, that many pairs, each a key that isn't null and a value or null, all UTF-8, and
-- anything after them. The pairs are put into the map in turn, so that a later one of a key wins. The first number, key
-- or value that can't be read says why: bytes that end too early are C15, a negative number of pairs C9, a negative
-- length C16, a key that is null C35, and a text that isn't UTF-8 C14. Memory is asked for only after the first key was
-- there.
use Rattle.std.specs.Prelude.{ℕ, zero, suc, nat_le, nat_lt, ◌&&◌, Bool, true, false, List, [], ◌∷◌, ◌++◌, length, map, Option, Some, None, Ok, Err, option_map, if◌then◌else◌, string_bytes, ⊤}
use Rattle.std.specs.declared.cmp.Ordering.{Ordering}
use Rattle.std.specs.declared.alloc.Global.{Global}
use Rattle.std.specs.declared.string.String.{String}
use Rattle.std.specs.Cmp.Lexicographic.{slice_cmp}
use Rattle.std.specs.Int.{w32, w64, cast_signed}
use Rattle.std.specs.FinMap.{is_sorted, put}
use Rattle.std.specs.List.{flat_map}
use Rattle.std.specs.Ordering.{nat_cmp}
use Rattle.pgv_buf.specs.Tokens.{Token, bytes, be4}
use Rattle.pgv_codec.specs.Encoding.{Image, image_of}
use Rattle.pgv_value.specs.Formats.{in_binary_alone}
use Rattle.pgv_value.specs.FrameBinary.{Part, max_length, null_length}
use Rattle.pgv_value.specs.Fronts.{one_part, u32_at}
use Rattle.pgv_value.specs.Parsed.{Parsed}
use Rattle.pgv_value.specs.Outcome.{Outcome, done, fails, in_place, fails_if, allocates, ◌>>=◌, ◌>>◌}
use Rattle.pgv_value.specs.Text.{is_utf8}
use Rattle.pgv_value.specs.ValueView.{Given}
use Rattle.pgv_value.specs.declared.error.CodecError.TheVariants.{HstoreLength, HstoreNullKey, Utf8}
use Rattle.pgv_more.specs.declared.hstore.PgHstore.{PgHstore}

-- a key, and a value or null
abbrev pub Pair : Type 0
Pair = List ℕ × Part

-- an entry of a map
abbrev pub MapEntry : Type 0
MapEntry = String Global × Option (String Global)

-- the bytes of an entry
abbrev pub pair_of : {Z : Type 0} → String Z × Option (String Z) → Pair
pair_of e = (string_bytes e.0, option_map string_bytes e.1)

-- the bytes of a key and of a value that isn't null
abbrev pub text_pair_of : {Z : Type 0} → String Z × String Z → Pair
text_pair_of e = (string_bytes e.0, Some (string_bytes e.1))

abbrev pub pairs_of : PgHstore → List Pair
pairs_of h = map pair_of h.0.entries

-- keys go in the order of their bytes
abbrev pub order : List ℕ → List ℕ → Ordering
order = slice_cmp nat_cmp

-- ---- written

-- a length and the bytes, or the length -1
abbrev pub part_form : Part → List ℕ
part_form None = be4 null_length
part_form (Some part) = be4 (length part) ++ part

abbrev pub pair_form : Pair → List ℕ
pair_form p = part_form (Some p.0) ++ part_form p.1

abbrev pub hstore_form : List Pair → List ℕ
hstore_form ps = be4 (length ps) ++ flat_map pair_form ps

-- whether the length has room in a frame
abbrev pub part_fits : Part → Bool
part_fits None = true
part_fits (Some part) = nat_le (length part) max_length

abbrev pub pair_fits : Pair → Bool
pair_fits p = part_fits (Some p.0) && part_fits p.1

-- a number of pairs or a length in four bytes, where it has room (C9)
unfoldable pub size_form : ℕ → Parsed (List ℕ)
size_form n = if nat_lt max_length n then Err (HstoreLength (cast_signed w64 n)) else Ok (be4 n)

-- a key or a value, a pair, and pairs one after another
unfoldable pub part_written : Part → Outcome (List Token)
part_written None = allocates true >> done (bytes (be4 null_length))
part_written (Some part) = do
  number ← in_place (size_form (length part))
  allocates true
  done (bytes (number ++ part))

unfoldable pub pair_written : Pair → Outcome (List Token)
pair_written p = do
  key ← part_written (Some p.0)
  value ← part_written p.1
  done (key ++ value)

unfoldable pub pairs_written : List Pair → Outcome (List Token)
pairs_written [] = done []
pairs_written (p ∷ ps) = do
  first ← pair_written p
  others ← pairs_written ps
  done (first ++ others)

-- a list of pairs in another order than that of their keys is no map
abbrev pub in_order : List Pair → Outcome ⊤
in_order ps = record { answer = if is_sorted order ps then Ok tt else Err None; may_alloc = false }

-- the number of pairs, and the pairs in the order of their keys
unfoldable pub hstore_image : List Pair → Outcome Image
hstore_image ps = do
  number ← in_place (size_form (length ps))
  allocates true
  all ← pairs_written ps
  in_order ps
  done (image_of (bytes number ++ all))

-- ---- read

-- a text is UTF-8 (C14), and is copied
abbrev pub text_at : List ℕ → Outcome (List ℕ)
text_at form = do
  text ← in_place (if is_utf8 form then Ok form else Err Utf8)
  allocates true
  done text

-- a key is never null (C35)
abbrev pub as_key : Part → Outcome (List ℕ)
as_key None = fails HstoreNullKey
as_key (Some key) = text_at key

-- null is a value, and asks for no memory
abbrev pub as_value : Part → Outcome Part
as_value None = done None
as_value (Some value) = text_at value >>= λ text. done (Some text)

-- the key in front, and the rest
abbrev pub key_at : List ℕ → Outcome (List ℕ × List ℕ)
key_at form = do
  part ← one_part form
  key ← as_key part.0
  done (key, part.1)

-- the value in front, and the rest
abbrev pub map_value : List ℕ → Outcome (Part × List ℕ)
map_value form = do
  part ← one_part form
  value ← as_value part.0
  done (value, part.1)

-- n pairs in the order in which they are; anything may come after them
unfoldable pub pairs : ℕ → List ℕ → Outcome (List Pair)
pairs zero form = done []
pairs (suc n) form = do
  key ← key_at form
  value ← map_value key.1
  ps ← pairs n value.1
  done ((key.0, value.0) ∷ ps)

-- pairs put into a map in turn: each at its place in the order, and at a key that is there the new value
abbrev pub put_all : List Pair → List Pair → List Pair
put_all into [] = into
put_all into (p ∷ ps) = put_all (put order p.0 p.1 into) ps

-- n pairs that are there, put into a map
abbrev pub put_read : List Pair → ℕ → List ℕ → Outcome (List Pair)
put_read into n form = do
  ps ← pairs n form
  done (put_all into ps)

-- the number of pairs, which isn't negative (C9), and the pairs, put into a map
abbrev pub hstore_in_binary : List ℕ → Outcome (List Pair)
hstore_in_binary form = do
  count ← u32_at form
  fails_if (nat_lt max_length count.0) (HstoreLength (cast_signed w32 count.0))
  put_read [] count.0 count.1

-- a map, in binary alone
abbrev pub parse_hstore : Given → Outcome (List Pair)
parse_hstore = in_binary_alone hstore_in_binary
