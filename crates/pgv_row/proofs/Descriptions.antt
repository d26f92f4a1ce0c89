-- The body of a RowDescription is read as columns exactly where it is a description of them.
use Rattle.std.proofs.Common.{◌≡◌, ℕ, ℤ, ◌<◌, ◌^◌, Bool, nat_eq, List, [], ◌∷◌, ◌++◌, length, Result, Ok, Err, refl, sym, ap, ◌∙◌, subst, append_assoc, append-nil, arith}
use Rattle.std.specs.Prelude.{FitsSigned, flat_map, not}
use Rattle.std.specs.Int.{w16, w32, to_be_bytes, cast_signed, cast_unsigned}
use Rattle.std.proofs.Math.Facts.{sfits_to_z, Fits-of_z, of_z-to_z, to_z-of_z}
use Rattle.pgv_types.specs.Ty.{Ty}
use Rattle.pgv_types.specs.Facts.{is_custom}
use Rattle.pgv_value.specs.FrameLaws.{AreBytes}
use Rattle.pgv_value.specs.declared.error.CodecError.TheVariants.{WrongLength}
use Rattle.pgv_value.specs.declared.error.CodecError.{CodecError}
use Rattle.pgv_value.specs.declared.value.PgValueFormat.{PgValueFormat}
use Rattle.pgv_value.specs.declared.value.PgValueFormat.TheVariants.{Text, Binary}
use Rattle.pgv_value.proofs.Numbers.{bytes_after}
use Rattle.pgv_row.specs.ColumnView.{Column}
use Rattle.pgv_row.specs.Description.{KnownTypes, type_by, column_front, description, column_bytes, IsColumn, IsDescription, DescriptionIsRead}
use Rattle.pgv_value.specs.Fronts.{i16_front, u16_front, u32_front, name_front, format_of_code, format_number}
use Rattle.pgv_value.specs.Outcome.{Outcome, Gives, GivesWhole, in_place, allocates, done, ◌>>=◌, ◌>>◌}
use Rattle.pgv_value.specs.Several.{several, ReadsOne}
use Rattle.pgv_value.proofs.ReadFronts.{u16_there, u16_is, i16_there, i16_is, u32_there, u32_is, IsName, name_there, name_is, format_there, format_is, nothing_is}
use Rattle.pgv_value.proofs.Outcomes.{answer_is, taken, taken_exactly, tested, only_memory}
use Rattle.pgv_value.proofs.Several.{are_several, several_read}

-- ---- a column is read

column_by : (known : KnownTypes) (bytes name b1 b2 b3 b4 b5 b6 rest : List ℕ) (table oid modifier code : ℕ) (attribute size : ℤ) (f : PgValueFormat) →
    name_front bytes ≡ Ok (name, b1) → u32_front b1 ≡ Ok (table, b2) → i16_front b2 ≡ Ok (attribute, b3) → u32_front b3 ≡ Ok (oid, b4) → i16_front b4 ≡ Ok (size, b5) → u32_front b5 ≡ Ok (modifier, b6) →
    u16_front b6 ≡ Ok (code, rest) → format_of_code code ≡ Ok f →
    (column_front known bytes).answer
    ≡ Ok (record { name = name; table = table; attribute = attribute; type_oid = oid; size = size; modifier = cast_signed w32 modifier; format = f; type_info = type_by known oid }, rest)
unfolding column_front
column_by known bytes name b1 b2 b3 b4 b5 b6 rest table oid modifier code attribute size f e1 e2 e3 e4 e5 e6 e7 e8 = rw (e1, e2, e3, e4, e5, e6, e7, e8) refl

format_fits : (f : PgValueFormat) → format_number f < 2 ^ 16
format_fits Text = omega arith
format_fits Binary = omega arith

-- a column's bytes and the rest
column_there : (known : KnownTypes) (c : Column) (rest : List ℕ) → IsColumn known c → (column_front known (column_bytes c ++ rest)).answer ≡ Ok (c, rest)
column_there known c rest s =
    let n : ℕ = cast_unsigned w32 c.modifier in
    let b6 : List ℕ = to_be_bytes w16 (format_number c.format) ++ rest in
    let b5 : List ℕ = to_be_bytes w32 n ++ b6 in
    let b4 : List ℕ = to_be_bytes w16 (cast_unsigned w16 c.size) ++ b5 in
    let b3 : List ℕ = to_be_bytes w32 c.type_oid ++ b4 in
    let b2 : List ℕ = to_be_bytes w16 (cast_unsigned w16 c.attribute) ++ b3 in
    let b1 : List ℕ = to_be_bytes w32 c.table ++ b2 in
    let whole : column_bytes c ++ rest ≡ c.name ++ 0 ∷ b1 = append_assoc c.name _ rest in
    let read = column_by known (c.name ++ 0 ∷ b1) c.name b1 b2 b3 b4 b5 b6 rest c.table c.type_oid n (format_number c.format) c.attribute c.size c.format (name_there c.name b1 s.name s.text) (u32_there c.table b2 s.table)
    (i16_there c.attribute b3 s.attribute) (u32_there c.type_oid b4 s.type_oid) (i16_there c.size b5 s.size) (u32_there n b6 (Fits-of_z s.modifier).fits) (u16_there (format_number c.format) rest (format_fits c.format)) (format_there c.format) in
    let same : (let d : Column = record c { modifier = cast_signed w32 n; type_info = type_by known c.type_oid } in d) ≡ c =
    ap (λ (m : ℤ). let d : Column = record c { modifier = m; type_info = type_by known c.type_oid } in d) (to_z-of_z s.modifier) ∙ ap (λ (t : Ty). let d : Column = record c { type_info = t } in d) (sym s.type_is) in
    ap (λ (bytes : List ℕ). (column_front known bytes).answer) whole ∙ read ∙ ap (λ (d : Column). Ok (d, rest)) same

-- ---- what is read is a column

-- what is made of the modifier and the format
record IsTail (g : ℤ → PgValueFormat → Column) (bytes rest : List ℕ) (c : Column) : Type 0 where
  modifier : ℤ
  format : PgValueFormat
  fits : FitsSigned w32 modifier
  column : g modifier format ≡ c
  whole : bytes ≡ to_be_bytes w32 (cast_unsigned w32 modifier) ++ (to_be_bytes w16 (format_number format) ++ rest)

abbrev tail_front : (ℤ → PgValueFormat → Column) → Bool → List ℕ → Outcome (Column × List ℕ)
tail_front g b bytes = do
  modifier ← in_place (u32_front bytes)
  code ← in_place (u16_front modifier.1)
  format ← in_place (format_of_code code.0)
  allocates b
  done (g (cast_signed w32 modifier.0) format, code.1)

tail_is : (g : ℤ → PgValueFormat → Column) (b : Bool) (bytes rest : List ℕ) (c : Column) → AreBytes bytes → (tail_front g b bytes).answer ≡ Ok (c, rest) → IsTail g bytes rest c
tail_is g b bytes rest c h e =
    let m = taken_exactly (u32_front bytes) _ (c, rest) e in
    let k = taken_exactly (u16_front m.0.1) _ (c, rest) m.2 in
    let f = taken_exactly (format_of_code k.0.0) _ (c, rest) k.2 in
    let p = answer_is {A = Column × List ℕ} (g (cast_signed w32 m.0.0) f.0, k.0.1) (c, rest) f.2 in
    let number = u32_is bytes m.0.1 m.0.0 h m.1 in
    let h1 : AreBytes m.0.1 = bytes_after (to_be_bytes w32 m.0.0) m.0.1 (subst AreBytes number.1 h) in
    let code = u16_is m.0.1 k.0.1 k.0.0 h1 k.1 in
    let format : k.0.0 ≡ format_number f.0 = format_is k.0.0 f.0 f.1 in
    let n_is : m.0.0 ≡ cast_unsigned w32 (cast_signed w32 m.0.0) = sym (of_z-to_z {w = w32} (record { fits = number.0 })) in
    subst (λ (q : Column × List ℕ). IsTail g bytes q.1 q.0) p (record {
      modifier = cast_signed w32 m.0.0;
      format = f.0;
      fits = sfits_to_z {w = w32} (record { fits = number.0 });
      column = refl;
      whole = number.1 ∙ ap (λ (xs : List ℕ). to_be_bytes w32 m.0.0 ++ xs) (code.1 ∙ ap (λ (n : ℕ). to_be_bytes w16 n ++ k.0.1) format)
          ∙ ap (λ (n : ℕ). to_be_bytes w32 n ++ (to_be_bytes w16 (format_number f.0) ++ k.0.1)) n_is;
    })

-- a number of four bytes and a signed one of two, and what is read after them
record IsPair (g : ℕ → ℤ → List ℕ → Outcome (Column × List ℕ)) (bytes : List ℕ) (y : Column × List ℕ) : Type 0 where
  first : ℕ
  second : ℤ
  rest : List ℕ
  first_fits : first < 2 ^ 32
  second_fits : FitsSigned w16 second
  whole : bytes ≡ to_be_bytes w32 first ++ (to_be_bytes w16 (cast_unsigned w16 second) ++ rest)
  left : AreBytes rest
  more : (g first second rest).answer ≡ Ok y

abbrev pair_front : (ℕ → ℤ → List ℕ → Outcome (Column × List ℕ)) → List ℕ → Outcome (Column × List ℕ)
pair_front g bytes = do
  first ← in_place (u32_front bytes)
  second ← in_place (i16_front first.1)
  g first.0 second.0 second.1

pair_is : (g : ℕ → ℤ → List ℕ → Outcome (Column × List ℕ)) (bytes : List ℕ) (y : Column × List ℕ) → AreBytes bytes → (pair_front g bytes).answer ≡ Ok y → IsPair g bytes y
pair_is g bytes y h e =
    let t = taken_exactly (u32_front bytes) _ y e in
    let u = taken_exactly (i16_front t.0.1) _ y t.2 in
    let first = u32_is bytes t.0.1 t.0.0 h t.1 in
    let h1 : AreBytes t.0.1 = bytes_after (to_be_bytes w32 t.0.0) t.0.1 (subst AreBytes first.1 h) in
    let second = i16_is t.0.1 u.0.1 u.0.0 h1 u.1 in
    record {
      first = t.0.0;
      second = u.0.0;
      rest = u.0.1;
      first_fits = first.0;
      second_fits = second.0;
      whole = first.1 ∙ ap (λ (xs : List ℕ). to_be_bytes w32 t.0.0 ++ xs) second.1;
      left = bytes_after (to_be_bytes w16 (cast_unsigned w16 u.0.0)) u.0.1 (subst AreBytes second.1 h1);
      more = u.2;
    }

abbrev column_made : KnownTypes → List ℕ → ℕ → ℤ → ℕ → ℤ → ℤ → PgValueFormat → Column
column_made known name table attribute oid size modifier format =
    record { name = name; table = table; attribute = attribute; type_oid = oid; size = size; modifier = modifier; format = format; type_info = type_by known oid }

abbrev type_on : KnownTypes → List ℕ → ℕ → ℤ → ℕ → ℤ → List ℕ → Outcome (Column × List ℕ)
type_on known name table attribute oid size bytes = tail_front (column_made known name table attribute oid size) (is_custom (type_by known oid)) bytes

abbrev table_on : KnownTypes → List ℕ → ℕ → ℤ → List ℕ → Outcome (Column × List ℕ)
table_on known name table attribute bytes = pair_front (type_on known name table attribute) bytes

record IsNamed (known : KnownTypes) (bytes : List ℕ) (y : Column × List ℕ) : Type 0 where
  name : List ℕ
  rest : List ℕ
  is_name : IsName bytes name rest
  more : (pair_front (table_on known name) rest).answer ≡ Ok y

named_is : (known : KnownTypes) (bytes : List ℕ) (y : Column × List ℕ) → (column_front known bytes).answer ≡ Ok y → IsNamed known bytes y
unfolding column_front
named_is known bytes y e =
    let a = taken_exactly (name_front bytes) _ y e in
    record { name = a.0.0; rest = a.0.1; is_name = name_is bytes a.0.0 a.0.1 a.1; more = a.2 }

column_is : (known : KnownTypes) (bytes : List ℕ) (c : Column) (rest : List ℕ) → AreBytes bytes → (column_front known bytes).answer ≡ Ok (c, rest) → IsColumn known c × (bytes ≡ column_bytes c ++ rest)
column_is known bytes c rest h e =
    let n = named_is known bytes (c, rest) e in
    let h1 : AreBytes n.rest = bytes_after (0 ∷ []) n.rest (bytes_after n.name (0 ∷ n.rest) (subst AreBytes n.is_name.whole h)) in
    let a = pair_is (table_on known n.name) n.rest (c, rest) h1 n.more in
    let b = pair_is (type_on known n.name a.first a.second) a.rest (c, rest) a.left a.more in
    let t = tail_is (column_made known n.name a.first a.second b.first b.second) (is_custom (type_by known b.first)) b.rest rest c b.left b.more in
    let numbers : n.rest ≡ to_be_bytes w32 a.first ++ (to_be_bytes w16 (cast_unsigned w16 a.second) ++ (to_be_bytes w32 b.first ++ (to_be_bytes w16 (cast_unsigned w16 b.second) ++ (to_be_bytes w32 (cast_unsigned w32 t.modifier) ++ (to_be_bytes w16 (format_number t.format) ++ rest))))) =
    a.whole ∙ ap (λ (xs : List ℕ). to_be_bytes w32 a.first ++ (to_be_bytes w16 (cast_unsigned w16 a.second) ++ xs)) (b.whole ∙ ap (λ (xs : List ℕ). to_be_bytes w32 b.first ++ (to_be_bytes w16 (cast_unsigned w16 b.second) ++ xs)) t.whole) in
    subst (λ (d : Column). IsColumn known d × (bytes ≡ column_bytes d ++ rest)) t.column (
      record { name = n.is_name.none; text = n.is_name.text; table = a.first_fits; attribute = a.second_fits; type_oid = b.first_fits; size = b.second_fits; modifier = t.fits; type_is = refl },
      n.is_name.whole ∙ ap (λ (xs : List ℕ). n.name ++ (0 ∷ xs)) numbers ∙ sym (append_assoc n.name _ rest),
    )

-- a column is read exactly from its bytes
pub reads_column : (known : KnownTypes) → ReadsOne (IsColumn known) column_bytes (column_front known)
reads_column known bytes c rest h = (column_is known bytes c rest h, λ s. ap (λ (xs : List ℕ). (column_front known xs).answer) s.1 ∙ column_there known c rest s.0)

-- ---- descriptions

described_by : (known : KnownTypes) (bytes rest : List ℕ) (n : ℕ) (columns : List Column) → u16_front bytes ≡ Ok (n, rest) → (several (column_front known) n rest).answer ≡ Ok (columns, []) → (description known bytes).answer ≡ Ok columns
unfolding description
described_by known bytes rest n columns count found = rw (count, found) refl

is_read : (known : KnownTypes) (bytes : List ℕ) (columns : List Column) → AreBytes bytes → IsDescription known bytes columns → (description known bytes).answer ≡ Ok columns
is_read known bytes columns h s =
    let body : List ℕ = flat_map column_bytes columns in
    let left : AreBytes body = bytes_after (to_be_bytes w16 (length columns)) body (subst AreBytes s.whole h) in
    described_by known bytes body (length columns) columns (ap u16_front s.whole ∙ u16_there (length columns) body s.many)
    (several_read (IsColumn known) column_bytes (column_front known) (reads_column known) (length columns) body columns [] left (record { many = refl; each = s.each; whole = sym (append-nil body) }))

is_description : (known : KnownTypes) (bytes : List ℕ) (columns : List Column) → AreBytes bytes → (description known bytes).answer ≡ Ok columns → IsDescription known bytes columns
unfolding description
is_description known bytes columns h e =
    let a = taken_exactly (u16_front bytes) _ columns e in
    let count = u16_is bytes a.0.1 a.0.0 h a.1 in
    let b = taken (several (column_front known) a.0.0 a.0.1) _ columns a.2 in
    let t = tested (not (nat_eq (length b.0.1) 0)) (WrongLength (length bytes)) (done b.0.0) columns b.2 in
    let left : AreBytes a.0.1 = bytes_after (to_be_bytes w16 a.0.0) a.0.1 (subst AreBytes count.1 h) in
    let c = are_several (IsColumn known) column_bytes (column_front known) (reads_column known) a.0.0 a.0.1 b.0.0 b.0.1 left b.1 in
    let body : a.0.1 ≡ flat_map column_bytes b.0.0 = c.whole ∙ ap (λ (xs : List ℕ). flat_map column_bytes b.0.0 ++ xs) (nothing_is b.0.1 t.0) ∙ append-nil (flat_map column_bytes b.0.0) in
    subst (IsDescription known bytes) (answer_is {A = List Column} b.0.0 columns t.1) (record {
      whole = count.1 ∙ ap (λ (xs : List ℕ). to_be_bytes w16 a.0.0 ++ xs) body ∙ ap (λ (n : ℕ). to_be_bytes w16 n ++ flat_map column_bytes b.0.0) (sym c.many);
      many = subst (λ (n : ℕ). n < 2 ^ 16) (sym c.many) count.0;
      each = c.each;
    })

pub description_is_read : DescriptionIsRead
unfolding DescriptionIsRead
description_is_read known bytes columns h = (is_description known bytes columns h, is_read known bytes columns h)

-- ---- as a reader answers

module _ {V : Type 0} (view : V → List Column) (known : KnownTypes) (bytes : List ℕ) where
  pub columns_read : (result : Result V CodecError) → AreBytes bytes → Gives view (description known bytes) result → GivesWhole view (description known bytes) (IsDescription known bytes) result
  columns_read (Ok v) h gives = (gives, (is_description known bytes (view v) h gives, λ columns s. answer_is {A = List Column} (view v) columns (sym gives ∙ is_read known bytes columns h s)))
  columns_read (Err e) h gives = (gives, λ columns s. (only_memory (description known bytes) e columns (is_read known bytes columns h s) gives).0)
