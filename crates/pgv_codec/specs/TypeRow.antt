-- What one type is, in the words of the table of types. Each takes what a type states of itself, as `⟦<i32 as Type>⟧`,
-- and says which types its values and their arrays have and are read under, what is written, what is read, and what
-- comes back.
use Rattle.std.specs.Prelude.{◌≡◌, Bool, List}
use Rattle.pgv_types.specs.Ty.{Ty}
use Rattle.pgv_types.specs.Relations.{softly}
use Rattle.pgv_types.specs.declared.oid.Oid.{Oid}
use Rattle.pgv_value.specs.Outcome.{Outcome, reading_of}
use Rattle.pgv_value.specs.ValueView.{Given}
use Rattle.pgv_codec.specs.Back.{ReadsBack}
use Rattle.pgv_codec.specs.Encoding.{Encoding}
use Rattle.pgv_codec.specs.declared.traits.Type as types
use Rattle.pgv_codec.specs.declared.traits.PgHasArrayType as arrays
use Rattle.pgv_codec.specs.declared.traits.Encode as encode
use Rattle.pgv_codec.specs.declared.traits.Decode as decode

-- values have this type, and are read under these
abbrev pub HasType : {A : Type 0} → types.Ghosts A → Ty → (Ty → Bool) → Type 0
HasType stated info accepts = (stated.info ≡ info) × ((t : Ty) → stated.accepts t ≡ accepts t)

-- arrays of values have this type, and are read under these
abbrev pub HasArrayType : {A : Type 0} → arrays.Ghosts A → Ty → (Ty → Bool) → Type 0
HasArrayType stated info accepts = (stated.array_info ≡ info) × ((t : Ty) → stated.accepts_array t ≡ accepts t)

-- values and arrays of them have these two types, and each is read under all types that are softly equal to its own
abbrev pub HasTypes : {A : Type 0} → types.Ghosts A → arrays.Ghosts A → Ty → Ty → Type 0
HasTypes of_values of_arrays info array =
    HasType of_values info (λ t. softly t info) × HasArrayType of_arrays array (λ t. softly t array)

-- each value is written so
abbrev pub IsWrittenAs : {A : Type 0} → encode.Ghosts A → (A → Encoding) → Type 0
IsWrittenAs {A} stated encoding = (v : A) → stated.encoding v ≡ encoding v

-- values are seen so, and read by this grammar
abbrev pub IsReadAs : {A : Type 0} → (stated : decode.Ghosts A) → (A → stated.View) → (Given → Outcome stated.View) → Type 0
IsReadAs {A} stated view parse = ((v : A) → stated.view v ≡ view v) × (stated.parse ≡ parse)

-- A row of the table: the type of values and that of their arrays, what is written, what a value is seen as, the
-- grammar that it is read by, and what is seen of the value that comes back.
pub record TypeRow (A V : Type 0) : Type 0 where
  pub info : Ty
  pub array : Ty
  pub encoding : A → Encoding
  pub view : A → V
  pub parse : Given → Outcome V
  pub kept : A → V

-- a type that is this row of the table
abbrev pub IsCodecRow : {A : Type 0} → types.Ghosts A → arrays.Ghosts A → encode.Ghosts A → (reads : decode.Ghosts A) → (A → A) → TypeRow A reads.View → Type 0
IsCodecRow {A} of_values of_arrays writes reads kept row =
    HasTypes of_values of_arrays row.info row.array
    × IsWrittenAs writes row.encoding
    × IsReadAs reads row.view row.parse
    × ((v : A) → reads.view (kept v) ≡ row.kept v)

-- each value is read back under every type, whatever OIDs are in its holes
abbrev pub FitsAlways : {A : Type 0} → (A → Ty → List Oid → Type 0) → Type 0
FitsAlways {A} fits = (v : A) (t : Ty) (oids : List Oid) → fits v t oids

-- what was written of a value is read back as what it keeps, under each type that fits
abbrev pub ComesBack : {A : Type 0} → encode.Ghosts A → (reads : decode.Ghosts A) → (A → A) → (A → Ty → List Oid → Type 0) → Type 0
ComesBack writes reads kept fits = ReadsBack writes.encoding (reading_of reads.parse) (λ v. reads.view (kept v)) fits
