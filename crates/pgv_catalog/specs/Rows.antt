-- What the rows of a server's catalogue show of its types (PostgreSQL: "pg_type", "pg_attribute", "pg_enum",
-- "pg_range"). `entry_in` is the type that a row shows, of parts that are known already: a part is the built-in type of
-- its OID; else the one of the catalogue that has it; else, where it has no row, known by its OID alone. Where a part
-- is still to come there is none yet. `AreMade`: each type is shown by a row, of parts that come before it.
-- `HasEndlessParts`: a type is among its own parts' parts.
use Rattle.std.specs.Prelude.{◌≡◌, ◌≢◌, ◌==◌, ◌⊎◌, ℕ, zero, suc, Bool, codes, List, [], ◌∷◌, ◌++◌, flat_map, is_none, option_map, string_bytes, Option, Some, None, ⊤, if◌then◌else◌}
use Rattle.std.specs.List.{AllByRecursion, list_any}
use Rattle.std.specs.Rc.{rc_str_bytes}
use Rattle.std.specs.declared.alloc.Global.{Global}
use Rattle.std.specs.declared.rc.RcStr.{RcStr}
use Rattle.pgv_types.specs.Facts.{built_in}
use Rattle.pgv_types.specs.Ty.{Ty, by_oid, custom, Kind, simple, pseudo, domain, composite, array, enumeration, range, Fields, no_fields, field}
use Rattle.pgv_value.specs.ReadingSteps.{◌>>=◌}
use Rattle.pgv_catalog.specs.Entries.{Entry, type_with_oid}
use Rattle.pgv_catalog.specs.declared.rows.PgCatalogRows.{PgCatalogRows}
use Rattle.pgv_catalog.specs.declared.rows.PgFieldRow.{PgFieldRow}
use Rattle.pgv_catalog.specs.declared.rows.PgLabelRow.{PgLabelRow}
use Rattle.pgv_catalog.specs.declared.rows.PgTypeClass.{PgTypeClass}
use Rattle.pgv_catalog.specs.declared.rows.PgTypeClass.TheVariants.{Simple, Pseudo, Domain, Composite, Array, Enum, Range}
use Rattle.pgv_catalog.specs.declared.rows.PgTypeRow.{PgTypeRow}

-- ---- parts

-- whether the type with this OID has a row
abbrev pub has_row : List PgTypeRow → ℕ → Bool
has_row rows oid = list_any (λ row. row.oid.0 == oid) rows

abbrev pub first_of : Option Ty → Option Ty → Option Ty
first_of None t = t
first_of (Some t) u = Some t

-- the type with this OID as a part of another, or none where it is still to come
abbrev pub part_type : List PgTypeRow → List Entry → ℕ → Option Ty
part_type rows known oid =
    first_of (built_in oid) (first_of (type_with_oid oid known) (if has_row rows oid then None else Some (by_oid oid)))

-- ---- what a row shows

-- the fields of a composite type in order, each with its type
abbrev pub composite_fields : List PgTypeRow → List Entry → ℕ → List PgFieldRow → Option (List (List ℕ × Ty))
composite_fields types known oid [] = Some []
composite_fields types known oid (row ∷ rows) =
    if row.of.0 == oid then (part_type types known row.field_type.0 >>= λ t. composite_fields types known oid rows >>= λ more. Some ((string_bytes row.name, t) ∷ more)) else
    composite_fields types known oid rows

-- a field as the code has it
abbrev pub named_type : RcStr Global × Ty → List ℕ × Ty
named_type x = (rc_str_bytes x.0, x.1)

abbrev pub typed_fields : List (List ℕ × Ty) → Fields
typed_fields [] = no_fields
typed_fields (first ∷ more) = field first.0 first.1 (typed_fields more)

-- what a row shows of an enumeration's labels: one, where it is the type's
abbrev pub label_row : ℕ → PgLabelRow → List (List ℕ)
label_row oid row = if row.of.0 == oid then string_bytes row.label ∷ [] else []

abbrev pub label_rows : ℕ → List PgLabelRow → List (List ℕ)
label_rows oid rows = flat_map (label_row oid) rows

-- the kind of a row's type
abbrev pub kind_by : PgTypeClass → PgCatalogRows → List Entry → PgTypeRow → Option Kind
kind_by Simple rows known row = Some simple
kind_by Pseudo rows known row = Some pseudo
kind_by Domain rows known row = option_map (λ t. domain t) (part_type rows.types.items known row.part.0)
kind_by Composite rows known row = option_map (λ fields. composite (typed_fields fields)) (composite_fields rows.types.items known row.oid.0 rows.fields.items)
kind_by Array rows known row = option_map (λ t. array t) (part_type rows.types.items known row.part.0)
kind_by Enum rows known row = Some (enumeration (label_rows row.oid.0 rows.labels.items))
kind_by Range rows known row = option_map (λ t. range t) (part_type rows.types.items known row.part.0)

abbrev pub kind_in : PgCatalogRows → List Entry → PgTypeRow → Option Kind
kind_in rows known row = kind_by row.class rows known row

-- a name with its schema and a dot before it
abbrev pub full_name_of : PgTypeRow → List ℕ
full_name_of row = string_bytes row.schema ++ codes "." ++ string_bytes row.name

-- the type of a row, of this kind
abbrev pub entry_of_row : PgTypeRow → Kind → Entry
entry_of_row row kind = record { full_name = full_name_of row; is_visible = row.is_visible; ty = custom row.oid.0 (string_bytes row.name) kind }

-- the type of a row, or none where a part of it is still to come
abbrev pub entry_in : PgCatalogRows → List Entry → PgTypeRow → Option Entry
entry_in rows known row = option_map (entry_of_row row) (kind_in rows known row)

-- ---- types of a catalogue

abbrev pub IsIn : {A : Type 0} → A → List A → Type 0
IsIn x [] = ⊥
IsIn x (y ∷ ys) = (x ≡ y) ⊎ IsIn x ys

-- a type is the one that a row shows, of parts that are known
abbrev pub IsOfRows : PgCatalogRows → List Entry → Entry → Type 0
IsOfRows rows known e = (row : PgTypeRow) × IsIn row rows.types.items × (entry_in rows known row ≡ Some e)

-- each type is one that a row shows, of parts that come before it
abbrev pub AreMade : PgCatalogRows → List Entry → List Entry → Type 0
AreMade rows before [] = ⊤
AreMade rows before (e ∷ entries) = IsOfRows rows before e × AreMade rows (before ++ e ∷ []) entries

-- the type of each row is there
abbrev pub AreAllKnown : List PgTypeRow → List Entry → Type 0
AreAllKnown rows entries = AllByRecursion (λ row. type_with_oid row.oid.0 entries ≢ None) rows

-- ---- parts that are still to come

-- the OID of a field's type, where the field is the type's
abbrev pub field_oid : ℕ → PgFieldRow → List ℕ
field_oid oid row = if row.of.0 == oid then row.field_type.0 ∷ [] else []

-- the OIDs of the parts of a row's type
abbrev pub part_oids_by : PgTypeClass → List PgFieldRow → PgTypeRow → List ℕ
part_oids_by Simple fields row = []
part_oids_by Pseudo fields row = []
part_oids_by Domain fields row = row.part.0 ∷ []
part_oids_by Composite fields row = flat_map (field_oid row.oid.0) fields
part_oids_by Array fields row = row.part.0 ∷ []
part_oids_by Enum fields row = []
part_oids_by Range fields row = row.part.0 ∷ []

abbrev pub part_oids : List PgFieldRow → PgTypeRow → List ℕ
part_oids fields row = part_oids_by row.class fields row

-- the type of each row was made, or a part of it is still to come
abbrev pub AllAwait : PgCatalogRows → List Entry → List PgTypeRow → Type 0
AllAwait rows known list = AllByRecursion (λ row. (type_with_oid row.oid.0 known ≢ None) ⊎ (entry_in rows known row ≡ None)) list

-- how many rows have a type that was not made
abbrev pub unmade : List Entry → List PgTypeRow → ℕ
unmade known [] = 0
unmade known (row ∷ list) = if is_none (type_with_oid row.oid.0 known) then suc (unmade known list) else unmade known list

-- From the type with this OID as many parts can be followed, one a part of the one before; each has a row, and none but
-- the first may be built in.
abbrev pub HasParts : PgCatalogRows → ℕ → ℕ → Type 0
HasParts rows oid zero = ⊤
HasParts rows oid (suc n) =
    (row : PgTypeRow) × IsIn row rows.types.items × (row.oid.0 ≡ oid)
    × ((part : ℕ) × IsIn part (part_oids rows.fields.items row) × (built_in part ≡ None) × HasParts rows part n)

-- parts can be followed from it without end, so that of the rows, which are finitely many, one is of a part of itself
abbrev pub HasEndlessParts : PgCatalogRows → ℕ → Type 0
HasEndlessParts rows oid = (n : ℕ) → HasParts rows oid n
