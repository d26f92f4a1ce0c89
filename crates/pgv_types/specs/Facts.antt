-- Facts of types, by cases: OIDs, elements, kinds, names and sizes (PostgreSQL, "System Catalogs", "pg_type"; "CREATE
-- TYPE" on the _ before the name of an array).
-- - The base OID is that of a built-in; a custom type's own, but for a custom domain the `oid` of the type directly
--   under it; a declared OID; else none. The `oid` is the same without the rule on domains.
-- - The element is a built-in array's and a custom array's; the name after the `_` of a declared name that begins with
--   `_`; the name of an array of a name; else none.
-- - A built-in has a catalogue name and a display name. A custom type and a declared name have that name. A declared
--   OID has the name `?`. An array of a name has the name and `[]`.
-- - The size falls with each step to an element or to a domain's base.
use Rattle.std.specs.Prelude.{◌≡◌, ℕ, ◌+◌, ◌^◌, ◌==◌, ◌||◌, ltb, Bool, true, false, if◌then◌else◌, Option, Some, None, List, [], ◌∷◌, ◌++◌, codes, option_map}
use Rattle.pgv_characters.specs.Characters.{underscore}
use Rattle.pgv_types.specs.Suffix.{suffix_of}
use Rattle.pgv_types.specs.Ty.{Ty, builtin, custom, named, by_oid, array_of, Kind, simple, pseudo, domain, composite, array, enumeration, range, Fields, no_fields, field}
use Rattle.pgv_types.specs.Table.{TypeEntry, RowKind, a_simple, a_pseudo, range_of, entry_of}

-- ---- OIDs

abbrev pub built_in : ℕ → Option Ty
built_in o = option_map (λ (e : TypeEntry). builtin e.oid) (entry_of o)

abbrev pub oid_of : Ty → Option ℕ
oid_of (builtin o) = Some o
oid_of (custom o n k) = Some o
oid_of (named n) = None
oid_of (by_oid o) = Some o
oid_of (array_of n) = None

-- whether the OID is known, and is this one
abbrev pub is_oid : Option ℕ → ℕ → Bool
is_oid None oid = false
is_oid (Some known) oid = known == oid

abbrev pub has_oid : ℕ → Ty → Bool
has_oid oid t = is_oid (oid_of t) oid

-- the OID of a built-in type
abbrev pub built_in_oid : Ty → Option ℕ
built_in_oid (builtin o) = Some o
built_in_oid (custom o n k) = None
built_in_oid (named n) = None
built_in_oid (by_oid o) = None
built_in_oid (array_of n) = None

abbrev pub same_oid : Option ℕ → Option ℕ → Bool
same_oid None _ = false
same_oid (Some o) None = false
same_oid (Some o) (Some p) = o == p

-- the two are one built-in type
abbrev pub same_built_in : Ty → Ty → Bool
same_built_in t u = same_oid (built_in_oid t) (built_in_oid u)

-- A domain has the OID of the type directly under it.
abbrev pub base_under : ℕ → Kind → Option ℕ
base_under o simple = Some o
base_under o pseudo = Some o
base_under o (domain t) = oid_of t
base_under o (composite fs) = Some o
base_under o (array t) = Some o
base_under o (enumeration ls) = Some o
base_under o (range t) = Some o

abbrev pub base_oid : Ty → Option ℕ
base_oid (builtin o) = Some o
base_oid (custom o n k) = base_under o k
base_oid (named n) = None
base_oid (by_oid o) = Some o
base_oid (array_of n) = None

-- The OID, where there is one, fits in four bytes.
abbrev pub fits_oid : Option ℕ → Bool
fits_oid None = true
fits_oid (Some o) = ltb o (2 ^ 32)

abbrev pub HasOid32 : Ty → Type 0
HasOid32 t = fits_oid (oid_of t) ≡ true

-- ---- elements

abbrev pub entry_element : Option TypeEntry → Option ℕ
entry_element None = None
entry_element (Some e) = e.element

abbrev pub element_oid : ℕ → Option ℕ
element_oid o = entry_element (entry_of o)

abbrev pub element_in : Kind → Option Ty
element_in simple = None
element_in pseudo = None
element_in (domain t) = None
element_in (composite fs) = None
element_in (array t) = Some t
element_in (enumeration ls) = None
element_in (range t) = None

-- what comes after the _ of a declared name
abbrev pub name_element : List ℕ → Option (List ℕ)
name_element [] = None
name_element (c ∷ cs) = if c == underscore then Some cs else None

abbrev pub element_of : Ty → Option Ty
element_of (builtin o) = option_map builtin (element_oid o)
element_of (custom o n k) = element_in k
element_of (named n) = option_map named (name_element n)
element_of (by_oid o) = None
element_of (array_of n) = Some (named n)

-- ---- domains

-- the type that a domain is over
abbrev pub base_in : Kind → Option Ty
base_in simple = None
base_in pseudo = None
base_in (domain t) = Some t
base_in (composite fs) = None
base_in (array t) = None
base_in (enumeration ls) = None
base_in (range t) = None

abbrev pub domain_base : Ty → Option Ty
domain_base (builtin o) = None
domain_base (custom o n k) = base_in k
domain_base (named n) = None
domain_base (by_oid o) = None
domain_base (array_of n) = None

-- the type under all domains
abbrev mutual
  pub under_domains : Ty → Ty
  under_domains (builtin o) = builtin o
  under_domains (custom o n k) = under_domains_in (custom o n k) k
  under_domains (named n) = named n
  under_domains (by_oid o) = by_oid o
  under_domains (array_of n) = array_of n

  pub under_domains_in : Ty → Kind → Ty
  under_domains_in t simple = t
  under_domains_in t pseudo = t
  under_domains_in t (domain base) = under_domains base
  under_domains_in t (composite fs) = t
  under_domains_in t (array element) = t
  under_domains_in t (enumeration ls) = t
  under_domains_in t (range element) = t

-- ---- elements of built-in arrays

abbrev pub element_built_in : Ty → Option Ty
element_built_in (builtin o) = option_map builtin (element_oid o)
element_built_in (custom o n k) = None
element_built_in (named n) = None
element_built_in (by_oid o) = None
element_built_in (array_of n) = None

-- ---- kinds (pg_type, column typtype)

abbrev pub row_kind : RowKind → Kind
row_kind a_simple = simple
row_kind a_pseudo = pseudo
row_kind (range_of o) = range (builtin o)

abbrev pub kind_or_array : RowKind → Option ℕ → Kind
kind_or_array k None = row_kind k
kind_or_array k (Some o) = array (builtin o)

-- a number that no row has counts as simple: no type that runs has it
abbrev pub entry_kind : Option TypeEntry → RowKind
entry_kind None = a_simple
entry_kind (Some e) = e.kind

abbrev pub built_in_kind : ℕ → Kind
built_in_kind o = kind_or_array (entry_kind (entry_of o)) (element_oid o)

abbrev pub kind_at : Ty → Option Kind
kind_at (builtin o) = Some (built_in_kind o)
kind_at (custom o n k) = Some k
kind_at (named n) = None
kind_at (by_oid o) = None
kind_at (array_of n) = None

abbrev pub is_void : Ty → Bool
is_void (builtin o) = o == 2278
is_void (custom o n k) = false
is_void (named n) = false
is_void (by_oid o) = false
is_void (array_of n) = false

abbrev pub is_custom : Ty → Bool
is_custom (builtin o) = false
is_custom (custom o n k) = true
is_custom (named n) = false
is_custom (by_oid o) = false
is_custom (array_of n) = false

abbrev pub IsNotCustom : Ty → Type 0
IsNotCustom t = is_custom t ≡ false

-- ---- names: a text and a suffix

abbrev pub entry_name : Option TypeEntry → List ℕ
entry_name None = []
entry_name (Some e) = e.name

abbrev pub entry_display : Option TypeEntry → List ℕ
entry_display None = []
entry_display (Some e) = e.display

abbrev pub name_text_of : Ty → List ℕ
name_text_of (builtin o) = entry_name (entry_of o)
name_text_of (custom o n k) = n
name_text_of (named n) = n
name_text_of (by_oid o) = codes "?"
name_text_of (array_of n) = n

abbrev pub has_brackets : Ty → Bool
has_brackets (builtin o) = false
has_brackets (custom o n k) = false
has_brackets (named n) = false
has_brackets (by_oid o) = false
has_brackets (array_of n) = true

abbrev pub name_of : Ty → List ℕ
name_of t = name_text_of t ++ suffix_of (has_brackets t)

abbrev pub display_text_of : Ty → List ℕ
display_text_of (builtin o) = entry_display (entry_of o)
display_text_of (custom o n k) = n
display_text_of (named n) = n
display_text_of (by_oid o) = codes "?"
display_text_of (array_of n) = n

abbrev pub is_a_type : Option Ty → Bool
is_a_type None = false
is_a_type (Some t) = true

abbrev pub shows_brackets : Ty → Bool
shows_brackets t = has_brackets t || is_a_type (element_built_in t)

abbrev pub display_of : Ty → List ℕ
display_of t = display_text_of t ++ suffix_of (shows_brackets t)

-- ---- size: one for each custom type, built-in array and array_of, and for each _ at the front of a declared name

abbrev pub underscores : List ℕ → ℕ
underscores [] = 0
underscores (c ∷ cs) = if c == underscore then 1 + underscores cs else 0

abbrev pub one_if_known : Option ℕ → ℕ
one_if_known None = 0
one_if_known (Some o) = 1

abbrev mutual
  pub type_size : Ty → ℕ
  type_size (builtin o) = one_if_known (element_oid o)
  type_size (custom o n k) = 1 + kind_size k
  type_size (named n) = underscores n
  type_size (by_oid o) = 0
  type_size (array_of n) = 1 + underscores n

  pub kind_size : Kind → ℕ
  kind_size simple = 0
  kind_size pseudo = 0
  kind_size (domain t) = type_size t
  kind_size (composite fs) = fields_size fs
  kind_size (array t) = type_size t
  kind_size (enumeration ls) = 0
  kind_size (range t) = type_size t

  pub fields_size : Fields → ℕ
  fields_size no_fields = 0
  fields_size (field n t fs) = type_size t + fields_size fs
