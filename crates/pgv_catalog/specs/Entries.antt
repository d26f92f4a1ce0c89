-- What contracts see of the types of a server, and how they are found by OID and by name.
use Rattle.std.specs.Prelude.{ℕ, Bool, false, ◌||◌, ◌&&◌, List, [], ◌∷◌, bytes_eq, Option, Some, None, refl, if◌then◌else◌}
use Rattle.std.specs.Coded.{Coded, code_by, coded×, coded_bool, coded_ℕ, coded_list}
use Rattle.pgv_types.specs.Agree.{agree}
use Rattle.pgv_types.specs.Facts.{oid_of, has_oid}
use Rattle.pgv_types.specs.Ty.{Ty, builtin, custom, named, by_oid, array_of, Kind, simple, pseudo, domain, composite, array, enumeration, range, ty_code}

-- a type, its name with its schema and a dot before it, and whether its name alone finds it
pub record Entry : Type 0 where
  pub full_name : List ℕ
  pub is_visible : Bool
  pub ty : Ty

-- ---- what is found

-- the first type of which this holds
abbrev pub first_where : (Entry → Bool) → List Entry → Option Ty
first_where holds [] = None
first_where holds (e ∷ entries) = if holds e then Some e.ty else first_where holds entries

-- the first type with this OID
abbrev pub type_with_oid : ℕ → List Entry → Option Ty
type_with_oid oid entries = first_where (λ e. has_oid oid e.ty) entries

-- the name of a type that the server described agrees with this one
abbrev pub has_name : List ℕ → Ty → Bool
has_name name (builtin o) = false
has_name name (custom o own kind) = agree own name
has_name name (named own) = false
has_name name (by_oid o) = false
has_name name (array_of own) = false

-- a name is a type's with its schema before it, or alone where that finds the type
abbrev pub is_named : List ℕ → Entry → Bool
is_named name e = bytes_eq e.full_name name || (e.is_visible && has_name name e.ty)

-- the first type of this name
abbrev pub with_name : List ℕ → List Entry → Option Ty
with_name name entries = first_where (is_named name) entries

abbrev pub is_array_in : ℕ → Kind → Bool
is_array_in oid simple = false
is_array_in oid pseudo = false
is_array_in oid (domain t) = false
is_array_in oid (composite list) = false
is_array_in oid (array t) = has_oid oid t
is_array_in oid (enumeration list) = false
is_array_in oid (range t) = false

abbrev pub is_array_of : ℕ → Ty → Bool
is_array_of oid (builtin o) = false
is_array_of oid (custom o name kind) = is_array_in oid kind
is_array_of oid (named name) = false
is_array_of oid (by_oid o) = false
is_array_of oid (array_of name) = false

-- the first array whose element has this OID
abbrev pub with_element : ℕ → List Entry → Option Ty
with_element oid entries = first_where (λ e. is_array_of oid e.ty) entries

-- ---- the OID for a type

abbrev pub oid_in : Option Ty → Option ℕ
oid_in None = None
oid_in (Some t) = oid_of t

abbrev pub array_oid : List Entry → Option ℕ → Option ℕ
array_oid entries None = None
array_oid entries (Some element) = oid_in (with_element element entries)

-- A type that is known by its name has the OID of the first type of that name; an array that is known by its element's
-- name that of the first array over it; any other its own.
abbrev pub oid_by_name : List Entry → Ty → Option ℕ
oid_by_name entries (builtin o) = Some o
oid_by_name entries (custom o name kind) = Some o
oid_by_name entries (named name) = oid_in (with_name name entries)
oid_by_name entries (by_oid o) = Some o
oid_by_name entries (array_of name) = array_oid entries (oid_in (with_name name entries))

-- ---- how the logic stores it

abbrev pub entry_code : Coded Entry
entry_code = code_by (List ℕ × (Bool × Ty))
    (coded× (coded_list coded_ℕ) (coded× coded_bool ty_code))
    (λ e. (e.full_name, (e.is_visible, e.ty)))
    (λ p. record { full_name = p.0; is_visible = p.1.0; ty = p.1.1 })
    (λ _. refl)
