-- The trees that types and kinds stand for that are lent out.
use Rattle.std.specs.Prelude.{map, ⊤}
use Rattle.std.specs.Rc.{rc_str_bytes}
use Rattle.pgv_types.specs.Ty.{Ty, Kind, simple, pseudo, domain, composite, array, enumeration, range}
use Rattle.pgv_types.specs.Facts.{IsNotCustom}
use Rattle.pgv_types.specs.Shown.{fields_of}
use Rattle.pgv_types.specs.declared.kind.PgTypeRef.{PgTypeRef}
use Rattle.pgv_types.specs.declared.kind.PgTypeRef.TheVariants.{Owned, Borrowed}
use Rattle.pgv_types.specs.declared.kind.PgTypeKindRef.{PgTypeKindRef}
use Rattle.pgv_types.specs.declared.kind.PgTypeKindRef.TheVariants.{Simple, Pseudo, Domain, Composite, Array, Enum, Range}

abbrev pub ref_type : PgTypeRef → Ty
ref_type (Owned t) = t
ref_type (Borrowed t) = t.now

-- what is made here is never a custom type
abbrev pub IsHeld : PgTypeRef → Type 0
IsHeld (Owned t) = IsNotCustom t
IsHeld (Borrowed t) = ⊤

abbrev pub kind_lent : PgTypeKindRef → Kind
kind_lent Simple = simple
kind_lent Pseudo = pseudo
kind_lent (Domain t) = domain (ref_type t)
kind_lent (Composite fs) = composite (fields_of fs.now)
kind_lent (Array t) = array (ref_type t)
kind_lent (Enum labels) = enumeration (map rc_str_bytes labels.now)
kind_lent (Range t) = range (ref_type t)
