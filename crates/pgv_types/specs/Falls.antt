-- A part of a type is smaller than the type.
use Rattle.std.specs.Prelude.{◌+◌, ◌≤◌, List, [], ◌∷◌}
use Rattle.std.proofs.Common.{arith, max}
use denote.Param.Weighed.{most}
use Rattle.std.specs.declared.rc.RcStr.{RcStr}
use Rattle.std.specs.declared.alloc.Global.{Global}
use Rattle.pgv_types.specs.declared.type_info.PgTypeInfo.TheShapes.{weighed-PgTypeKind-Composite-0-at-2}
use Rattle.pgv_types.specs.Ty.{Ty}
use Rattle.pgv_types.specs.Facts.{type_size, kind_size, fields_size}
use Rattle.pgv_types.specs.Shown.{type_of, kind_of, fields_of}
use Rattle.pgv_types.specs.declared.type_info.PgType.{PgType}
use Rattle.pgv_types.specs.declared.type_info.PgType.TheVariants.{BuiltIn, Custom, DeclareWithName, DeclareWithOid, DeclareArrayOf}
use Rattle.pgv_types.specs.declared.kind.PgTypeKind.{PgTypeKind}
use Rattle.pgv_types.specs.declared.kind.PgTypeKind.TheVariants.{Simple, Pseudo, Domain, Composite, Array, Enum, Range}
use Rattle.pgv_types.specs.declared.type_info.PgTypeInfo.TheDeep.{deep-PgType, deep-PgTypeKind}

-- no field's type is larger than all fields together
pub parts_fall :
    (fs : List (RcStr Global × Ty)) →
    most (weighed-PgTypeKind-Composite-0-at-2.weight Ty (λ t. type_size t + 1)) fs ≤ fields_size (fields_of fs) + 1
parts_fall [] = omega arith
parts_fall (f ∷ fs) = let h : most (weighed-PgTypeKind-Composite-0-at-2.weight Ty (λ t. type_size t + 1)) fs ≤ fields_size (fields_of fs) + 1 = parts_fall fs in omega arith

pub kind_falls : (k : PgTypeKind) → deep-PgTypeKind k ≤ kind_size (kind_of k) + 1
kind_falls Simple = omega arith
kind_falls Pseudo = omega arith
kind_falls (Domain t) = omega arith
kind_falls (Composite fs) = omega (arith, parts_fall fs.items)
kind_falls (Array t) = omega arith
kind_falls (Enum labels) = omega arith
kind_falls (Range t) = omega arith

pub type_falls : (t : PgType) → max (deep-PgType t) 0 ≤ type_size (type_of t)
type_falls (BuiltIn known) = omega arith
type_falls (Custom c) = omega (arith, kind_falls c.value.kind)
type_falls (DeclareWithName n) = omega arith
type_falls (DeclareWithOid o) = omega arith
type_falls (DeclareArrayOf a) = omega arith
