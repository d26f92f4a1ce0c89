-- The type of an OID among the types of a list.
use Rattle.std.specs.Prelude.{ℕ, List, [], ◌∷◌, Option, Some, None, if◌then◌else◌}
use Rattle.pgv_types.specs.Ty.{Ty}
use Rattle.pgv_types.specs.Facts.{has_oid}

-- the first type that has the OID
abbrev pub with_oid : ℕ → List Ty → Option Ty
with_oid oid [] = None
with_oid oid (t ∷ types) = if has_oid oid t then Some t else with_oid oid types
