-- OIDs that are found one after another.
use Rattle.std.proofs.Common.{◌≡◌, ℕ, suc, List, [], ◌∷◌, ◌++◌, length, Option, Some, refl, ap}
use Rattle.pgv_types.specs.Ty.{Ty}
use Rattle.pgv_types.specs.declared.oid.Oid.{Oid}
use Rattle.pgv_catalog.specs.Filling.{AreNamed}

pub one_more : (named : Ty → Option ℕ) (holes : List Ty) (oids : List Oid) (hole : Ty) (oid : Oid) → AreNamed named holes oids → named hole ≡ Some oid.0 → AreNamed named (holes ++ hole ∷ []) (oids ++ oid ∷ [])
one_more named [] [] hole oid are is = (is, tt)
one_more named [] (o ∷ oids) hole oid are is = absurd are
one_more named (h ∷ holes) [] hole oid are is = absurd are
one_more named (h ∷ holes) (o ∷ oids) hole oid are is = (are.0, one_more named holes oids hole oid are.1 is)

pub as_many : (named : Ty → Option ℕ) (holes : List Ty) (oids : List Oid) → AreNamed named holes oids → length oids ≡ length holes
as_many named [] [] are = refl
as_many named [] (o ∷ oids) are = absurd are
as_many named (h ∷ holes) [] are = absurd are
as_many named (h ∷ holes) (o ∷ oids) are = ap suc (as_many named holes oids are.1)
