-- OIDs that are looked up among the types that a server described.
use Rattle.std.specs.Prelude.{◌≡◌, ℕ, ◌<◌, true, List, [], ◌∷◌, ◌++◌, length, get_or, Some, ⊤}
use Rattle.pgv.specs.Words.{Oid, Ty, oid_of, softly}

-- one is that of a known type which the wanted one is softly equal to
abbrev pub IsKnownOid : List Ty → Ty → Oid → Type 0
IsKnownOid known wanted oid = (place : ℕ) × (found : Ty) × (place < length known) × (found ≡ get_or known place found) × (softly found wanted ≡ true) × (oid_of found ≡ Some oid.0)

-- and each is, in the order of the wanted types
abbrev pub AreKnownOids : List Ty → List Ty → List Oid → Type 0
AreKnownOids known [] [] = ⊤
AreKnownOids known [] (oid ∷ oids) = ⊥
AreKnownOids known (wanted ∷ others) [] = ⊥
AreKnownOids known (wanted ∷ others) (oid ∷ oids) = IsKnownOid known wanted oid × AreKnownOids known others oids

pub one_more_known : (known wanted : List Ty) (oids : List Oid) (next : Ty) (oid : Oid) → AreKnownOids known wanted oids → IsKnownOid known next oid → AreKnownOids known (wanted ++ next ∷ []) (oids ++ oid ∷ [])
one_more_known known [] [] next oid are is = (is, tt)
one_more_known known [] (o ∷ oids) next oid are is = absurd are
one_more_known known (w ∷ wanted) [] next oid are is = absurd are
one_more_known known (w ∷ wanted) (o ∷ oids) next oid are is = (are.0, one_more_known known wanted oids next oid are.1 is)
