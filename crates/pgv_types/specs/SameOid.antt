-- Custom types are equal where their OIDs are (PostgreSQL, "Object Identifier Types").
use Rattle.std.specs.Prelude.{Bool, ◌==◌}
use Rattle.std.proofs.lemmas.Cmp.{nat_eq_equiv}
use Rattle.std.specs.Cmp.{IsPartialEquivalence, IsEquivalence, on_equiv, partial_equiv_from_equiv}
use Rattle.pgv_types.specs.declared.custom.PgCustomType.{PgCustomType}

abbrev pub same_custom_oid : PgCustomType → PgCustomType → Bool
same_custom_oid a b = a.oid.0 == b.oid.0

pub same_oid_equiv : IsEquivalence same_custom_oid
same_oid_equiv = on_equiv (λ a. a.oid.0) nat_eq_equiv

pub same_oid_per : IsPartialEquivalence same_custom_oid
same_oid_per = partial_equiv_from_equiv same_oid_equiv
