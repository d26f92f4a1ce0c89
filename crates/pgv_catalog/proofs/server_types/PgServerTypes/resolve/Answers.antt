use Rattle.std.proofs.Common.{◌∙◌, ℕ, refl, ap, subst, inr}
use Rattle.pgv_catalog.specs.Entries.{type_with_oid}
use Rattle.pgv_catalog.specs.Rows.{HasParts}
use Rattle.pgv_catalog.proofs.Waiting.{endless}
use Rattle.pgv_catalog.proofs.server_types.PgServerTypes.resolve.Goals as goal

pub returns-in-Some-clause-refused : goal.returns-in-Some-clause-refused
returns-in-Some-clause-refused c =
    let rows = c.args.rows.now in
    let known = c.in_ok-known.known in
    let there = rw c.as_slice.ensures.value at c.in-Some.ensures.there in
    let none = ap (λ (oid : ℕ). type_with_oid oid known) there.2 ∙ c.in-Some.ensures.missing in
    inr (c.in-Some.oid, refl, λ n. subst (λ (oid : ℕ). HasParts rows oid n) there.2 (endless rows known c.in_ok-known.ensures.waiting there.0 there.1 none n))
