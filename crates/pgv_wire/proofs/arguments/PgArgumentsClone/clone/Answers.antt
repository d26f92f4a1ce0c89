use Rattle.std.proofs.Common.{◌≡◌}
use Rattle.std.proofs.lemmas.List.Elements.{same_from_all_zip}
use Rattle.pgv_wire.specs.KeptView.{arguments_of}
use Rattle.pgv_wire.proofs.arguments.PgArgumentsClone.clone.Goals as goal

-- the same types, numbers of slots and cells
pub invariant_of-result : goal.invariant_of-result
invariant_of-result c =
    let types = same_from_all_zip _ c.self.inside.types.items c.in_ok-clone-2.field-0.items c.in_ok-clone-2.ensures.cases.0 (λ x y same. same) in
    let counts = same_from_all_zip _ c.self.inside.counts.items c.in_ok-clone-3.field-0.items c.in_ok-clone-3.ensures.cases.0 (λ x y same. same) in
    rw (types, counts, c.in_ok-clone.ensures.cases) c.self.invariant

pub returns : goal.returns
returns c =
    let types = same_from_all_zip _ c.self.inside.types.items c.in_ok-clone-2.field-0.items c.in_ok-clone-2.ensures.cases.0 (λ x y same. same) in
    let same : arguments_of c.in_ok-clone-2.field-0.items c.in_ok-clone.field-0 ≡ c.args.self.now = rw (types, c.in_ok-clone.ensures.cases) c.self.view_is in
    record { cases = same }
