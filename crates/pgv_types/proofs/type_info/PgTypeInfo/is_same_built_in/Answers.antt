use Rattle.std.proofs.Common.{◌≡◌, ◌∙◌, option_map, ap, sym}
use Rattle.pgv_types.specs.Facts.{built_in_oid}
use Rattle.pgv_types.proofs.Same.{one_type}
use Rattle.pgv_types.proofs.type_info.PgTypeInfo.is_same_built_in.Goals as goal

pub returns-clause-exact : goal.returns-clause-exact
returns-clause-exact c =
    let oid : option_map (λ o. o.0) c.built_in_oid.result ≡ built_in_oid c.args.self.now = c.built_in_oid.ensures ∙ ap built_in_oid c.self.view_is in
    let other : option_map (λ o. o.0) c.built_in_oid-2.result ≡ built_in_oid c.args.other.now = c.built_in_oid-2.ensures ∙ ap built_in_oid c.other.view_is in
    rw (← oid, ← other) c.are_one.ensures

pub returns-clause-same : goal.returns-clause-same
returns-clause-same c is = one_type c.args.self.now c.args.other.now (sym (returns-clause-exact c) ∙ is)
