use Rattle.std.proofs.Common.{◌≡◌, take, true}
use Rattle.std.specs.List.{list_all}
use Rattle.pgv_ltree.specs.Queries.{is_variant}
use Rattle.pgv_ltree.proofs.query_laws.variants_are_variants.Given as goal

-- those that were seen are
abbrev pub invariant-loop-variant : goal.invariant-loop-variant
invariant-loop-variant l = list_all is_variant (take l.variant-index l.variants) ≡ true
