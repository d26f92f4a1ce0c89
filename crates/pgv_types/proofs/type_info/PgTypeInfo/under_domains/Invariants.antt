use Rattle.std.proofs.Common.{◌≡◌}
use Rattle.pgv_types.specs.Facts.{type_size, under_domains}
use Rattle.pgv_types.proofs.type_info.PgTypeInfo.under_domains.Given as goal

abbrev pub invariant-loop-base : goal.invariant-loop-base
invariant-loop-base l = under_domains l.found ≡ under_domains l.fn.self

abbrev pub decreases-loop-base : goal.decreases-loop-base
decreases-loop-base l = type_size l.found
