use Rattle.std.proofs.Common.{◌≡◌, map}
use Rattle.std.specs.Prelude.{Ok}
use Rattle.pgv_ltree.specs.TextsInTurn.{read_each}
use Rattle.pgv_ltree.specs.QueryRead.{level_read}
use Rattle.pgv_ltree.proofs.lquery.PgLQuery.try_from_iter.Given as goal

abbrev pub invariant-loop-level : goal.invariant-loop-level
invariant-loop-level g l = read_each level_read (map (λ x. x.now) l.yielded) ≡ Ok l.query
