use Rattle.std.proofs.Common.{◌≡◌, map}
use Rattle.pgv_ltree.specs.LevelView.{level_of}
use Rattle.pgv_ltree.proofs.lquery.PgLQuery.try_collect.Given as goal

abbrev pub invariant-loop-level : goal.invariant-loop-level
invariant-loop-level g l = l.query ≡ map level_of l.yielded
