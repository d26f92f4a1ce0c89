use Rattle.std.proofs.Common.{◌≡◌, map}
use Rattle.std.specs.Prelude.{Ok}
use Rattle.pgv_ltree.specs.TextsInTurn.{read_each}
use Rattle.pgv_ltree.specs.LevelView.{level_of}
use Rattle.pgv_ltree.specs.QueryRead.{level_read}
use Rattle.pgv_ltree.proofs.lquery.PgLQuery.from_str.Given as goal

abbrev pub invariant-loop-level : goal.invariant-loop-level
invariant-loop-level l =
    (goal.iterator-loop-level).can_next l.level-iterator ×
    (goal.iterator-loop-level).is_finite l.level-iterator ×
    (read_each level_read (map (λ x. x.now) l.yielded) ≡ Ok (map level_of l.levels.items))
