use Rattle.std.proofs.Common.{◌≡◌, map, take, true}
use Rattle.pgv_ltree.specs.LevelView.{level_of}
use Rattle.pgv_ltree.specs.Queries.{is_query}
use Rattle.pgv_ltree.proofs.query_laws.levels_are_levels.Given as goal

-- those that were seen are
abbrev pub invariant-loop-level : goal.invariant-loop-level
invariant-loop-level l = is_query (map level_of (take l.level-index l.levels)) ≡ true
