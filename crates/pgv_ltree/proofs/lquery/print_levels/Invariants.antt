use Rattle.std.proofs.Common.{◌≡◌, ◌∷◌, get_or, take, map, true, None}
use Rattle.pgv_ltree.specs.LevelView.{level_of}
use Rattle.pgv_ltree.specs.Queries.{is_query}
use Rattle.pgv_ltree.specs.QueryPrinted.{printed_query}
use Rattle.pgv_ltree.specs.declared.level.PgLQueryLevel.TheVariants.{Star}
use Rattle.pgv_ltree.proofs.lquery.print_levels.Given as goal

-- the levels so far
abbrev pub invariant-loop-level : goal.invariant-loop-level
invariant-loop-level g l =
    record {
      levels : is_query (level_of (get_or l.levels 0 (Star None None)) ∷ map level_of (take l.level-index l.rest)) ≡ true;
      written : g.S.Sink.took l.fn.out (printed_query (level_of (get_or l.levels 0 (Star None None)) ∷ map level_of (take l.level-index l.rest))) l.out;
    }
