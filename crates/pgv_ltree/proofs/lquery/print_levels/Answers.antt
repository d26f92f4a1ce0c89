use Rattle.pgv_ltree.proofs.Printed.{taken_three, more_seen_pass, one_more_seen}
use Rattle.pgv_ltree.specs.LevelView.{level_of}
use Rattle.std.proofs.Common.{[], ◌∷◌, None, get_or}
use Rattle.pgv_ltree.specs.Queries.{Level, is_level}
use Rattle.pgv_ltree.specs.declared.level.PgLQueryLevel.TheVariants.{Star}
use Rattle.pgv_ltree.specs.QueryPrinted.{printed_level}
use Rattle.pgv_ltree.proofs.lquery.print_levels.Goals as goal

pub loop-level-preserved : goal.loop-level-preserved
loop-level-preserved g c =
    let first : Level = level_of (get_or c.args.levels.now 0 (Star None None)) in
    record {
      levels = more_seen_pass is_level level_of _ c.loop-level.level-index first c.level-item.result c.loop-level-test.true c.level-item.is c.loop-level.invariant.levels c.in_ok-print-2.ensures.level;
      written = taken_three g.S.Sink.took g.met.S.Sink.took_both c.args.out.now c.loop-level.out c.put.new.self c.print-in-loop-level.new.out _ (46 ∷ []) (printed_level (level_of c.level-item.result)) _
          c.loop-level.invariant.written c.in_ok-put.ensures.ok c.in_ok-print-2.ensures.ok
          (one_more_seen 46 printed_level level_of (printed_level first) _ c.loop-level.level-index c.level-item.result c.loop-level-test.true c.level-item.is);
    }
