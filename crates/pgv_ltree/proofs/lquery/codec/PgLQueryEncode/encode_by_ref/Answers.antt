use Rattle.std.proofs.Common.{map}
use Rattle.pgv_ltree.specs.LevelView.{level_of}
use Rattle.pgv_ltree.proofs.WrittenTrees.{written_query}
use Rattle.pgv_ltree.proofs.lquery.codec.PgLQueryEncode.encode_by_ref.Goals as goal

pub returns-clause-encodes : goal.returns-clause-encodes
returns-clause-encodes c =
    written_query c.args.out.now c.push.new.self c.print_levels.new.out c.args.self.now (map level_of c.as_slice.result.now) c.as_slice.ensures c.in_ok-print_levels.ensures.levels c.in_ok-push.ensures.ok c.in_ok-print_levels.ensures.ok
