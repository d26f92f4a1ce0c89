use Rattle.pgv_ltree.proofs.WrittenTrees.{written_tree}
use Rattle.pgv_ltree.proofs.ltree.codec.PgLTreeEncode.encode_by_ref.Goals as goal

pub returns-clause-encodes : goal.returns-clause-encodes
returns-clause-encodes c =
    written_tree c.args.out.now c.push.new.self c.print_labels.new.out c.args.self.now c.as_slice.result.now c.as_slice.ensures c.in_ok-print_labels.ensures.labels c.in_ok-push.ensures.ok c.in_ok-print_labels.ensures.ok
