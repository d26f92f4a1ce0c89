use Rattle.std.proofs.Common.{[], ◌∷◌, get_or}
use Rattle.pgv_ltree.specs.Labels.{is_label}
use Rattle.pgv_ltree.proofs.WrittenTrees.{more_pass}
use Rattle.pgv_ltree.proofs.Printed.{one_more, taken_as, taken_three}
use Rattle.pgv_ltree.proofs.ltree.print_labels.Goals as goal

pub loop-label-preserved : goal.loop-label-preserved
loop-label-preserved g c =
    let first = get_or c.args.labels.now 0 [] in
    let text = taken_as g.S.Sink.took c.put-in-loop-label.new.self c.put-in-loop-label-2.new.self _ _ c.as_str-in-loop-label.ensures.text c.in_ok-put-3.ensures.ok in
    record {
      labels = more_pass is_label _ c.loop-label.label-index first c.label-item.result c.loop-label-test.true c.label-item.is c.loop-label.invariant.labels c.as_str-in-loop-label.ensures.label;
      written = taken_three g.S.Sink.took g.met.S.Sink.took_both c.args.out.now c.loop-label.out c.put-in-loop-label.new.self c.put-in-loop-label-2.new.self _ (46 ∷ []) c.label-item.result _
          c.loop-label.invariant.written c.in_ok-put-2.ensures.ok text (one_more 46 first _ c.loop-label.label-index c.label-item.result c.loop-label-test.true c.label-item.is);
    }
