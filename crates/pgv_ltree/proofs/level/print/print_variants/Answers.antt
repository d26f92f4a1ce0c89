use Rattle.pgv_ltree.proofs.Printed.{taken_three, one_more_printed}
use Rattle.pgv_ltree.proofs.WrittenTrees.{more_pass}
use Rattle.std.proofs.Common.{[], ◌∷◌, false, get_or}
use Rattle.pgv_ltree.specs.Queries.{Variant, is_variant}
use Rattle.pgv_ltree.specs.QueryPrinted.{printed_variant}
use Rattle.pgv_ltree.proofs.level.print.print_variants.Goals as goal

pub loop-variant-preserved : goal.loop-variant-preserved
loop-variant-preserved g c =
    let first : Variant = get_or c.args.variants.now 0 (record { label = []; any_end = false; in_case = false; sublexeme = false }) in
    record {
      variants = more_pass is_variant _ c.loop-variant.variant-index first c.variant-item.result c.loop-variant-test.true c.variant-item.is c.loop-variant.invariant.variants c.in_ok-print-2.ensures.variant;
      written = taken_three g.S.Sink.took g.met.S.Sink.took_both c.args.out.now c.loop-variant.out c.put.new.self c.print-in-loop-variant.new.out _ (124 ∷ []) (printed_variant c.variant-item.result) _
          c.loop-variant.invariant.written c.in_ok-put.ensures.ok c.in_ok-print-2.ensures.ok
          (one_more_printed 124 printed_variant (printed_variant first) _ c.loop-variant.variant-index c.variant-item.result c.loop-variant-test.true c.variant-item.is);
    }
