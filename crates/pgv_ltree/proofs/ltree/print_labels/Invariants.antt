use Rattle.std.proofs.Common.{◌≡◌, [], ◌∷◌, get_or, take, true}
use Rattle.std.specs.List.{list_all}
use Rattle.pgv_ltree.specs.Labels.{is_label}
use Rattle.pgv_ltree.specs.Trees.{printed_tree}
use Rattle.pgv_ltree.proofs.ltree.print_labels.Given as goal

-- the labels so far
abbrev pub invariant-loop-label : goal.invariant-loop-label
invariant-loop-label g l =
    record {
      labels : list_all is_label (get_or l.labels 0 [] ∷ take l.label-index l.rest) ≡ true;
      written : g.S.Sink.took l.fn.out (printed_tree (get_or l.labels 0 [] ∷ take l.label-index l.rest)) l.out;
    }
