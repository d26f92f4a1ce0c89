use Rattle.std.proofs.Common.{◌≡◌, take, true}
use Rattle.std.specs.List.{list_all}
use Rattle.pgv_ltree.specs.Labels.{is_label}
use Rattle.pgv_ltree.proofs.laws.labels_are_labels.Given as goal

-- those that were seen are
abbrev pub invariant-loop-label : goal.invariant-loop-label
invariant-loop-label l = list_all is_label (take l.label-index l.labels) ≡ true
