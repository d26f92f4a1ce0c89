use Rattle.std.specs.List.{each_same}
use Rattle.pgv_buf.proofs.CellSteps.{cases_same, same_case, same_kept}
use Rattle.pgv_buf.proofs.fill.SlotClone.clone.Goals as goal

pub returns : goal.returns
returns c = record { cases = same_kept _ _ _ _ (each_same _ _ c.in_ok-clone.ensures.cases.0) (cases_same (λ x y h. same_case h.0 (each_same _ _ h.1.0)) _ _ c.in_ok-clone-2.ensures.cases.0) }
