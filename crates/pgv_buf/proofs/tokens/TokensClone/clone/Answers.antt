use Rattle.std.specs.List.{each_same}
use Rattle.pgv_buf.proofs.Layouts.{held, valid, cells_are, same_layout}
use Rattle.pgv_buf.proofs.CellSteps.{same_as, slots_same}
use Rattle.pgv_buf.proofs.tokens.TokensClone.clone.Goals as goal

pub invariant_of-result : goal.invariant_of-result
invariant_of-result c =
    valid (same_as (held c.args.self.now c.self.invariant c.self.view_is) (each_same _ _ c.in_ok-clone.ensures.cases.0)
    (same_layout c.in_ok-clone-2.ensures.cases (each_same _ _ c.in_ok-clone-3.ensures.cases.0) c.in_ok-clone-4.ensures.cases (slots_same _ _ c.in_ok-clone-5.ensures.cases.0)))

pub returns : goal.returns
returns c = record {
  cases = cells_are (same_as (held c.args.self.now c.self.invariant c.self.view_is) (each_same _ _ c.in_ok-clone.ensures.cases.0)
      (same_layout c.in_ok-clone-2.ensures.cases (each_same _ _ c.in_ok-clone-3.ensures.cases.0) c.in_ok-clone-4.ensures.cases (slots_same _ _ c.in_ok-clone-5.ensures.cases.0)));
}
