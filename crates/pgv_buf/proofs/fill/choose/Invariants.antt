use Rattle.std.proofs.Common.{◌≡◌, drop}
use Rattle.pgv_buf.specs.Tokens.{chosen}
use Rattle.pgv_buf.specs.CasesView.{cases_of}
use Rattle.pgv_buf.proofs.fill.choose.Given as goal

abbrev pub invariant-loop-case : goal.invariant-loop-case
invariant-loop-case l = chosen l.parameter l.slot.standard.items (cases_of (drop l.case-index l.case-items)) ≡ chosen l.parameter l.slot.standard.items (cases_of l.case-items)
