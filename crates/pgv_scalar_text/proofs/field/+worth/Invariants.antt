use Rattle.pgv_scalar_text.proofs.field.+worth.Given as goal

abbrev pub decreases-worth : goal.decreases-worth
decreases-worth l = l.unit
