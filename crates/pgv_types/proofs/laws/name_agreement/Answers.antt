use Rattle.pgv_types.proofs.Tells.{agree-refl, agree-sym, agree_tells}
use Rattle.pgv_types.proofs.laws.name_agreement.Goals as goal

pub returns : goal.returns
returns c = record { meaning = agree_tells; reflexive = agree-refl; symmetric = agree-sym }
