use Rattle.pgv_types.proofs.Arrays.{array_names}
use Rattle.pgv_types.proofs.laws.array_names.Goals as goal

pub returns-clause-name : goal.returns-clause-name
returns-clause-name c = λ o e q. (array_names o e q).0

pub returns-clause-display : goal.returns-clause-display
returns-clause-display c = λ o e q. (array_names o e q).1
