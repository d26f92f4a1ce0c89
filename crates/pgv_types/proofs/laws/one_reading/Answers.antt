use Rattle.std.specs.Str.{chars}
use Rattle.pgv_types.proofs.Walks.{walk_gives, only_walk}
use Rattle.pgv_types.proofs.laws.one_reading.Goals as goal

pub returns-clause-exists : goal.returns-clause-exists
returns-clause-exists c = λ name. walk_gives (chars name)

pub returns-clause-unique : goal.returns-clause-unique
returns-clause-unique c = λ name found h. only_walk (chars name) found h
