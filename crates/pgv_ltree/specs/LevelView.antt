-- What contracts see of a level.
use Rattle.pgv_ltree.specs.declared.level.PgLQueryLevel.{PgLQueryLevel}
use Rattle.pgv_ltree.specs.declared.level.PgLQueryLevel.TheVariants.{Star, NonStar, NotNonStar}
use Rattle.pgv_ltree.specs.Queries.{Level, star, one_of, none_of}

abbrev pub level_of : PgLQueryLevel → Level
level_of (Star low high) = star low high
level_of (NonStar vs) = one_of vs.items
level_of (NotNonStar vs) = none_of vs.items
