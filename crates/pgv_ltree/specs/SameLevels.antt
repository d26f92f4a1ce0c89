-- Equality of levels by what they mean.
use Rattle.std.specs.Cmp.{IsPartialEquivalence, IsEquivalence, on_equiv, on_per}
use Rattle.std.specs.Prelude.{Bool}
use Rattle.pgv_ltree.specs.LevelView.{level_of}
use Rattle.pgv_ltree.specs.SameQueries.{same_level, same_level_equiv, same_level_per}
use Rattle.pgv_ltree.specs.declared.level.PgLQueryLevel.{PgLQueryLevel}

abbrev pub mean_the_same : PgLQueryLevel → PgLQueryLevel → Bool
mean_the_same l m = same_level (level_of l) (level_of m)

pub mean_the_same_equiv : IsEquivalence mean_the_same
mean_the_same_equiv = on_equiv level_of same_level_equiv

pub mean_the_same_per : IsPartialEquivalence mean_the_same
mean_the_same_per = on_per level_of same_level_per
