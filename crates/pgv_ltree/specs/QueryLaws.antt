-- The laws of queries of label trees.
use Rattle.std.specs.Prelude.{◌≡◌, ◌↔◌, ℕ, not, ◌&&◌, Bool, true, List, [], ◌∷◌, Ok}
use Rattle.std.specs.List.{list_all}
use Rattle.pgv_ltree.specs.Queries.{Variant, Level, star, one_of, none_of, is_query}
use Rattle.pgv_ltree.specs.QueryBackLemmas.{comes_back}
use Rattle.pgv_ltree.specs.QueryPrinted.{printed_query}
use Rattle.pgv_ltree.specs.QueryRead.{is_nil, level_read, query_read, variant_read}
use Rattle.pgv_ltree.specs.QueryText.{IsLevelText, IsQueryText, IsVariantText}

-- a variant, a level or a query is read from a text iff the grammar assigns it to the text
unfoldable pub VariantIsRead : Type 0
VariantIsRead = (text : List ℕ) (v : Variant) → (variant_read text ≡ Ok v) ↔ IsVariantText text v

unfoldable pub LevelIsRead : Type 0
LevelIsRead = (text : List ℕ) (l : Level) → (level_read text ≡ Ok l) ↔ IsLevelText text l

unfoldable pub QueryIsRead : Type 0
QueryIsRead = (text : List ℕ) (levels : List Level) → (query_read text ≡ Ok levels) ↔ IsQueryText text levels

-- a text is at most one variant, level or query
unfoldable pub OneVariant : Type 0
OneVariant = (text : List ℕ) (v w : Variant) → IsVariantText text v → IsVariantText text w → v ≡ w

unfoldable pub OneLevel : Type 0
OneLevel = (text : List ℕ) (l m : Level) → IsLevelText text l → IsLevelText text m → l ≡ m

unfoldable pub OneQuery : Type 0
OneQuery = (text : List ℕ) (first second : List Level) → IsQueryText text first → IsQueryText text second → first ≡ second

-- a query that has a level, in which each level that is not a star has a variant and no level of one of some variants
-- begins with an empty label, is read back from its printed text
unfoldable pub PrintedQueryIsRead : Type 0
PrintedQueryIsRead = (levels : List Level) → is_query levels ≡ true → comes_back levels ≡ true → query_read (printed_query levels) ≡ Ok levels

-- a level of one of some variants does not begin with an empty label that carries `*`
abbrev pub begins_with_no_star : Level → Bool
begins_with_no_star (star low high) = true
begins_with_no_star (one_of []) = true
begins_with_no_star (one_of (v ∷ vs)) = not (is_nil v.label && v.any_end)
begins_with_no_star (none_of vs) = true

-- a query that was read from a text and has no such level is read back from its printed text
unfoldable pub ReadQueryIsReadAgain : Type 0
ReadQueryIsReadAgain = (text : List ℕ) (levels : List Level) → query_read text ≡ Ok levels → list_all begins_with_no_star levels ≡ true → query_read (printed_query levels) ≡ Ok levels
