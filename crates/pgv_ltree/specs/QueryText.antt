-- The texts of queries (PostgreSQL: appendix F, "ltree", lquery). A query's text (`IsQueryText`) is one or more levels
-- joined by `.`. A level's (`IsLevelText`) is a star in one of its spellings, variants joined by `|`, or `!` and such.
-- A variant's (`IsVariantText`) is a label and modifiers `*`, `@`, `%` in any order and number. Laws: what is computed
-- is exactly these (`query_is_read`, `level_is_read`, `variant_is_read`), and no text is two queries.
use Rattle.std.specs.Prelude.{◌≡◌, ◌≢◌, ◌⊎◌, ℕ, ◌<◌, ◌==◌, ◌||◌, Bool, true, false, codes, List, [], ◌∷◌, ◌++◌, length, Option, Some, None}
use Rattle.std.specs.List.{AllZip, join_with_byte, list_all, list_any}
use Rattle.std.specs.Str.{all_ascii_digits}
use Rattle.std.specs.Str.Parse.{digits_value}
use Rattle.pgv_characters.specs.Characters.{exclamation_mark, percent_sign, asterisk, dot, at_sign, vertical_bar}
use Rattle.pgv_ltree.specs.Labels.{is_label}
use Rattle.pgv_ltree.specs.Queries.{Variant, Level, star, one_of, none_of}

-- ---- variants

-- a modifier is one of `*`, `@` and `%`
abbrev pub is_mark : ℕ → Bool
is_mark c = c == asterisk || c == at_sign || c == percent_sign

abbrev pub has_mark : ℕ → List ℕ → Bool
has_mark mark marks = list_any (λ c. c == mark) marks

-- The text is that of a variant: its label, and modifiers in any order and number.
pub record IsVariantText (text : List ℕ) (v : Variant) : Type 0 where
  pub marks : List ℕ
  pub label : is_label v.label ≡ true
  pub each : list_all is_mark marks ≡ true
  pub whole : text ≡ v.label ++ marks
  pub any_end : v.any_end ≡ has_mark asterisk marks
  pub in_case : v.in_case ≡ has_mark at_sign marks
  pub sublexeme : v.sublexeme ≡ has_mark percent_sign marks

-- The text is that of variants, joined by bars.
pub record AreVariantsText (text : List ℕ) (vs : List Variant) : Type 0 where
  pub texts : List (List ℕ)
  pub some : texts ≢ []
  pub each : AllZip IsVariantText texts vs
  pub whole : text ≡ join_with_byte vertical_bar texts

-- ---- stars

-- The text is a number of levels: one or more digits, of a number below 65536.
pub record IsCountText (text : List ℕ) (n : ℕ) : Type 0 where
  pub some : 0 < length text
  pub digits : all_ascii_digits text ≡ true
  pub value : n ≡ digits_value 10 text
  pub small : n < 65536

-- a number of levels, where there is one
abbrev pub IsBoundText : List ℕ → Option ℕ → Type 0
IsBoundText text None = text ≡ []
IsBoundText text (Some n) = IsCountText text n

-- a star alone
abbrev pub IsFreeStar : List ℕ → Option ℕ → Option ℕ → Type 0
IsFreeStar text low high = (text ≡ codes "*") × (low ≡ None) × (high ≡ None)

-- a star of exactly this number of levels
abbrev pub IsExactStar : List ℕ → Option ℕ → Option ℕ → Type 0
IsExactStar text low high = (n : ℕ) × (count : List ℕ) × IsCountText count n × (text ≡ codes "*{" ++ count ++ codes "}") × (low ≡ Some n) × (high ≡ Some n)

-- a star of at least and at most these numbers of levels, of which one may be missing
abbrev pub IsBoundedStar : List ℕ → Option ℕ → Option ℕ → Type 0
IsBoundedStar text low high =
    (least : List ℕ) × (most : List ℕ) × IsBoundText least low × IsBoundText most high × ((least ≡ []) × (most ≡ []) → ⊥)
    × (text ≡ codes "*{" ++ least ++ codes "," ++ most ++ codes "}")

-- ---- levels and queries

-- the text begins with `*`
abbrev pub begins_with_star : List ℕ → Bool
begins_with_star [] = false
begins_with_star (c ∷ text) = c == asterisk

-- The text is that of a level.
abbrev pub IsLevelText : List ℕ → Level → Type 0
IsLevelText text (star low high) = IsFreeStar text low high ⊎ IsExactStar text low high ⊎ IsBoundedStar text low high
IsLevelText text (one_of vs) = (text ≢ []) × (begins_with_star text ≡ false) × AreVariantsText text vs
IsLevelText text (none_of vs) = (rest : List ℕ) × (text ≡ exclamation_mark ∷ rest) × AreVariantsText rest vs

-- The text is that of a query: levels, joined by dots.
pub record IsQueryText (text : List ℕ) (levels : List Level) : Type 0 where
  pub texts : List (List ℕ)
  pub some : texts ≢ []
  pub each : AllZip IsLevelText texts levels
  pub whole : text ≡ join_with_byte dot texts
