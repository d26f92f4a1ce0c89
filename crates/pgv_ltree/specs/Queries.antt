-- Queries of label trees as values (PostgreSQL: "ltree", lquery): a list of levels.
use Rattle.std.specs.Prelude.{ℕ, ◌&&◌, nat_lt, Bool, true, List, Option, Some, None}
use Rattle.std.specs.List.{list_all}
use Rattle.pgv_ltree.specs.Labels.{is_label}

-- a label and its modifiers: whether it is only the beginning of a label, whether case is ignored, and whether it may
-- be a word of a label
pub record Variant : Type 0 where
  pub label : List ℕ
  pub any_end : Bool
  pub in_case : Bool
  pub sublexeme : Bool

-- any labels, at least and at most as many as these numbers say, where they are given; a label of one of the variants;
-- a label of none of them
pub data Level : Type 0 where
  star : Option ℕ → Option ℕ → Level
  one_of : List Variant → Level
  none_of : List Variant → Level

-- ---- values that can be: their labels are labels, and their numbers have sixteen bits

abbrev pub is_variant : Variant → Bool
is_variant v = is_label v.label

abbrev pub is_count : Option ℕ → Bool
is_count None = true
is_count (Some n) = nat_lt n 65536

abbrev pub is_level : Level → Bool
is_level (star low high) = is_count low && is_count high
is_level (one_of vs) = list_all is_variant vs
is_level (none_of vs) = list_all is_variant vs

abbrev pub is_query : List Level → Bool
is_query levels = list_all is_level levels
