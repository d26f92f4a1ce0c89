-- Labels, as PostgreSQL has them from version 16 on (appendix F, "ltree", Definitions): at most 1000 (`label_limit`)
-- ASCII letters, digits, `_` and `-` (`is_label_char`), perhaps none.
use Rattle.std.specs.Prelude.{ℕ, nat_le, Bool, ◌&&◌, ◌||◌, ◌==◌, List, length, Result, Ok, Err, if◌then◌else◌}
use Rattle.std.specs.Char.{is_ascii_alphanumeric}
use Rattle.std.specs.List.{list_all}
use Rattle.pgv_characters.specs.Characters.{hyphen, underscore}
use Rattle.pgv_value.specs.declared.tree_error.PgLTreeParseError.{PgLTreeParseError}
use Rattle.pgv_value.specs.declared.tree_error.PgLTreeParseError.TheVariants.{InvalidLtreeLabel}

-- the characters of labels: ASCII letters, digits, `_` and `-`
abbrev pub is_label_char : ℕ → Bool
is_label_char c = is_ascii_alphanumeric c || c == underscore || c == hyphen

-- the longest label, in characters
abbrev pub label_limit : ℕ
label_limit = 1000

-- a text that is a label; the empty text is one
abbrev pub is_label : List ℕ → Bool
is_label text = nat_le (length text) label_limit && list_all is_label_char text

-- the label of a text
abbrev pub label_read : List ℕ → Result (List ℕ) PgLTreeParseError
label_read text = if is_label text then Ok text else Err InvalidLtreeLabel
