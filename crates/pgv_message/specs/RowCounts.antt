-- How many rows a CommandComplete says (PostgreSQL: "Message Formats", CommandComplete): the number after the last
-- space of its text.
use Rattle.std.specs.Prelude.{ℕ, ◌^◌, ◌==◌, nat_lt, List, [], ◌∷◌, Option, Some, None, option_and_then, if◌then◌else◌}
use Rattle.pgv_characters.specs.Characters.{space}
use Rattle.pgv_scalar_text.specs.IntText.{unsigned_value}
use Rattle.pgv_value.specs.Text.{is_utf8}

-- the first of two, or else the second
abbrev pub or_else : {A : Type 0} → Option A → Option A → Option A
or_else (Some x) y = Some x
or_else None y = y

abbrev pub after_last_space : List ℕ → Option (List ℕ)
after_last_space [] = None
after_last_space (b ∷ rest) = or_else (after_last_space rest) (if b == space then Some rest else None)

-- a number that fits 64 bits
abbrev pub within_64 : Option ℕ → Option ℕ
within_64 None = None
within_64 (Some n) = if nat_lt n (2 ^ 64) then Some n else None

unfoldable pub row_count : List ℕ → Option ℕ
row_count text = option_and_then (λ word. if is_utf8 word then within_64 (unsigned_value word) else None) (after_last_space text)
