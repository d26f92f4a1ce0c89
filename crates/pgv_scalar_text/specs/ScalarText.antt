-- The texts of "char" and of truth values (PostgreSQL: "Character Types", 8.3; "Boolean Type", 8.6). A "char"
-- (`char_value`): the empty text is 0, `\` alone is itself, and `\` and three octal digits up to 377 are that byte,
-- wrapped. Other texts that begin with `\` are invalid. Any other text is its first byte, wrapped. A truth value
-- (`bool_value`) is `t` or `f`.
use mir.Syntax.{w8}
use Rattle.std.specs.Prelude.{ℕ, ◌+◌, ◌-◌, ◌*◌, ℤ, pos, Bool, true, false, if◌then◌else◌, ◌&&◌, nat_le, ◌==◌, codes, List, [], ◌∷◌, Option, Some, None}
use Rattle.std.specs.Option.{option_map}
use Rattle.std.specs.Int.{cast_signed}
use Rattle.std.specs.Str.{bytes_eq}
use Rattle.pgv_characters.specs.Characters.{digit_zero, digit_three, digit_seven, backslash}

abbrev pub is_octal : ℕ → Bool
is_octal c = nat_le digit_zero c && nat_le c digit_seven

-- The byte of three octal digits, the first at most 3.
abbrev pub octal_byte : List ℕ → Option ℕ
octal_byte (a ∷ b ∷ c ∷ []) = if is_octal a && nat_le a digit_three && is_octal b && is_octal c then Some ((a - digit_zero) * 64 + (b - digit_zero) * 8 + (c - digit_zero)) else None
octal_byte _ = None

-- What is after a backslash: nothing, for the backslash itself, or a byte.
abbrev pub after_backslash : List ℕ → Option ℤ
after_backslash [] = Some (pos backslash)
after_backslash (c ∷ cs) = option_map (cast_signed w8) (octal_byte (c ∷ cs))

-- A "char" is one byte, here as a signed number of 8 bits; no text is the byte 0.
abbrev pub char_value : List ℕ → Option ℤ
char_value [] = Some (pos 0)
char_value (c ∷ cs) = if c == backslash then after_backslash cs else Some (cast_signed w8 c)

abbrev pub bool_value : List ℕ → Option Bool
bool_value text = if bytes_eq text (codes "t") then Some true else if bytes_eq text (codes "f") then Some false else None
