-- Texts of ASCII characters are UTF-8.
use Rattle.std.specs.Prelude.{◌≡◌, ℕ, zero, suc, nat_lt, true, Bool, List, [], ◌∷◌, ◌++◌}
use Rattle.std.specs.List.{join_with_byte, list_all}
use Rattle.std.specs.Str.{IsAscii}
use Rattle.std.proofs.Common.{arith, refl, ◌∙◌}
use Rattle.std.proofs.lemmas.Bool.{ltb-true, eq-eqb, and_from, and_parts}
use Rattle.std.proofs.lemmas.List.Folds.{list_all-append}
use Rattle.std.proofs.lemmas.Str.{IsUtf8-from_ascii, utf8_valid_len-IsUtf8}
use Rattle.pgv_value.specs.Text.{is_utf8}

-- whether a character is ASCII
abbrev pub is_ascii : ℕ → Bool
is_ascii c = nat_lt c 128

-- whether all are
abbrev pub are_ascii : List ℕ → Bool
are_ascii text = list_all is_ascii text

each_ascii : (text : List ℕ) → are_ascii text ≡ true → IsAscii text
each_ascii [] e i = omega arith
each_ascii (c ∷ text) e zero = ltb-true c 128 (and_parts (is_ascii c) (are_ascii text) e).0
each_ascii (c ∷ text) e (suc i) = each_ascii text (and_parts (is_ascii c) (are_ascii text) e).1 i

pub ascii_is_utf8 : (text : List ℕ) → are_ascii text ≡ true → is_utf8 text ≡ true
ascii_is_utf8 text e = eq-eqb _ _ (utf8_valid_len-IsUtf8 text (IsUtf8-from_ascii text (each_ascii text e)))

pub ascii_append : (front after : List ℕ) → are_ascii front ≡ true → are_ascii after ≡ true → are_ascii (front ++ after) ≡ true
ascii_append front after e f = list_all-append is_ascii front after ∙ and_from (are_ascii front) (are_ascii after) e f

-- parts that are joined by an ASCII character
pub ascii_joined : (d : ℕ) → is_ascii d ≡ true → (parts : List (List ℕ)) → list_all are_ascii parts ≡ true → are_ascii (join_with_byte d parts) ≡ true
ascii_joined d a [] e = refl
ascii_joined d a (part ∷ []) e = (and_parts (are_ascii part) true e).0
ascii_joined d a (part ∷ next ∷ parts) e =
    let b = and_parts (are_ascii part) (list_all are_ascii (next ∷ parts)) e in
    ascii_append part (d ∷ join_with_byte d (next ∷ parts)) b.0 (and_from (is_ascii d) (are_ascii (join_with_byte d (next ∷ parts))) a (ascii_joined d a (next ∷ parts) b.1))
