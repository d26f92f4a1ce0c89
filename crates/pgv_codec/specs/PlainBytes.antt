-- Plain bytes that are appended in parts.
use Rattle.std.specs.Prelude.{◌≡◌, ℕ, List, [], ◌∷◌, ◌++◌, refl}
use Rattle.std.proofs.Common.{sym, ap, ◌∙◌, append_assoc}
use Rattle.pgv_buf.specs.Tokens.{Token, Cell, byte, bytes, blank}
use Rattle.pgv_buf.specs.Blank.{blank-append}

pub bytes-append : (front after : List ℕ) → bytes (front ++ after) ≡ bytes front ++ bytes after
bytes-append [] after = refl
bytes-append (x ∷ front) after = ap (λ (ts : List Token). byte x ∷ ts) (bytes-append front after)

-- one part after another
pub appended_parts : (was between now : List Cell) (front after : List ℕ) → between ≡ was ++ blank (bytes front) → now ≡ between ++ blank (bytes after) → now ≡ was ++ blank (bytes (front ++ after))
appended_parts was between now front after first second =
    second ∙ ap (λ (xs : List Cell). xs ++ blank (bytes after)) first ∙ append_assoc was (blank (bytes front)) (blank (bytes after))
    ∙ ap (λ (xs : List Cell). was ++ xs) (sym (blank-append (bytes front) (bytes after)) ∙ ap blank (sym (bytes-append front after)))
