use mir.Syntax.{w8}
use mir.Val.{of_z, to_z}
use Rattle.std.proofs.Common.{◌≡◌, ◌∙◌, ◌<◌, ◌≤◌, ◌-◌, ◌^◌, ℕ, ℤ, pos, List, [], ◌∷◌, Option, None, Some, ap, cond, option_map, get_or, length, refl, sym, arith, rules}
use Rattle.std.specs.Int.{cast_signed}
use Rattle.std.specs.List.{slice_range}
use Rattle.std.specs.Option.{IsSomeAnd, MatchOption}
use Rattle.std.proofs.lemmas.Bool.{ne_eqb}
use Rattle.std.proofs.lemmas.Int.{of_z-to_z}
use Rattle.std.proofs.lemmas.List.{take_all}
use Rattle.pgv_scalar_text.specs.ScalarText.{after_backslash, char_value, octal_byte}
use Rattle.pgv_scalar_text.proofs.int.char_of.Goals as goal

char_of_none : (text bytes : List ℕ) → bytes ≡ text → length bytes < 1 → Some (pos 0) ≡ char_value text
char_of_none [] bytes same lt = refl
char_of_none (x ∷ xs) bytes same lt = absurd (let longer = ap length same in omega (arith, lt, longer))

char_of_backslash : (text bytes : List ℕ) → bytes ≡ text → 1 ≤ length bytes → length bytes < 2 → get_or bytes 0 0 ≡ 92 → Some (pos 92) ≡ char_value text
char_of_backslash [] bytes same le lt e = absurd (let longer = ap length same in omega (arith, le, longer))
char_of_backslash (x ∷ []) bytes same le lt e = let is : x ≡ 92 = sym (ap (λ t. get_or t 0 0) same) ∙ e in ap (λ y. char_value (y ∷ [])) (sym is)
char_of_backslash (x ∷ y ∷ ys) bytes same le lt e = absurd (let longer = ap length same in omega (arith, lt, longer))

-- the byte after a backslash, as a signed one
cast : (read : Option ℕ) (found : Option ℤ) (Is : ℕ → ℤ → Type 0) → ((b : ℕ) (z : ℤ) → Is b z → z ≡ cast_signed w8 b) → MatchOption read (found ≡ None) (λ b. IsSomeAnd found (Is b)) →
    found ≡ option_map (cast_signed w8) read
cast None found Is is h = h
cast (Some b) None Is is h = absurd h
cast (Some b) (Some z) Is is h = ap Some (is b z h)

char_of_octal : (text bytes : List ℕ) → bytes ≡ text → 2 ≤ length bytes → get_or bytes 0 0 ≡ 92 → option_map (cast_signed w8) (octal_byte (slice_range bytes 1 (length bytes))) ≡ char_value text
char_of_octal [] bytes same le e = absurd (let longer = ap length same in omega (arith, le, longer))
char_of_octal (x ∷ []) bytes same le e = absurd (let longer = ap length same in omega (arith, le, longer))
char_of_octal (x ∷ y ∷ ys) bytes same le e =
    let is : x ≡ 92 = sym (ap (λ t. get_or t 0 0) same) ∙ e in
    ap (λ t. option_map (cast_signed w8) (octal_byte (slice_range t 1 (length t)))) same
    ∙ (ap (λ t. option_map (cast_signed w8) (octal_byte t)) (take_all (length (x ∷ y ∷ ys) - 1) (y ∷ ys) (omega arith)) ∙ ap (λ z. char_value (z ∷ y ∷ ys)) (sym is))

char_of_first : (text bytes : List ℕ) (z : ℤ) → bytes ≡ text → 1 ≤ length bytes → (get_or bytes 0 0 ≡ 92 → ⊥) → get_or bytes 0 0 < 2 ^ 8 → z ≡ to_z w8 (get_or bytes 0 0) →
    Some (to_z w8 (of_z w8 z)) ≡ char_value text
char_of_first [] bytes z same le other fits is = absurd (let longer = ap length same in omega (arith, le, longer))
char_of_first (x ∷ xs) bytes z same le other fits is =
    let first : get_or bytes 0 0 ≡ x = ap (λ t. get_or t 0 0) same in
    ap (λ y. Some (to_z w8 (of_z w8 y))) is
    ∙ (ap (λ n. Some (to_z w8 n)) (of_z-to_z w8 (get_or bytes 0 0) fits ∙ first) ∙ ap (λ b. cond b (after_backslash xs) (Some (cast_signed w8 x))) (sym (ne_eqb x 92 (λ e. other (first ∙ e)))))

pub returns-in-empty : goal.returns-in-empty
returns-in-empty c = char_of_none c.args.text.now c.as_bytes.result.now c.as_bytes.ensures.value c.in-empty.len_below

pub returns-in-92 : goal.returns-in-92
returns-in-92 c =
    let first : get_or c.as_bytes.result.now 0 0 ≡ 92 = search rules in
    char_of_backslash c.args.text.now c.as_bytes.result.now c.as_bytes.ensures.value c.in-92.len_at_least c.in-92.len_below first

pub returns-in-92-2 : goal.returns-in-92-2
returns-in-92-2 c =
    let first : get_or c.as_bytes.result.now 0 0 ≡ 92 = search rules in
    cast c.octal_byte_of.result c.map.result _ (λ b z p. search rules) c.map.ensures.cases
    ∙ (ap (option_map (cast_signed w8)) c.octal_byte_of.ensures ∙ char_of_octal c.args.text.now c.as_bytes.result.now c.as_bytes.ensures.value c.in-92-2.len_at_least first)

pub returns-in-len1-up : goal.returns-in-len1-up
returns-in-len1-up c =
    let some : 1 ≤ length c.as_bytes.result.now = search rules in
    let other : get_or c.as_bytes.result.now 0 0 ≡ 92 → ⊥ = search rules in
    char_of_first c.args.text.now c.as_bytes.result.now c.cast_signed.result c.as_bytes.ensures.value some other
    (omega (arith, c.type_inv.text 0, ap (λ t. get_or t 0 0) c.as_bytes.ensures.value)) c.cast_signed.ensures
