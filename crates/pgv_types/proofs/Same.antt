-- Names with brackets after them, or none.
use Rattle.std.proofs.Common.{◌≡◌, ℕ, Bool, true, false, List, [], ◌∷◌, ◌++◌, ap, ◌∙◌, sym, refl, arith, codes}
use Rattle.std.specs.Prelude.{Decides}
use Rattle.std.specs.Str.{chars, bytes_eq, IsUtf8}
use Rattle.std.proofs.lemmas.Str.{chars-append}
use Rattle.std.proofs.lemmas.List.{append_cancel_right}
use Rattle.std.proofs.lemmas.Slice.Eq.{bytes_eq-Decides}
use Rattle.std.proofs.lemmas.Bool.{eqb-true}
use Rattle.std.proofs.lemmas.Bool.Decides.{same_from_decides, Decides-like}
use Rattle.pgv_types.specs.Facts.{same_built_in}
use Rattle.pgv_types.specs.Ty.{Ty, builtin, custom, named, by_oid, array_of}
use Rattle.pgv_types.specs.Suffix.{suffix_of}
use Rattle.pgv_types.specs.Agree.{BeginsUnicode}
use Rattle.pgv_types.proofs.Tells.{first_of, second_of}

pub letters_append : (text : List ℕ) (brackets : Bool) → IsUtf8 text → chars (text ++ suffix_of brackets) ≡ chars text ++ chars (suffix_of brackets)
letters_append text brackets u = chars-append text (suffix_of brackets) u

pub same_before : (text front rest : List ℕ) → text ≡ rest ++ codes "[]" → bytes_eq rest front ≡ bytes_eq text (front ++ codes "[]")
same_before text front rest e =
    same_from_decides (bytes_eq rest front) (bytes_eq text (front ++ codes "[]"))
    (Decides-like (bytes_eq rest front) (λ (q : rest ≡ front). e ∙ ap (λ l. l ++ codes "[]") q) (λ (q : text ≡ front ++ codes "[]"). append_cancel_right rest front (codes "[]") (sym e ∙ q)) (bytes_eq-Decides rest front))
    (bytes_eq-Decides text (front ++ codes "[]"))

never_same : (text front : List ℕ) (t : Bool) → ((whole : List ℕ) → text ≡ whole ++ codes "[]" → ⊥) → Decides t (text ≡ front ++ codes "[]") → false ≡ t
never_same text front true n d = absurd (n front (d.0 refl))
never_same text front false n d = refl

pub not_same : (text front : List ℕ) → ((whole : List ℕ) → text ≡ whole ++ codes "[]" → ⊥) → false ≡ bytes_eq text (front ++ codes "[]")
not_same text front n = never_same text front (bytes_eq text (front ++ codes "[]")) n (bytes_eq-Decides text (front ++ codes "[]"))

pub bytes_eq_sym : (a b : List ℕ) → bytes_eq a b ≡ bytes_eq b a
bytes_eq_sym a b =
    same_from_decides (bytes_eq a b) (bytes_eq b a) (bytes_eq-Decides a b) (Decides-like (bytes_eq b a) (λ (q : b ≡ a). sym q) (λ (q : a ≡ b). sym q) (bytes_eq-Decides b a))

-- brackets after a text don't change whether it begins with U&
none_alone : (brackets : Bool) (rest : List ℕ) → suffix_of brackets ≡ 85 ∷ 38 ∷ rest → ⊥
none_alone true rest e = let q : 91 ≡ 85 = ap first_of e in absurd (omega (arith, q))
none_alone false rest e = let q : 0 ≡ 85 = ap first_of e in absurd (omega (arith, q))

none_after : (c : ℕ) (brackets : Bool) (rest : List ℕ) → c ∷ suffix_of brackets ≡ 85 ∷ 38 ∷ rest → ⊥
none_after c true rest e = let q : 91 ≡ 38 = ap second_of e in absurd (omega (arith, q))
none_after c false rest e = let q : 0 ≡ 38 = ap second_of e in absurd (omega (arith, q))

whole_begins : (text : List ℕ) (brackets : Bool) → BeginsUnicode (text ++ suffix_of brackets) → BeginsUnicode text
whole_begins [] brackets h = absurd (none_alone brackets h.0 h.1)
whole_begins (c ∷ []) brackets h = absurd (none_after c brackets h.0 h.1)
whole_begins (c ∷ d ∷ cs) brackets h =
    let e : c ≡ 85 = ap first_of h.1 in
    let f : d ≡ 38 = ap second_of h.1 in
    (cs, ap (λ x. x ∷ d ∷ cs) e ∙ ap (λ x. 85 ∷ x ∷ cs) f)

pub begins_whole : (r : Bool) (text : List ℕ) (brackets : Bool) → Decides r (BeginsUnicode text) → Decides r (BeginsUnicode (text ++ suffix_of brackets))
begins_whole r text brackets d =
    Decides-like r (λ (h : BeginsUnicode text). (h.0 ++ suffix_of brackets, ap (λ l. l ++ suffix_of brackets) h.1)) (λ (h : BeginsUnicode (text ++ suffix_of brackets)). whole_begins text brackets h) d

pub same_after : (a b s : List ℕ) → bytes_eq a b ≡ bytes_eq (a ++ s) (b ++ s)
same_after a b s =
    same_from_decides (bytes_eq a b) (bytes_eq (a ++ s) (b ++ s)) (bytes_eq-Decides a b)
    (Decides-like (bytes_eq (a ++ s) (b ++ s)) (λ (q : a ++ s ≡ b ++ s). append_cancel_right a b s q) (λ (q : a ≡ b). ap (λ l. l ++ s) q) (bytes_eq-Decides (a ++ s) (b ++ s)))

-- ---- one OID

-- two types with one built-in OID are one
pub one_type : (t u : Ty) → same_built_in t u ≡ true → t ≡ u
one_type (builtin o) (builtin p) e = ap builtin (eqb-true o p e)
one_type (builtin o) (custom p n k) e = absurd cc
one_type (builtin o) (named n) e = absurd cc
one_type (builtin o) (by_oid p) e = absurd cc
one_type (builtin o) (array_of n) e = absurd cc
one_type (custom o n k) u e = absurd cc
one_type (named n) u e = absurd cc
one_type (by_oid o) u e = absurd cc
one_type (array_of n) u e = absurd cc
