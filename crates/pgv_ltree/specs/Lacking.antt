-- Texts that lack a character, and where texts are cut at one.
use Rattle.std.specs.Prelude.{◌≡◌, ℕ, ◌==◌, not, true, false, List, [], ◌∷◌, ◌++◌, Some, None, option_map, refl}
use Rattle.std.specs.List.{join_with_byte, list_all}
use Rattle.std.proofs.Common.{ap, ◌∙◌}
use Rattle.std.proofs.lemmas.Bool.{eq-eqb, and_from, not-true, and_parts}
use Rattle.std.proofs.lemmas.List.Folds.{list_all-append}
use Rattle.pgv_ltree.specs.JoinLemmas.{lacks}
use Rattle.pgv_ltree.specs.QueryRead.{before_last, cut}
use Rattle.pgv_ltree.specs.QueryText.{has_mark}

pub lacks-append : (d : ℕ) (front after : List ℕ) → lacks d front ≡ true → lacks d after ≡ true → lacks d (front ++ after) ≡ true
lacks-append d front after e f = list_all-append (λ c. not (c == d)) front after ∙ and_from (lacks d front) (lacks d after) e f

-- parts that are joined by another character
pub lacks-joined : (d sep : ℕ) → not (sep == d) ≡ true → (parts : List (List ℕ)) → list_all (lacks d) parts ≡ true → lacks d (join_with_byte sep parts) ≡ true
lacks-joined d sep other [] e = refl
lacks-joined d sep other (part ∷ []) e = (and_parts (lacks d part) true e).0
lacks-joined d sep other (part ∷ next ∷ parts) e =
    let b = and_parts (lacks d part) (list_all (lacks d) (next ∷ parts)) e in
    lacks-append d part (sep ∷ join_with_byte sep (next ∷ parts)) b.0 (and_from (not (sep == d)) (lacks d (join_with_byte sep (next ∷ parts))) other (lacks-joined d sep other (next ∷ parts) b.1))

pub no_mark : (d : ℕ) (text : List ℕ) → lacks d text ≡ true → has_mark d text ≡ false
no_mark d [] e = refl
no_mark d (c ∷ text) e =
    let b = and_parts (not (c == d)) (lacks d text) e in
    rw (not-true (c == d) b.0, no_mark d text b.1) refl

pub cut_lacks : (d : ℕ) (text : List ℕ) → lacks d text ≡ true → cut d text ≡ None
cut_lacks d [] e = refl
cut_lacks d (c ∷ text) e =
    let b = and_parts (not (c == d)) (lacks d text) e in
    rw (not-true (c == d) b.0, cut_lacks d text b.1) refl

pub cut_there : (d : ℕ) (front after : List ℕ) → lacks d front ≡ true → cut d (front ++ d ∷ after) ≡ Some (front, after)
cut_there d [] after e = rw (eq-eqb d d refl) refl
cut_there d (c ∷ front) after e =
    let b = and_parts (not (c == d)) (lacks d front) e in
    rw (not-true (c == d) b.0, cut_there d front after b.1) refl

pub before_last_at : (d : ℕ) (front : List ℕ) → before_last d (front ++ d ∷ []) ≡ Some front
before_last_at d [] = rw (eq-eqb d d refl) refl
before_last_at d (c ∷ []) = rw (eq-eqb d d refl) refl
before_last_at d (c ∷ next ∷ front) = ap (option_map (λ (text : List ℕ). c ∷ text)) (before_last_at d (next ∷ front))
