-- Names with one space between each two.
use Rattle.std.proofs.Common.{◌≡◌, ◌++◌, ◌∙◌, sym, ap, subst, ℕ, List, [], ◌∷◌, refl, Option, Some, None}
use Rattle.pgv_session.specs.Lines.{text_before, text_after, words}
use Rattle.pgv_session.specs.Spelled.{IsName, SpellsNames}
use Rattle.pgv_session.proofs.SplitLines.{joined, whole, split_joined, before_has_none, none_after}
use Rattle.pgv_session.proofs.Wording.{words_after, words_split}

pub names_found : (names : List (List ℕ)) (text : List ℕ) → SpellsNames names text → words text ≡ names
names_found [] text s = absurd s
names_found (name ∷ []) text s =
    let parts = split_joined 32 name None (none_after 32 name s.0) in
    ap words s.1 ∙ words_split name ∙ rw (parts.0, parts.1) refl
names_found (name ∷ next ∷ names) text s =
    let parts = split_joined 32 name (Some s.0) (none_after 32 name s.1) in
    ap words s.3 ∙ words_split (name ++ 32 ∷ s.0) ∙ rw (parts.0, parts.1, names_found (next ∷ names) s.0 s.2) refl

cons_is : (x y : List ℕ) (xs ys : List (List ℕ)) → x ∷ xs ≡ y ∷ ys → (x ≡ y) × (xs ≡ ys)
cons_is x y xs ys e = (cc, cc)

not_none : (x : List ℕ) (xs : List (List ℕ)) → x ∷ xs ≡ [] → ⊥
not_none x xs e = cc

names_after : (first text : List ℕ) (names : List (List ℕ)) (rest : Option (List ℕ)) → IsName first → text ≡ joined 32 first rest → words_after rest ≡ names → ((left : List ℕ) → words left ≡ names → SpellsNames names left) → SpellsNames (first ∷ names) text
names_after first text [] None n whole e more = (n, whole)
names_after first text (name ∷ names) None n whole e more = absurd cc
names_after first text [] (Some left) n whole e more = absurd (not_none (text_before 32 left) (words_after (text_after 32 left)) (sym (words_split left) ∙ e))
names_after first text (name ∷ names) (Some left) n whole e more = (left, n, more left e, whole)

pub names_are : (names : List (List ℕ)) (text : List ℕ) → words text ≡ names → SpellsNames names text
names_are [] text e = absurd (not_none (text_before 32 text) (words_after (text_after 32 text)) (sym (words_split text) ∙ e))
names_are (name ∷ names) text e =
    let p = cons_is (text_before 32 text) name (words_after (text_after 32 text)) names (sym (words_split text) ∙ e) in
    subst (λ (first : List ℕ). SpellsNames (first ∷ names) text) p.0 (names_after (text_before 32 text) text names (text_after 32 text) (before_has_none 32 text) (whole 32 text) p.1 (names_are names))
