-- Parts that are joined by a byte that none of them has are split there again.
use Rattle.std.specs.Prelude.{◌≡◌, ℕ, ◌==◌, not, Bool, true, false, List, [], ◌∷◌, refl}
use Rattle.std.specs.List.{All, join_with_byte, list_all, slice_split}
use Rattle.std.proofs.Common.{sym, ap, ◌∙◌}
use Rattle.std.proofs.lemmas.Bool.{eq-eqb, ne_eqb, false≢true, and_from, not-true, and_parts}
use Rattle.std.proofs.lemmas.List.Splits.{slice_split_at, slice_split_none}
use Rattle.std.proofs.lemmas.List.Sums.{AllPass-from_list_all}

-- ---- tests

-- what passes one test passes a wider one
pub wider : {X : Type 0} (p q : X → Bool) → ((x : X) → p x ≡ true → q x ≡ true) → (xs : List X) → list_all p xs ≡ true → list_all q xs ≡ true
wider p q h [] e = refl
wider p q h (x ∷ xs) e =
    let b = and_parts (p x) (list_all p xs) e in
    and_from (q x) (list_all q xs) (h x b.0) (wider p q h xs b.1)

-- ---- parts

-- a part without the byte
abbrev pub lacks : ℕ → List ℕ → Bool
lacks d part = list_all (λ c. not (c == d)) part

-- a character that passes a test is another than one that does not
pub other_char : (p : ℕ → Bool) (d : ℕ) → p d ≡ false → (c : ℕ) → p c ≡ true → not (c == d) ≡ true
other_char p d n c h = ap not (ne_eqb c d (λ e. false≢true (sym n ∙ ap p (sym e) ∙ h)))

lacks_all : (d : ℕ) (part : List ℕ) → lacks d part ≡ true → All (λ c. (c == d) ≡ false) part
lacks_all d part e k x l = not-true _ (AllPass-from_list_all (λ c. not (c == d)) part e k x l)

pub split_again : (d : ℕ) (part : List ℕ) (parts : List (List ℕ)) → list_all (lacks d) (part ∷ parts) ≡ true → slice_split (λ c. c == d) (join_with_byte d (part ∷ parts)) ≡ part ∷ parts
split_again d part [] e = slice_split_none (λ c. c == d) part (lacks_all d part (and_parts (lacks d part) true e).0)
split_again d part (next ∷ parts) e =
    let b = and_parts (lacks d part) (list_all (lacks d) (next ∷ parts)) e in
    slice_split_at (λ c. c == d) part d (join_with_byte d (next ∷ parts)) (lacks_all d part b.0) (eq-eqb d d refl)
    ∙ ap (λ t. part ∷ t) (split_again d next parts b.1)
