-- Lines, split at a mark and put together.
use Rattle.std.proofs.Common.{◌≡◌, ◌≢◌, ◌++◌, ◌∙◌, sym, ap, subst, ℕ, ◌==◌, Bool, true, false, if◌then◌else◌, List, [], ◌∷◌, refl, Option, Some, None}
use Rattle.std.specs.Prelude.{bytes_eq}
use Rattle.std.specs.List.{AllByRecursion}
use Rattle.std.proofs.lemmas.Slice.Eq.{bytes_eq-Decides}
use Rattle.std.proofs.lemmas.Bool.{eqb-true, eqb-false, eq-eqb, ne_eqb}
use Rattle.pgv_session.specs.Lines.{text_before, text_after}

-- ---- a line is split at its first mark

abbrev pub joined : ℕ → List ℕ → Option (List ℕ) → List ℕ
joined mark word None = word
joined mark word (Some rest) = word ++ mark ∷ rest

joined_more : (mark c : ℕ) (word : List ℕ) (rest : Option (List ℕ)) → joined mark (c ∷ word) rest ≡ c ∷ joined mark word rest
joined_more mark c word None = refl
joined_more mark c word (Some rest) = refl

whole_at : (mark c : ℕ) (cs : List ℕ) (b : Bool) → (c == mark) ≡ b → cs ≡ joined mark (text_before mark cs) (text_after mark cs) →
    c ∷ cs ≡ joined mark (text_before mark (c ∷ cs)) (text_after mark (c ∷ cs))
whole_at mark c cs true e h = rw e (ap (λ (d : ℕ). d ∷ cs) (eqb-true c mark e))
whole_at mark c cs false e h = rw e (ap (λ (ds : List ℕ). c ∷ ds) h ∙ sym (joined_more mark c (text_before mark cs) (text_after mark cs)))

-- put together again
pub whole : (mark : ℕ) (line : List ℕ) → line ≡ joined mark (text_before mark line) (text_after mark line)
whole mark [] = refl
whole mark (c ∷ cs) = whole_at mark c cs (c == mark) refl (whole mark cs)

abbrev IsSplit : ℕ → List ℕ → List ℕ → Option (List ℕ) → Type 0
IsSplit mark line word rest = (text_before mark line ≡ word) × (text_after mark line ≡ rest)

split_at : (mark c : ℕ) (word : List ℕ) (rest : Option (List ℕ)) (b : Bool) → (c == mark) ≡ b → text_after mark (c ∷ word) ≡ None →
    (text_after mark word ≡ None → IsSplit mark (joined mark word rest) word rest) → IsSplit mark (c ∷ joined mark word rest) (c ∷ word) rest
split_at mark c word rest true e none h = let found : text_after mark (c ∷ word) ≡ Some word = rw e refl in absurd cc
split_at mark c word rest false e none h =
    let left : text_after mark (c ∷ word) ≡ text_after mark word = rw e refl in
    let parts = h (sym left ∙ none) in
    rw e (ap (λ (ds : List ℕ). c ∷ ds) parts.0, parts.1)

pub split_joined : (mark : ℕ) (word : List ℕ) (rest : Option (List ℕ)) → text_after mark word ≡ None → IsSplit mark (joined mark word rest) word rest
split_joined mark [] None none = (refl, refl)
split_joined mark [] (Some rest) none = let same : (mark == mark) ≡ true = eq-eqb mark mark refl in rw same (refl, refl)
split_joined mark (c ∷ word) rest none =
    subst (λ (line : List ℕ). IsSplit mark line (c ∷ word) rest) (sym (joined_more mark c word rest))
    (split_at mark c word rest (c == mark) refl none (split_joined mark word rest))

-- what is before a mark has none
before_at : (mark c : ℕ) (cs : List ℕ) (b : Bool) → (c == mark) ≡ b → AllByRecursion (λ d. d ≢ mark) (text_before mark cs) → AllByRecursion (λ d. d ≢ mark) (text_before mark (c ∷ cs))
before_at mark c cs true e h = rw e tt
before_at mark c cs false e h = rw e (eqb-false c mark e, h)

pub before_has_none : (mark : ℕ) (line : List ℕ) → AllByRecursion (λ d. d ≢ mark) (text_before mark line)
before_has_none mark [] = tt
before_has_none mark (c ∷ cs) = before_at mark c cs (c == mark) refl (before_has_none mark cs)

-- and nothing comes after one in what has none
pub none_after : (mark : ℕ) (word : List ℕ) → AllByRecursion (λ d. d ≢ mark) word → text_after mark word ≡ None
none_after mark [] h = refl
none_after mark (c ∷ cs) h = let other : (c == mark) ≡ false = ne_eqb c mark h.0 in rw other (none_after mark cs h.1)

-- ---- a word among some

by_test : {A Q : Type 0} (word name : List ℕ) (this rest : Option A) (x : A) (b : Bool) → bytes_eq word name ≡ b → (word ≡ name → this ≡ Some x → Q) → (rest ≡ Some x → Q) →
    (if b then this else rest) ≡ Some x → Q
by_test word name this rest x true e here there h = here ((bytes_eq-Decides word name).0 e) h
by_test word name this rest x false e here there h = there h

pub word_or : {A Q : Type 0} (word name : List ℕ) (this rest : Option A) (x : A) → (word ≡ name → this ≡ Some x → Q) → (rest ≡ Some x → Q) → (if bytes_eq word name then this else rest) ≡ Some x → Q
word_or word name this rest x here there h = by_test word name this rest x (bytes_eq word name) refl here there h
