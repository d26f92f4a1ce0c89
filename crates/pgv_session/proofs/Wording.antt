-- Words, and the numbers that they are.
use Rattle.std.proofs.Common.{◌≡◌, ◌++◌, ◌+◌, ◌≤◌, ◌<◌, ◌∙◌, sym, ap, List, ℕ, [], ◌∷◌, ◌==◌, Bool, true, false, refl, length, append_assoc, arith}
use Rattle.std.specs.Prelude.{Option, Some, None, option_map}
use Rattle.pgv_session.specs.Lines.{text_before, text_after, words, at_first, each_named, with_first}

abbrev pub words_after : Option (List ℕ) → List (List ℕ)
words_after None = []
words_after (Some text) = words text

abbrev pub size_left : Option (List ℕ) → ℕ
size_left None = 0
size_left (Some text) = 1 + length text

split_at : (c : ℕ) (cs : List ℕ) (b : Bool) → (c == 32) ≡ b → words cs ≡ text_before 32 cs ∷ words_after (text_after 32 cs) → words (c ∷ cs) ≡ text_before 32 (c ∷ cs) ∷ words_after (text_after 32 (c ∷ cs))
split_at c cs true e h = rw e refl
split_at c cs false e h = rw e (ap (at_first c) h)

-- the first word, and those after it
pub words_split : (text : List ℕ) → words text ≡ text_before 32 text ∷ words_after (text_after 32 text)
words_split [] = refl
words_split (c ∷ cs) = split_at c cs (c == 32) refl (words_split cs)

shorter_at : (c : ℕ) (cs : List ℕ) (b : Bool) → (c == 32) ≡ b → size_left (text_after 32 cs) ≤ length cs → size_left (text_after 32 (c ∷ cs)) ≤ length (c ∷ cs)
shorter_at c cs true e h = rw e (omega arith)
shorter_at c cs false e h = rw e (omega (arith, h))

pub shorter : (text : List ℕ) → size_left (text_after 32 text) ≤ length text
shorter [] = omega arith
shorter (c ∷ cs) = shorter_at c cs (c == 32) refl (shorter cs)

pub put_first : {A : Type 0} (done : List A) (x : A) (rest : Option (List A)) → option_map (λ xs. (done ++ x ∷ []) ++ xs) rest ≡ option_map (λ xs. done ++ xs) (with_first (Some x) rest)
put_first done x None = refl
put_first done x (Some xs) = ap (λ l. Some l) (append_assoc done (x ∷ []) xs)

module _ {A : Type 0} (named : List ℕ → Option A) where
  -- one word more
  pub named_more : (done done' : List A) (x : A) (text all : List ℕ) (rest : Option (List ℕ)) → done' ≡ done ++ x ∷ [] → rest ≡ text_after 32 text → Some x ≡ named (text_before 32 text) →
      option_map (λ xs. done ++ xs) (each_named named (words text)) ≡ each_named named (words all) →
      option_map (λ xs. done' ++ xs) (each_named named (words_after rest)) ≡ each_named named (words all)
  named_more done done' x text all rest d r n h =
      rw (d, r) (put_first done x (each_named named (words_after (text_after 32 text)))
      ∙ (ap (λ (f : Option A). option_map (λ xs. done ++ xs) (with_first f (each_named named (words_after (text_after 32 text))))) n
      ∙ (ap (λ (ws : List (List ℕ)). option_map (λ xs. done ++ xs) (each_named named ws)) (sym (words_split text)) ∙ h)))

  -- a word that names nothing
  pub named_none : (done : List A) (text all : List ℕ) → None ≡ named (text_before 32 text) → option_map (λ xs. done ++ xs) (each_named named (words text)) ≡ each_named named (words all) → None ≡ each_named named (words all)
  named_none done text all n h =
      ap (λ (f : Option A). option_map (λ (xs : List A). done ++ xs) (with_first f (each_named named (words_after (text_after 32 text))))) n
      ∙ (ap (λ (ws : List (List ℕ)). option_map (λ xs. done ++ xs) (each_named named ws)) (sym (words_split text)) ∙ h)

-- less is left
pub less_left : (text : List ℕ) (was now : Option (List ℕ)) → was ≡ Some text → now ≡ text_after 32 text → size_left now < size_left was
less_left text was now e f = rw (e, f) (omega (arith, shorter text))
