-- What a session has read and written so far.
use Rattle.std.proofs.Common.{◌≡◌, ◌≢◌, ◌++◌, ◌∙◌, sym, ap, subst, List, ℕ, [], ◌∷◌, refl, append_assoc, append-nil}
use Rattle.std.specs.Prelude.{Option, Some, None, IfSome, ⊤}
use Rattle.std.specs.Io.KnownBytes.{Appends, IsAtEnd, Keeps}
use Rattle.std.specs.Io.BufRead.{take_through, drop_through, DropsThrough}
use Rattle.pgv_session.specs.Lines.{text_before}
use Rattle.pgv_session.specs.Session.{State, AnswersLine, IsSession, lines_of}
use Rattle.pgv_session.proofs.Feeds.{first_line}

-- What was written so far, and after it what the rest of the input is answered, is a session over all of it.
abbrev pub IsSoFar : Option (List ℕ) → Option (List ℕ) → Option (List ℕ) → Option (List ℕ) → State → Type 0
IsSoFar None left old new now = ⊤
IsSoFar (Some xs) None old new now = ⊥
IsSoFar (Some xs) (Some ys) old new now =
    (out : List ℕ) × Appends old new out × ((rest : List ℕ) → IsSession now (lines_of ys) rest → IsSession [] (lines_of xs) (out ++ rest))

appended : (o w v : Option (List ℕ)) (xs ys : List ℕ) → Appends o w xs → Appends w v ys → Appends o v (xs ++ ys)
appended None w v xs ys p q = tt
appended (Some os) None v xs ys p q = absurd p
appended (Some os) (Some ws) None xs ys p q = absurd q
appended (Some os) (Some ws) (Some vs) xs ys p q = q ∙ (λ i. p i ++ ys) ∙ append_assoc os xs ys

-- one more line, which the lines after it follow
with_line : (was now : State) (y : ℕ) (ys line text rest : List ℕ) → line ≡ take_through 10 (y ∷ ys) → AnswersLine (text_before 10 line) was text now →
    IsSession now (lines_of (drop_through 10 (y ∷ ys))) rest → IsSession was (lines_of (y ∷ ys)) (text ++ 10 ∷ rest)
with_line was now y ys line text rest e a s =
    subst (λ lines. IsSession was lines (text ++ 10 ∷ rest)) (sym (first_line y ys))
    (text, now, rest, subst (λ (l : List ℕ). AnswersLine (text_before 10 l) was text now) e a, refl, s)

pub so_far : (a b c o w v : Option (List ℕ)) (was now : State) (line text : List ℕ) → IsSoFar a b o w was → line ≢ [] →
    IfSome b (λ xs. line ≡ take_through 10 xs) → DropsThrough b c 10 → AnswersLine (text_before 10 line) was text now → Appends w v (text ++ 10 ∷ []) → IsSoFar a c o v now
so_far None b c o w v was now line text h n t d r p = tt
so_far (Some xs) None c o w v was now line text h n t d r p = absurd h
so_far (Some xs) (Some []) c o w v was now line text h n t d r p = absurd (n t)
so_far (Some xs) (Some (y ∷ ys)) c o w v was now line text h n t d r p =
    rw d (
      h.0 ++ (text ++ 10 ∷ []),
      appended o w v h.0 (text ++ 10 ∷ []) h.1 p,
      λ rest s. subst (λ (out : List ℕ). IsSession [] (lines_of xs) out)
          (ap (λ (out : List ℕ). h.0 ++ out) (sym (append_assoc text (10 ∷ []) rest)) ∙ sym (append_assoc h.0 (text ++ 10 ∷ []) rest))
          (h.2 (text ++ 10 ∷ rest) (with_line was now y ys line text rest t r s)),
    )

-- the writer has the same bytes as before
pub kept : (a b o w v : Option (List ℕ)) (now : State) → IsSoFar a b o w now → Keeps w v → IsSoFar a b o v now
kept None b o w v now h k = tt
kept (Some xs) None o w v now h k = absurd h
kept (Some xs) (Some ys) None w v now h k = (h.0, tt, h.2)
kept (Some xs) (Some ys) (Some os) None v now h k = absurd h.1
kept (Some xs) (Some ys) (Some os) (Some ws) None now h k = absurd k
kept (Some xs) (Some ys) (Some os) (Some ws) (Some vs) now h k = (h.0, k ∙ h.1, h.2)

-- the input was read to its end
pub whole : (a b o w : Option (List ℕ)) (now : State) → IsSoFar a b o w now → IsAtEnd b →
    IfSome a (λ xs. (out : List ℕ) × Appends o w out × IsSession [] (lines_of xs) out)
whole None b o w now h e = tt
whole (Some xs) None o w now h e = absurd h
whole (Some xs) (Some ys) o w now h e =
    (h.0, h.1, subst (λ (out : List ℕ). IsSession [] (lines_of xs) out) (append-nil h.0) (h.2 [] (subst (λ (l : List ℕ). IsSession now (lines_of l) []) (sym e) refl)))
