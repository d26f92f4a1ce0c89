-- Lines end at line feeds.
use Rattle.std.proofs.Common.{◌≡◌, ◌++◌, ◌∙◌, sym, ap, List, ℕ, [], ◌∷◌, ◌==◌, Bool, true, false, refl, append_assoc, append-nil}
use Rattle.std.specs.Io.BufRead.{take_through, drop_through}
use Rattle.pgv_session.specs.Lines.{text_before}
use Rattle.pgv_session.specs.Session.{line_more, lines_from, lines_of}

more_is : (xs : List ℕ) (c : ℕ) (lines : List (List ℕ)) → line_more (xs ++ c ∷ []) lines ≡ (xs ++ c ∷ []) ∷ lines
more_is [] c lines = refl
more_is (x ∷ xs) c lines = refl

-- a line that has begun goes on to the next line feed
abbrev IsBegun : List ℕ → List ℕ → Type 0
IsBegun begun cs = lines_from begun cs ≡ (begun ++ text_before 10 (take_through 10 cs)) ∷ lines_from [] (drop_through 10 cs)

text_more : (c : ℕ) (cs : List ℕ) → (c == 10) ≡ false → text_before 10 (take_through 10 (c ∷ cs)) ≡ c ∷ text_before 10 (take_through 10 cs)
text_more c cs e =
    let taken : take_through 10 (c ∷ cs) ≡ c ∷ take_through 10 cs = rw e refl in
    let kept : text_before 10 (c ∷ take_through 10 cs) ≡ c ∷ text_before 10 (take_through 10 cs) = rw e refl in
    ap (text_before 10) taken ∙ kept

text_none : (c : ℕ) (cs : List ℕ) → (c == 10) ≡ true → text_before 10 (take_through 10 (c ∷ cs)) ≡ []
text_none c cs e =
    let taken : take_through 10 (c ∷ cs) ≡ c ∷ [] = rw e refl in
    let kept : text_before 10 (c ∷ []) ≡ [] = rw e refl in
    ap (text_before 10) taken ∙ kept

begun_at : (begun : List ℕ) (c : ℕ) (cs : List ℕ) (b : Bool) → (c == 10) ≡ b → IsBegun (begun ++ c ∷ []) cs → IsBegun begun (c ∷ cs)
begun_at begun c cs true e h =
    let lines : lines_from begun (c ∷ cs) ≡ begun ∷ lines_from [] cs = rw e refl in
    let left : drop_through 10 (c ∷ cs) ≡ cs = rw e refl in
    lines ∙ rw (text_none c cs e, left) (ap (λ (t : List ℕ). t ∷ lines_from [] cs) (sym (append-nil begun)))
begun_at begun c cs false e h =
    let lines : lines_from begun (c ∷ cs) ≡ lines_from (begun ++ c ∷ []) cs = rw e refl in
    let left : drop_through 10 (c ∷ cs) ≡ drop_through 10 cs = rw e refl in
    lines ∙ (h ∙ rw (text_more c cs e, left) (ap (λ (t : List ℕ). t ∷ lines_from [] (drop_through 10 cs)) (append_assoc begun (c ∷ []) (text_before 10 (take_through 10 cs)))))

begun_lines : (begun : List ℕ) (c : ℕ) (cs : List ℕ) → IsBegun (begun ++ c ∷ []) cs
begun_lines begun c [] = more_is begun c [] ∙ ap (λ (t : List ℕ). t ∷ []) (sym (append-nil (begun ++ c ∷ [])))
begun_lines begun c (d ∷ ds) = begun_at (begun ++ c ∷ []) d ds (d == 10) refl (begun_lines (begun ++ c ∷ []) d ds)

-- the first line of an input, and the lines after it
pub first_line : (c : ℕ) (cs : List ℕ) → lines_of (c ∷ cs) ≡ text_before 10 (take_through 10 (c ∷ cs)) ∷ lines_of (drop_through 10 (c ∷ cs))
first_line c cs = begun_at [] c cs (c == 10) refl (begun_lines [] c cs)
