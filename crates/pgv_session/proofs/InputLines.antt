-- The lines of an input, put together again.
use Rattle.std.proofs.Common.{◌≡◌, ◌≢◌, ◌++◌, ◌∙◌, sym, ap, subst, ℕ, ◌==◌, Bool, true, false, List, [], ◌∷◌, refl, append_assoc, append-nil}
use Rattle.std.specs.List.{AllByRecursion}
use Rattle.std.proofs.lemmas.Bool.{eqb-true, eqb-false, ne_eqb}
use Rattle.pgv_session.specs.Session.{line_more, lines_from, lines_of, full_lines, HasNoLineFeed, AreLines}
use Rattle.pgv_session.specs.LineLaws.{InputIsItsLines}

one_more : (begun : List ℕ) (c : ℕ) → HasNoLineFeed begun → c ≢ 10 → HasNoLineFeed (begun ++ c ∷ [])
one_more [] c h n = (n, tt)
one_more (d ∷ begun) c h n = (h.0, one_more begun c h.1 n)

-- ---- what is computed are lines

lines_by :
    (begun : List ℕ) (c : ℕ) (cs : List ℕ) (b : Bool) → (c == 10) ≡ b → HasNoLineFeed begun → AreLines cs (lines_from [] cs) →
    (HasNoLineFeed (begun ++ c ∷ []) → AreLines ((begun ++ c ∷ []) ++ cs) (lines_from (begun ++ c ∷ []) cs)) → AreLines (begun ++ c ∷ cs) (lines_from begun (c ∷ cs))
lines_by begun c cs true e h rest_after further = record {
  full = begun ∷ rest_after.full;
  last = rest_after.last;
  each = (h, rest_after.each);
  unended = rest_after.unended;
  whole =
      ap (λ (xs : List ℕ). begun ++ c ∷ xs) rest_after.whole
      ∙ (ap (λ (d : ℕ). begun ++ d ∷ (full_lines rest_after.full ++ rest_after.last)) (eqb-true c 10 e)
      ∙ sym (append_assoc begun (10 ∷ full_lines rest_after.full) rest_after.last));
  lines_are = rw e (ap (λ (ls : List (List ℕ)). begun ∷ ls) rest_after.lines_are);
}
lines_by begun c cs false e h rest_after further =
    let r = further (one_more begun c h (eqb-false c 10 e)) in
    record {
      full = r.full;
      last = r.last;
      each = r.each;
      unended = r.unended;
      whole = sym (append_assoc begun (c ∷ []) cs) ∙ r.whole;
      lines_are = rw e r.lines_are;
    }

lines_are : (begun input : List ℕ) → HasNoLineFeed begun → AreLines (begun ++ input) (lines_from begun input)
lines_are begun [] h = record { full = []; last = begun; each = tt; unended = h; whole = append-nil begun; lines_are = refl }
lines_are begun (c ∷ cs) h = lines_by begun c cs (c == 10) refl h (lines_are [] cs tt) (λ k. lines_are (begun ++ c ∷ []) cs k)

-- ---- lines are computed

full_line : (begun line rest : List ℕ) → HasNoLineFeed line → lines_from begun (line ++ 10 ∷ rest) ≡ (begun ++ line) ∷ lines_from [] rest
full_line begun [] rest h = ap (λ (l : List ℕ). l ∷ lines_from [] rest) (sym (append-nil begun))
full_line begun (c ∷ line) rest h =
    rw (ne_eqb c 10 h.0) (full_line (begun ++ c ∷ []) line rest h.1 ∙ ap (λ (l : List ℕ). l ∷ lines_from [] rest) (append_assoc begun (c ∷ []) line))

last_line : (begun last : List ℕ) → HasNoLineFeed last → lines_from begun last ≡ line_more (begun ++ last) []
last_line begun [] h = ap (λ (l : List ℕ). line_more l []) (sym (append-nil begun))
last_line begun (c ∷ last) h =
    rw (ne_eqb c 10 h.0) (last_line (begun ++ c ∷ []) last h.1 ∙ ap (λ (l : List ℕ). line_more l []) (append_assoc begun (c ∷ []) last))

lines_there : (full : List (List ℕ)) (last : List ℕ) → AllByRecursion HasNoLineFeed full → HasNoLineFeed last → lines_of (full_lines full ++ last) ≡ full ++ line_more last []
lines_there [] last h n = last_line [] last n
lines_there (line ∷ full) last h n =
    ap lines_of (append_assoc line (10 ∷ full_lines full) last)
    ∙ (full_line [] line (full_lines full ++ last) h.0 ∙ ap (λ (ls : List (List ℕ)). line ∷ ls) (lines_there full last h.1 n))

pub lines_exactly : InputIsItsLines
unfolding InputIsItsLines
lines_exactly input lines = (
  λ (e : lines_of input ≡ lines). subst (λ (ls : List (List ℕ)). AreLines input ls) e (lines_are [] input tt),
  λ (h : AreLines input lines). ap lines_of h.whole ∙ (lines_there h.full h.last h.each h.unended ∙ sym h.lines_are),
)
