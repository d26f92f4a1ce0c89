-- Texts that are written one after another, whatever the formatter asks for.
use Rattle.std.proofs.Common.{◌≡◌, ℕ, false, List, [], ◌∷◌, ◌++◌, ◌∙◌, ap, append-nil, subst, sym}
use Rattle.std.specs.List.{FoldsTo, concat}
use Rattle.std.specs.Fmt.{WritesInCalls, HasWrittenStyled}
use Rattle.std.specs.declared.fmt.Formatter.{Formatter}
use Rattle.std.proofs.lemmas.List.Folds.{concat-append}
use Rattle.pgv_types.specs.Facts.{display_of, display_text_of, shows_brackets}
use Rattle.pgv_types.specs.Ty.{Ty}

module _ {W : Type 0} (took : W → List ℕ → W → Type 0) where
  calls_joined : (u v w : W) (xs ys : List (List ℕ)) → FoldsTo took u xs v → FoldsTo took v ys w → FoldsTo took u (xs ++ ys) w
  calls_joined u v w [] ys p q = subst (λ (s : W). FoldsTo took s ys w) (sym p) q
  calls_joined u v w (x ∷ xs) ys p q = (p.0, p.1, calls_joined p.0 v w xs ys p.2 q)

  writes_joined : (u v w : W) (a b : List ℕ) → WritesInCalls took u a v → WritesInCalls took v b w → WritesInCalls took u (a ++ b) w
  writes_joined u v w a b p q = record {
    parts = p.parts ++ q.parts;
    calls = calls_joined u v w p.parts q.parts p.calls q.calls;
    whole = concat-append p.parts q.parts ∙ (ap (λ (l : List ℕ). l ++ concat q.parts) p.whole ∙ ap (λ (l : List ℕ). a ++ l) q.whole);
  }

  -- two texts
  pub written_both : (f g h : Formatter W) (a b whole : List ℕ) → HasWrittenStyled took f a g → HasWrittenStyled took g b h → a ++ b ≡ whole → HasWrittenStyled took f whole h
  written_both f g h a b whole p q e = record {
    wrote = subst (λ (l : List ℕ). WritesInCalls took f.writer l h.writer) e (writes_joined f.writer g.writer h.writer a b p.wrote q.wrote);
    spec = q.spec ∙ p.spec;
    flush = q.flush;
  }

-- a name that is shown with nothing after it
pub shown_alone : (t : Ty) → shows_brackets t ≡ false → display_of t ≡ display_text_of t
shown_alone t none = rw none (append-nil (display_text_of t))
