-- What formatters and the buffer of arguments take, text after text.
use Rattle.std.specs.Prelude.{◌≡◌, ℕ, List, [], ◌++◌, refl}
use Rattle.std.specs.Fmt.{HasWritten, IsPlainFormatter}
use Rattle.std.specs.declared.fmt.Formatter.{Formatter}
use Rattle.std.proofs.lemmas.Grind.{put_two}
use Rattle.std.proofs.Common.{sym, ap, ◌∙◌, append_assoc, append-nil}
use Rattle.pgv_buf.specs.Tokens.{Cell, blank, bytes}
use Rattle.pgv_codec.specs.Appending.{Extends}

-- ---- a formatter

module _ {W : Type 0} (took : W → List ℕ → W → Type 0) where
  pub written_none : (f : Formatter W) → IsPlainFormatter f → HasWritten took f [] f
  written_none f plain = record { wrote = record { parts = []; calls = refl; whole = refl }; plain = plain }

  pub written_both : (f g h : Formatter W) (x y : List ℕ) → (IsPlainFormatter f → HasWritten took f x g) → (IsPlainFormatter g → HasWritten took g y h) → IsPlainFormatter f → HasWritten took f (x ++ y) h
  written_both f g h x y first second plain =
      let a = first plain in
      put_two took f g h x y (x ++ y) a (second a.plain) refl

-- ---- the buffer

pub appended_none : (was : List Cell) → was ≡ was ++ blank (bytes [])
appended_none was = sym (append-nil was)

pub appended_after : (was between now : List Cell) (x : List ℕ) → between ≡ was ++ blank (bytes x) → Extends between now → Extends was now
appended_after was between now x first left =
    (blank (bytes x) ++ left.0, left.1 ∙ ap (λ (xs : List Cell). xs ++ left.0) first ∙ append_assoc was (blank (bytes x)) left.0)
