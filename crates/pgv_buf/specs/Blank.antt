-- Laws of `blank` and `plain`.
use Rattle.std.specs.Prelude.{◌≡◌, List, [], ◌∷◌, ◌++◌, refl}
use Rattle.std.proofs.Common.{ap}
use Rattle.std.proofs.lemmas.List.{map-append}
use Rattle.pgv_buf.specs.Tokens.{Token, tokens_width, Cell, width, blank, blank_cell, plain}

pub blank-append : (a c : List Token) → blank (a ++ c) ≡ blank a ++ blank c
blank-append = map-append blank_cell

pub plain-append : (a c : List Cell) → plain (a ++ c) ≡ plain a ++ plain c
plain-append = map-append (λ (c : Cell). c.0)

pub plain-blank : (a : List Token) → plain (blank a) ≡ a
plain-blank [] = refl
plain-blank (t ∷ a) = ap (λ r. t ∷ r) (plain-blank a)

pub width-blank : (a : List Token) → width (blank a) ≡ tokens_width a
width-blank a = ap tokens_width (plain-blank a)
