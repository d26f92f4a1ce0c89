-- Writing over bytes: strings in place of what stood at their places.
use Rattle.std.specs.Prelude.{ℕ, ◌+◌, ◌≤◌, List, [], ◌∷◌, ◌++◌, length, take, drop, map}
use Rattle.pgv_types.specs.Ty.{Ty}
use Rattle.pgv_types.specs.declared.oid.Oid.{Oid}
use Rattle.pgv_buf.specs.Tokens.{be4, chosen}
use Rattle.pgv_buf.specs.Proper.{first_type, rest_of}
use Rattle.pgv_buf.specs.Layout.{Kept}

-- w in place of what stood at p
abbrev pub put : ℕ → List ℕ → List ℕ → List ℕ
put p w b = take p b ++ w ++ drop (p + length w) b

abbrev pub first_string : List (List ℕ) → List ℕ
first_string [] = []
first_string (w ∷ ws) = w

-- the i-th string at the i-th place
abbrev pub put_each : List ℕ → List (List ℕ) → List ℕ → List ℕ
put_each [] ws b = b
put_each (p ∷ ps) ws b = put_each ps (rest_of ws) (put p (first_string ws) b)

-- each string ends within n bytes
abbrev pub Within : ℕ → List ℕ → List (List ℕ) → Type 0
Within n [] ws = Unit {0}
Within n (p ∷ ps) ws = (p + length (first_string ws) ≤ n) × Within n ps (rest_of ws)

-- what is written into holes
abbrev pub numbers : List Oid → List (List ℕ)
numbers os = map (λ o. be4 o.0) os

-- what is written into slots, where each has a type
abbrev pub choices : List Ty → List Kept → List (List ℕ)
choices ps [] = []
choices ps (k ∷ ks) = chosen (first_type ps) k.standard k.cases ∷ choices (rest_of ps) ks
