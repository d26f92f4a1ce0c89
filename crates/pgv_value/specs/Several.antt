-- Things of one kind, one after another: as many as are counted, each read by one function. Where one thing is read
-- exactly from its encoding and the rest, several are read exactly from their encodings, one after another, and the
-- rest.
use Rattle.std.specs.Prelude.{◌≡◌, ◌↔◌, ℕ, zero, suc, List, [], ◌∷◌, ◌++◌, length, flat_map, Ok}
use Rattle.std.specs.List.{AllByRecursion}
use Rattle.pgv_value.specs.FrameLaws.{AreBytes}
use Rattle.pgv_value.specs.Outcome.{Outcome, done, ◌>>=◌}

-- as many things as n, and the rest
unfoldable pub several : {A : Type 0} → (List ℕ → Outcome (A × List ℕ)) → ℕ → List ℕ → Outcome (List A × List ℕ)
several one zero bytes = done ([], bytes)
several one (suc n) bytes = do
  first ← one bytes
  more ← several one n first.1
  done (first.0 ∷ more.0, more.1)

-- one thing is read exactly from its encoding and the rest
abbrev pub ReadsOne : {A : Type 0} → (A → Type 0) → (A → List ℕ) → (List ℕ → Outcome (A × List ℕ)) → Type 0
ReadsOne {A} Is encode one = (bytes : List ℕ) (a : A) (rest : List ℕ) → AreBytes bytes → ((one bytes).answer ≡ Ok (a, rest)) ↔ (Is a × (bytes ≡ encode a ++ rest))

-- bytes are the encodings of n things, one after another, and the rest
pub record AreSeveral {A : Type 0} (Is : A → Type 0) (encode : A → List ℕ) (n : ℕ) (bytes : List ℕ) (list : List A) (rest : List ℕ) : Type 0 where
  pub many : length list ≡ n
  pub each : AllByRecursion Is list
  pub whole : bytes ≡ flat_map encode list ++ rest
