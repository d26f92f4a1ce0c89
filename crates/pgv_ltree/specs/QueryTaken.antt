-- The texts that an iterator lends.
use Rattle.std.specs.Prelude.{◌≡◌, ℕ, List, map, Option, Some, Result, Ok}
use Rattle.std.specs.Borrow.{Bor}
use Rattle.std.specs.Iterator.{Drains, YieldsThen}
use Rattle.pgv_ltree.specs.TextsInTurn.{read_each}

-- all of them, one after another
abbrev pub GivesTexts : {S : Type 0} → (S → Option (Bor (List ℕ)) → S → Type 0) → S → List (List ℕ) → Type 0
GivesTexts {S} gives it texts = (taken : List (Bor (List ℕ))) × Drains gives it taken × (texts ≡ map (λ x. x.now) taken)

-- a text, after others each of which is read
abbrev pub GivesAfterRead : {S M E : Type 0} → (List ℕ → Result M E) → (S → Option (Bor (List ℕ)) → S → Type 0) → S → List ℕ → Type 0
GivesAfterRead {S} {M} reader gives it text =
    (taken : List (Bor (List ℕ))) × (last : Bor (List ℕ)) × (after : S) × (so_far : List M) × YieldsThen gives it taken (Some last) after × (text ≡ last.now) × (read_each reader (map (λ x. x.now) taken) ≡ Ok so_far)
