-- The texts that an iterator gives.
use Rattle.std.specs.Prelude.{◌≡◌, ℕ, List, map, Option, Some, Result, Ok, string_bytes}
use Rattle.std.specs.Iterator.{Drains, YieldsThen}
use Rattle.std.specs.declared.string.String.{String}
use Rattle.pgv_ltree.specs.TextsInTurn.{read_each}

-- all of them, one after another
abbrev pub GivesTexts : {S Z : Type 0} → (S → Option (String Z) → S → Type 0) → S → List (List ℕ) → Type 0
GivesTexts {S} {Z} gives it texts = (taken : List (String Z)) × Drains gives it taken × (texts ≡ map string_bytes taken)

-- a text, after others each of which is read
abbrev pub GivesAfterRead : {S Z M E : Type 0} → (List ℕ → Result M E) → (S → Option (String Z) → S → Type 0) → S → List ℕ → Type 0
GivesAfterRead {S} {Z} {M} reader gives it text =
    (taken : List (String Z)) × (last : String Z) × (after : S) × (so_far : List M) × YieldsThen gives it taken (Some last) after × (text ≡ string_bytes last) × (read_each reader (map string_bytes taken) ≡ Ok so_far)
