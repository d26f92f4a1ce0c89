-- How many slots each argument has, as it is kept: what is missing at the end stands for 0.
use Rattle.std.specs.Prelude.{◌≡◌, ℕ, List, ◌++◌, replicate}

-- all counts are those that are kept, and then zeros
abbrev pub AreCounts : List ℕ → List ℕ → Type 0
AreCounts all kept = (k : ℕ) × (all ≡ kept ++ replicate k 0)
