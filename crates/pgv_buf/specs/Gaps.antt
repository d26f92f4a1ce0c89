-- Places from gaps.
use Rattle.std.specs.Prelude.{ℕ, ◌+◌, List, [], ◌∷◌}

-- each place is a gap after the one before, the first after q
abbrev pub places_after : ℕ → List ℕ → List ℕ
places_after q [] = []
places_after q (g ∷ gs) = (q + g) ∷ places_after (q + g) gs
