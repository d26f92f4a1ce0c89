-- What bytes are maps of texts, as what the bytes are and not as how they are read (PostgreSQL: appendix F, hstore).
use Rattle.std.specs.Prelude.{◌≡◌, ◌↔◌, ℕ, ◌<◌, ◌^◌, Bool, true, List, [], ◌∷◌, ◌++◌, length, Option, Some, None, Ok}
use Rattle.std.specs.FinMap.{find, is_sorted}
use Rattle.std.specs.List.{flat_map}
use Rattle.pgv_buf.specs.Tokens.{be4}
use Rattle.pgv_value.specs.FrameBinary.{Part}
use Rattle.pgv_value.specs.FrameLaws.{AreBytes}
use Rattle.pgv_more.specs.Hstore.{Pair, order, pair_form, pairs_of, hstore_in_binary}
use Rattle.pgv_more.specs.HstoreBackLemmas.{AreMapPairs}
use Rattle.pgv_more.specs.declared.hstore.PgHstore.{PgHstore}

-- the value that the last pair of a key has
abbrev pub last_value : List ℕ → List Pair → Option Part
last_value key [] = None
last_value key (p ∷ ps) = elim (last_value key ps) [ None ↦ find order key (p ∷ []) | Some value ↦ Some value ]

-- Pairs of which another list is the map: in the order of the keys, and at each key what its last pair has.
pub record IsMapOf (stood ps : List Pair) : Type 0 where
  pub sorted : is_sorted order ps ≡ true
  pub values : (key : List ℕ) → find order key ps ≡ last_value key stood

-- The number of pairs, these pairs one after another, each a key and a value or null that are UTF-8, and anything after
-- them.
pub record IsHstore (form : List ℕ) (ps : List Pair) : Type 0 where
  pub stood : List Pair
  pub rest : List ℕ
  pub whole : form ≡ be4 (length stood) ++ (flat_map pair_form stood ++ rest)
  pub few : length stood < 2 ^ 31
  pub each : AreMapPairs stood
  pub map : IsMapOf stood ps

unfoldable pub HstoreIsRead : Type 0
HstoreIsRead = (form : List ℕ) (ps : List Pair) → AreBytes form → ((hstore_in_binary form).answer ≡ Ok ps) ↔ IsHstore form ps

unfoldable pub OneHstore : Type 0
OneHstore = (form : List ℕ) (first second : List Pair) → AreBytes form → IsHstore form first → IsHstore form second → first ≡ second

-- two maps are equal iff they have the same pairs
unfoldable pub HstoresAreEqual : (PgHstore → PgHstore → Bool) → Type 0
HstoresAreEqual eq = (a b : PgHstore) → (eq a b ≡ true) ↔ (pairs_of a ≡ pairs_of b)
