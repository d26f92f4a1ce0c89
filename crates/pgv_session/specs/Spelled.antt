-- The lines of the program, by their spellings. A line is a list of bytes. It is spelled in one of seven ways:
-- - `add TYPE TEXT`: the word, a space, the type's name, a space, and a text of any bytes, perhaps none.
-- - `null TYPE`: the word, a space and the type's name.
-- - `holes` and `wire`: that word and nothing else.
-- - `resolve OID ..`: the word, and for each OID a space and a numeral: one decimal digit or more, without a sign,
--   whose value is the OID and at most 4294967295.
-- - `read TYPE HEX`: the word, a space, the type's name, a space, and `null` or two hex digits of either case for each
--   byte.
-- - `copy HEX TYPE ..`: the word, a space, two hex digits for each byte, and for each column a space and the name of
--   its type; there is at least one. A name is bytes without a space. A line asks for the request that it spells, and
--   for nothing where it spells none (`Asks`).
use Rattle.std.specs.Prelude.{◌≡◌, ◌≢◌, ◌≤◌, ◌<◌, ◌+◌, ℕ, codes, List, [], ◌∷◌, ◌++◌, map, length, Option, Some, None}
use Rattle.std.specs.List.{AllByRecursion}
use Rattle.std.specs.Int.Digits.{number_from_digits}
use Rattle.pgv_characters.specs.Characters.{space, digit_zero}
use Rattle.pgv_types.specs.declared.oid.Oid.{Oid}
use Rattle.pgv_more.specs.ByteaText.{ArePairs}

-- ---- what is asked for

-- of a value of a TYPE
pub data Ask : Type 0 where
  to_add : List ℕ → Ask
  to_add_null : Ask
  to_read : Option (List ℕ) → Ask

pub data Request : Type 0 where
  asks : List ℕ → Ask → Request
  asks_holes : Request
  resolves : List Oid → Request
  asks_wire : Request
  copies : List ℕ → List (List ℕ) → Request

-- ---- how it is spelled

-- a name, of which nothing is said but that it has no space
abbrev pub IsName : List ℕ → Type 0
IsName name = AllByRecursion (λ c. c ≢ space) name

-- The word is this OID: one decimal digit or more, with no sign.
pub record IsOidWord (word : List ℕ) (oid : Oid) : Type 0 where
  pub digits : List ℕ
  pub some : 0 < length digits
  pub each : AllByRecursion (λ d. d < 10) digits
  pub whole : word ≡ map (λ d. digit_zero + d) digits
  pub value : oid.0 ≡ number_from_digits 10 digits
  pub fits : oid.0 ≤ 4294967295

-- the OIDs in turn, with one space before each
abbrev pub SpellsOids : List Oid → List ℕ → Type 0
SpellsOids [] text = text ≡ []
SpellsOids (oid ∷ oids) text = (word rest : List ℕ) × IsOidWord word oid × SpellsOids oids rest × (text ≡ space ∷ (word ++ rest))

-- the names in turn, with one space between each two
abbrev pub SpellsNames : List (List ℕ) → List ℕ → Type 0
SpellsNames [] text = ⊥
SpellsNames (name ∷ []) text = IsName name × (text ≡ name)
SpellsNames (name ∷ next ∷ names) text = (rest : List ℕ) × IsName name × SpellsNames (next ∷ names) rest × (text ≡ name ++ space ∷ rest)

-- the bytes of a value, two digits for each and the high one first (`ArePairs`), or that it is null
abbrev pub SpellsPart : Option (List ℕ) → List ℕ → Type 0
SpellsPart None text = text ≡ codes "null"
SpellsPart (Some bytes) text = ArePairs bytes text

-- The line is this request.
abbrev pub Spells : Request → List ℕ → Type 0
Spells (asks name (to_add text)) line = IsName name × (line ≡ codes "add " ++ (name ++ space ∷ text))
Spells (asks name to_add_null) line = IsName name × (line ≡ codes "null " ++ name)
Spells (asks name (to_read part)) line = (text : List ℕ) × IsName name × SpellsPart part text × (line ≡ codes "read " ++ (name ++ space ∷ text))
Spells asks_holes line = line ≡ codes "holes"
Spells (resolves oids) line = (text : List ℕ) × SpellsOids oids text × (line ≡ codes "resolve" ++ text)
Spells asks_wire line = line ≡ codes "wire"
Spells (copies bytes names) line = (text rest : List ℕ) × ArePairs bytes text × SpellsNames names rest × (line ≡ codes "copy " ++ (text ++ space ∷ rest))

-- what a line asks for: the request that it spells, or nothing where it spells none
abbrev pub Asks : List ℕ → Option Request → Type 0
Asks line None = (r : Request) → ¬ (Spells r line)
Asks line (Some r) = Spells r line
