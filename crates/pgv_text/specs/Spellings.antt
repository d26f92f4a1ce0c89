-- How the parts of arrays, ranges and records may be spelled, in the shapes that PostgreSQL writes and in which it is
-- usual to write them (PostgreSQL: "Array Input and Output Syntax", 8.15.6; "Composite Type Input and Output
-- Syntax", 8.16.6). Values are bytes, spellings are characters.
use Rattle.std.specs.Prelude.{◌≡◌, ◌≢◌, ◌⊎◌, ℕ, true, if◌then◌else◌, ◌||◌, ◌==◌, List, [], ◌∷◌, ◌++◌, length, map, Option, Some, None}
use Rattle.std.specs.Char.{to_ascii_lowercase}
use Rattle.std.specs.List.{AllByRecursion, flat_map}
use Rattle.std.specs.Str.{IsUtf8, chars, encode_utf8_all}
use Rattle.pgv_characters.specs.Characters.{double_quote, comma, backslash}
use Rattle.pgv_text.specs.NestPieces.{Form, Count, any, some, two, may_be_plain, spelled, text_of}

-- Null, or UTF-8.
abbrev pub IsOptionalText : Option (List ℕ) → Type 0
IsOptionalText None = Unit {0}
IsOptionalText (Some text) = IsUtf8 text

-- Between quotes, a backslash before each quote and each backslash.
abbrev pub escaped_character : ℕ → List ℕ
escaped_character c = if c == double_quote || c == backslash then backslash ∷ c ∷ [] else c ∷ []

-- Between quotes, each quote and each backslash doubled.
abbrev pub doubled_character : ℕ → List ℕ
doubled_character c = if c == double_quote || c == backslash then c ∷ c ∷ [] else c ∷ []

abbrev pub quoted_by : (ℕ → List ℕ) → List ℕ → List ℕ
quoted_by spell characters = double_quote ∷ flat_map spell characters ++ double_quote ∷ []

-- Not empty, no character that the form excludes from standing plain, and not, in any case, what is null.
abbrev pub MayBeBare : Form → List ℕ → Type 0
MayBeBare form characters =
    (characters ≢ []) × AllByRecursion (λ c. may_be_plain form c ≡ true) characters × (map to_ascii_lowercase characters ≢ map to_ascii_lowercase (text_of form.nothing))

-- A part: what is null or absent, a quoted text, where quotes are doubled in either way, or a text as it is.
abbrev pub IsSpelled : Form → Option (List ℕ) → List ℕ → Type 0
IsSpelled form None spelling = spelling ≡ spelled form.nothing
IsSpelled form (Some text) spelling =
    (spelling ≡ quoted_by escaped_character (chars text))
    ⊎ (((form.doubles ≡ true) × (spelling ≡ quoted_by doubled_character (chars text)))
    ⊎ ((spelling ≡ chars text) × MayBeBare form (chars text)))

-- As many values as the form has parts.
abbrev pub AreEnough : Count → List (Option (List ℕ)) → Type 0
AreEnough any values = Unit {0}
AreEnough some values = values ≢ []
AreEnough two values = length values ≡ 2

-- Joined by commas.
abbrev pub by_commas : List (List ℕ) → List ℕ
by_commas [] = []
by_commas (spelling ∷ spellings) = spelling ++ flat_map (λ s. comma ∷ s) spellings

-- Between brackets, as bytes.
abbrev pub nest_text : ℕ → ℕ → List (List ℕ) → List ℕ
nest_text opening closing spellings = encode_utf8_all (opening ∷ by_commas spellings ++ closing ∷ [])
