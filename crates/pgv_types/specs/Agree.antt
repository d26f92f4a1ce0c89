-- When two names agree: as identifiers do, which are folded to lower case outside quotes and kept inside (PostgreSQL,
-- "Lexical Structure", "Identifiers and Key Words", 4.1.1). Where either name begins with `U&`, they agree if they are
-- equal. Else their lists of significant characters have one length and agree place by place: two characters are equal,
-- or, where neither is sensitive, equal but for ASCII case.
use Rattle.std.specs.Prelude.{◌≡◌, ◌⊎◌, ℕ, ◌==◌, ◌&&◌, ◌||◌, Bool, false, codes, if◌then◌else◌, List, [], ◌∷◌, ◌++◌}
use Rattle.std.specs.Str.{chars, bytes_eq}
use Rattle.pgv_types.specs.declared.name.IdentifierChar.{IdentifierChar}
use Rattle.pgv_characters.specs.Characters.{ampersand, upper_u}
use Rattle.pgv_types.specs.Names.{Significant, AllAlike, AreSignificant, all_alike, walk}

abbrev pub char_seen : IdentifierChar → Significant
char_seen c = record { char = c.ch; sensitive = c.case_sensitive }

abbrev pub BeginsUnicode : List ℕ → Type 0
BeginsUnicode name = (rest : List ℕ) × (name ≡ codes "U&" ++ rest)

-- If either begins with U&, the texts must be equal; else their significant characters are alike.
abbrev pub Agree : List ℕ → List ℕ → Type 0
Agree a b = ((BeginsUnicode a ⊎ BeginsUnicode b) × (a ≡ b))
    ⊎ ((BeginsUnicode a ⊎ BeginsUnicode b → ⊥) × ((xs : List Significant) × (ys : List Significant) × AreSignificant (chars a) xs × AreSignificant (chars b) ys × AllAlike xs ys))

-- The same as a test, by the walk.
abbrev pub begins_unicode : List ℕ → Bool
begins_unicode [] = false
begins_unicode (c ∷ []) = false
begins_unicode (c ∷ d ∷ cs) = c == upper_u && d == ampersand

abbrev pub significant : List ℕ → List Significant
significant name = walk false false (chars name)

abbrev pub agree : List ℕ → List ℕ → Bool
agree a b = if begins_unicode a || begins_unicode b then bytes_eq a b else all_alike (significant a) (significant b)
