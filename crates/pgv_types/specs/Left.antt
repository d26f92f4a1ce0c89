-- The significant characters of a name that an iterator has still to give.
use Rattle.std.specs.Prelude.{ℕ, List, ◌++◌}
use Rattle.std.specs.Str.{chars}
use Rattle.pgv_types.specs.declared.characters.Letters.{Letters}
use Rattle.pgv_types.specs.declared.name.NameLetters.{NameLetters}
use Rattle.pgv_types.specs.declared.name.IdentifierChars.{IdentifierChars}
use Rattle.pgv_types.specs.Names.{Significant, walk}

abbrev pub letters_left : Letters → List ℕ
letters_left s = chars s.rest.rest.now

abbrev pub name_letters_left : NameLetters → List ℕ
name_letters_left s = letters_left s.text ++ letters_left s.brackets

abbrev pub left : IdentifierChars → List Significant
left s = walk s.case_sensitive s.last_char_quote (name_letters_left s.letters)
