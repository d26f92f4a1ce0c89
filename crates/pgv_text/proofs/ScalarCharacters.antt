-- The characters of parts and of their spellings are characters of UTF-8.
use Rattle.std.proofs.Common.{◌≡◌, ℕ, true, ◌&&◌, List, [], ◌∷◌, ◌++◌, Option, Some, None, map, ap, ◌∙◌, sym, refl}
use Rattle.std.specs.List.{flat_map, AllByRecursion}
use Rattle.std.specs.Char.{IsScalar}
use Rattle.std.specs.Str.{IsUtf8, chars}
use Rattle.std.proofs.Math.Utf8.{scalar, scalars}
use Rattle.std.proofs.lemmas.Bool.{and_parts}
use Rattle.std.proofs.lemmas.Str.{scalars-chars}
use Rattle.pgv_text.specs.NestPieces.{Item, inner, inner_escaped, doubled, Piece, plain, escaped, quoted, item_spelling, item_meaning, spelled, text_of, comma_joined, Pairwise, Form, IsPart}
use Rattle.pgv_text.specs.Spellings.{IsOptionalText}

abbrev pub AreScalars : List ℕ → Type 0
AreScalars cs = AllByRecursion IsScalar cs

pub are_scalars : (cs : List ℕ) → scalars cs ≡ true → AreScalars cs
are_scalars [] h = tt
are_scalars (c ∷ cs) h = let p = and_parts (scalar c) (scalars cs) h in (p.0, are_scalars cs p.1)

pub scalars_are : (cs : List ℕ) → AreScalars cs → scalars cs ≡ true
scalars_are [] h = refl
scalars_are (c ∷ cs) h = ap (λ b. b && scalars cs) h.0 ∙ scalars_are cs h.1

pub all_append : (xs ys : List ℕ) → AreScalars xs → AreScalars ys → AreScalars (xs ++ ys)
all_append [] ys a b = b
all_append (x ∷ xs) ys a b = (a.0, all_append xs ys a.1 b)

pub all_parts : (xs ys : List ℕ) → AreScalars (xs ++ ys) → AreScalars xs × AreScalars ys
all_parts [] ys h = (tt, h)
all_parts (x ∷ xs) ys h = let p = all_parts xs ys h.1 in ((h.0, p.0), p.1)

-- what is spelled in characters means characters
item_scalar : (item : Item) → AreScalars (item_spelling item) → IsScalar (item_meaning item)
item_scalar (inner c) h = h.0
item_scalar (inner_escaped c) h = h.1.0
item_scalar doubled h = h.0

items_scalars : (items : List Item) → AreScalars (flat_map item_spelling items) → AreScalars (map item_meaning items)
items_scalars [] h = tt
items_scalars (item ∷ items) h =
    let p = all_parts (item_spelling item) (flat_map item_spelling items) h in
    (item_scalar item p.0, items_scalars items p.1)

text_scalars : (pieces : List Piece) → AreScalars (spelled pieces) → AreScalars (text_of pieces)
text_scalars [] h = tt
text_scalars (plain c ∷ pieces) h = (h.0, text_scalars pieces h.1)
text_scalars (escaped c ∷ pieces) h = (h.1.0, text_scalars pieces h.1.1)
text_scalars (quoted items ∷ pieces) h =
    let p = all_parts (flat_map item_spelling items ++ 34 ∷ []) (spelled pieces) h.1 in
    all_append (map item_meaning items) (text_of pieces) (items_scalars items (all_parts (flat_map item_spelling items) (34 ∷ []) p.0).0) (text_scalars pieces p.1)

more_scalars : (parts : List (List Piece)) → AreScalars (flat_map (λ p. 44 ∷ spelled p) parts) → AllByRecursion (λ p. AreScalars (spelled p)) parts
more_scalars [] h = tt
more_scalars (part ∷ parts) h =
    let p = all_parts (spelled part) (flat_map (λ p. 44 ∷ spelled p) parts) h.1 in
    (p.0, more_scalars parts p.1)

pub parts_scalars : (parts : List (List Piece)) → AreScalars (comma_joined parts) → AllByRecursion (λ p. AreScalars (spelled p)) parts
parts_scalars [] h = tt
parts_scalars (part ∷ parts) h = more_scalars (part ∷ parts) (refl, h)

-- the values of parts are texts
pub values_are_texts : (form : Form) (parts : List (List Piece)) (values : List (Option (List ℕ))) → AllByRecursion (λ p. AreScalars (spelled p)) parts → Pairwise (IsPart form) parts values → AllByRecursion IsOptionalText values
values_are_texts form [] [] h p = tt
values_are_texts form (part ∷ parts) (None ∷ values) h p = (tt, values_are_texts form parts values h.1 p.1)
values_are_texts form (part ∷ parts) (Some text ∷ values) h p =
    let utf8 : IsUtf8 text = (text_of part, (scalars_are (text_of part) (text_scalars part h.0), sym p.0.1)) in
    (utf8, values_are_texts form parts values h.1 p.1)
values_are_texts form _ _ h p = absurd p

pub characters_of : (text : List ℕ) → IsUtf8 text → AreScalars (chars text)
characters_of text u = are_scalars (chars text) (scalars-chars text u)
