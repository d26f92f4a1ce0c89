-- A spelling is a list of pieces that mean the value.
use Rattle.std.proofs.Common.{◌≡◌, ◌≢◌, ℕ, Bool, true, false, cond, ◌||◌, ◌==◌, List, [], ◌∷◌, ◌++◌, length, Option, Some, None, map, ap, subst, ◌∙◌, sym, refl, inl, inr, ◌⊎◌, arith}
use Rattle.std.specs.Str.{IsUtf8, chars, encode_utf8_all}
use Rattle.std.proofs.lemmas.Str.{encodes-chars, chars-encodes}
use Rattle.std.specs.List.{flat_map, AllByRecursion}
use Rattle.std.specs.Char.{IsScalar, to_ascii_lowercase}
use Rattle.std.proofs.lemmas.Bool.{eqb-true, false≢true}
use Rattle.std.proofs.lemmas.List.{append-nil}
use Rattle.pgv_text.specs.NestPieces.{Form, Item, inner, inner_escaped, doubled, Piece, plain, quoted, item_spelling, item_meaning, IsItem, IsPiece, QuotedApart, ArePieces, may_be_plain, spelled, text_of, comma_joined, Pairwise, IsPart, Count, any, some, two, AreCounted, IsNestText}
use Rattle.pgv_text.specs.declared.scanner.TextForm.{TextForm}
use Rattle.pgv_text.specs.declared.scanner.TextForm.TheVariants.{Array}
use Rattle.pgv_text.specs.Forms.{form_of}
use Rattle.pgv_text.proofs.Nothing.{ArePlain, nothing_plain}
use Rattle.pgv_text.proofs.Nests.{as_many, nest_within}
use lib.Utf8.{low_scalar}
use Rattle.pgv_text.proofs.CharacterClasses.{opens_low, closes_low}
use Rattle.pgv_text.specs.Spellings.{IsOptionalText, escaped_character, doubled_character, quoted_by, MayBeBare, IsSpelled, AreEnough, by_commas, nest_text}
use Rattle.pgv_text.proofs.ScalarCharacters.{AreScalars, scalars_are, all_append, all_parts, parts_scalars, values_are_texts, characters_of}
use Rattle.pgv_text.specs.NestLaws.{SpelledReadsBack, ValuesAreTexts}

-- one character between quotes
pub record ItemOf (form : Form) (spelling : List ℕ) (c : ℕ) : Type 0 where
  pub item : Item
  pub is : IsItem form item
  pub same : item_spelling item ≡ spelling
  pub means : item_meaning item ≡ c
  pub scalars : IsScalar c → AreScalars spelling

record ItemsOf (form : Form) (spell : ℕ → List ℕ) (cs : List ℕ) : Type 0 where
  pub items : List Item
  pub are : AllByRecursion (IsItem form) items
  pub same : flat_map item_spelling items ≡ flat_map spell cs
  pub means : map item_meaning items ≡ cs
  pub scalars : AreScalars cs → AreScalars (flat_map spell cs)

items_of : (form : Form) (spell : ℕ → List ℕ) → ((c : ℕ) → ItemOf form (spell c) c) → (cs : List ℕ) → ItemsOf form spell cs
items_of form spell of [] = record { items = []; are = tt; same = refl; means = refl; scalars = λ h. tt }
items_of form spell of (c ∷ cs) =
    let i = of c in
    let more = items_of form spell of cs in
    record {
      items = i.item ∷ more.items;
      are = (i.is, more.are);
      same = rw (i.same, more.same) refl;
      means = rw (i.means, more.means) refl;
      scalars = λ h. all_append (spell c) (flat_map spell cs) (i.scalars h.0) (more.scalars h.1);
    }

neither : (c : ℕ) (a b : Bool) → (c == 34) ≡ a → (c == 92) ≡ b → a || b ≡ false → (c ≢ 34) × (c ≢ 92)
neither c false false e f h = (λ is. false≢true (sym e ∙ ap (λ x. x == 34) is), λ is. false≢true (sym f ∙ ap (λ x. x == 92) is))
neither c _ _ e f h = absurd (false≢true (sym h))

escaped_from : (form : Form) (c : ℕ) (b : Bool) → (c == 34) || (c == 92) ≡ b → ItemOf form (cond b (92 ∷ c ∷ []) (c ∷ [])) c
escaped_from form c true e = record { item = inner_escaped c; is = tt; same = refl; means = refl; scalars = λ h. (refl, (h, tt)) }
escaped_from form c false e = record { item = inner c; is = neither c (c == 34) (c == 92) refl refl e; same = refl; means = refl; scalars = λ h. (h, tt) }

doubled_from : (form : Form) → form.doubles ≡ true → (c : ℕ) (a b : Bool) → (c == 34) ≡ a → (c == 92) ≡ b → ItemOf form (cond (a || b) (c ∷ c ∷ []) (c ∷ [])) c
doubled_from form d c true b e f =
    let is : c ≡ 34 = eqb-true c 34 e in
    record { item = doubled; is = d; same = ap (λ x. x ∷ x ∷ []) (sym is); means = sym is; scalars = λ h. (h, (h, tt)) }
doubled_from form d c false true e f =
    let is : c ≡ 92 = eqb-true c 92 f in
    record { item = inner_escaped c; is = tt; same = ap (λ x. x ∷ c ∷ []) (sym is); means = refl; scalars = λ h. (h, (h, tt)) }
doubled_from form d c false false e f = record { item = inner c; is = neither c false false e f refl; same = refl; means = refl; scalars = λ h. (h, tt) }

plain_are : (form : Form) (cs : List ℕ) → AllByRecursion (λ c. may_be_plain form c ≡ true) cs → AllByRecursion (IsPiece form) (map plain cs)
plain_are form [] h = tt
plain_are form (c ∷ cs) h = (h.0, plain_are form cs h.1)

plain_apart : (cs : List ℕ) → QuotedApart (map plain cs)
plain_apart [] = tt
plain_apart (c ∷ cs) = plain_apart cs

plain_spelled : (cs : List ℕ) → spelled (map plain cs) ≡ cs
plain_spelled [] = refl
plain_spelled (c ∷ cs) = ap (λ t. c ∷ t) (plain_spelled cs)

plain_means : (cs : List ℕ) → text_of (map plain cs) ≡ cs
plain_means [] = refl
plain_means (c ∷ cs) = ap (λ t. c ∷ t) (plain_means cs)

plain_list : (form : Form) (pieces : List Piece) → ArePlain form pieces → AllByRecursion (IsPiece form) pieces × QuotedApart pieces
plain_list form [] h = (tt, tt)
plain_list form (plain c ∷ pieces) h = let r = plain_list form pieces h.2 in ((h.0, r.0), r.1)
plain_list form _ h = absurd h

nothing_some : (t : TextForm) → (form_of t).count ≡ any → (form_of t).nothing ≢ []
nothing_some Array e n = cc
nothing_some _ e n = cc

nothing_scalars : (t : TextForm) → AreScalars (spelled (form_of t).nothing)
nothing_scalars Array = (refl, (refl, (refl, (refl, tt))))
nothing_scalars _ = tt

-- a value's spelling as pieces of that value
record SpeltValue (form : Form) (value : Option (List ℕ)) (spelling : List ℕ) : Type 0 where
  pub pieces : List Piece
  pub are : ArePieces form pieces
  pub same : spelled pieces ≡ spelling
  pub is : IsPart form pieces value
  pub some : form.count ≡ any → pieces ≢ []
  pub scalars : AreScalars spelling

quoted_spelt : (t : TextForm) (spell : ℕ → List ℕ) → ((c : ℕ) → ItemOf (form_of t) (spell c) c) → (text spelling : List ℕ) → IsUtf8 text → spelling ≡ quoted_by spell (chars text) → SpeltValue (form_of t) (Some text) spelling
quoted_spelt t spell of text spelling u e =
    let i = items_of (form_of t) spell of (chars text) in
    let whole : AreScalars (quoted_by spell (chars text)) = (refl, all_append (flat_map spell (chars text)) (34 ∷ []) (i.scalars (characters_of text u)) (refl, tt)) in
    record {
      pieces = quoted i.items ∷ [];
      are = record { each = (i.are, tt); apart = λ d. (tt, tt) };
      same = append-nil (34 ∷ flat_map item_spelling i.items ++ 34 ∷ []) ∙ ap (λ t. 34 ∷ t ++ 34 ∷ []) i.same ∙ sym e;
      is = (λ n. subst (ArePlain (form_of t)) (sym n) (nothing_plain t), sym (encodes-chars text u) ∙ ap encode_utf8_all (sym (append-nil (map item_meaning i.items) ∙ i.means)));
      some = λ c n. cc;
      scalars = rw e whole;
    }

bare_spelt : (t : TextForm) (text spelling : List ℕ) → IsUtf8 text → spelling ≡ chars text → MayBeBare (form_of t) (chars text) → SpeltValue (form_of t) (Some text) spelling
bare_spelt t text spelling u e may = record {
  pieces = map plain (chars text);
  are = record { each = plain_are (form_of t) (chars text) may.1; apart = λ d. plain_apart (chars text) };
  same = plain_spelled (chars text) ∙ sym e;
  is = (λ n. may.2 (ap (map to_ascii_lowercase) (sym (plain_means (chars text)) ∙ ap text_of n)), sym (encodes-chars text u) ∙ ap encode_utf8_all (sym (plain_means (chars text))));
  some = λ c n. may.0 (sym (plain_means (chars text)) ∙ ap text_of n);
  scalars = subst AreScalars (sym e) (characters_of text u);
}

value_spelt : (t : TextForm) (value : Option (List ℕ)) (spelling : List ℕ) → IsOptionalText value → IsSpelled (form_of t) value spelling → SpeltValue (form_of t) value spelling
value_spelt t None spelling u h =
    let p = plain_list (form_of t) (form_of t).nothing (nothing_plain t) in
    record { pieces = (form_of t).nothing; are = record { each = p.0; apart = λ d. p.1 }; same = sym h; is = refl; some = nothing_some t; scalars = subst AreScalars (sym h) (nothing_scalars t) }
value_spelt t (Some text) spelling u (inl e) = quoted_spelt t escaped_character (λ c. escaped_from (form_of t) c ((c == 34) || (c == 92)) refl) text spelling u e
value_spelt t (Some text) spelling u (inr (inl h)) = quoted_spelt t doubled_character (λ c. doubled_from (form_of t) h.0 c (c == 34) (c == 92) refl refl) text spelling u h.1
value_spelt t (Some text) spelling u (inr (inr h)) = bare_spelt t text spelling u h.0 h.1

record SpeltValues (form : Form) (values : List (Option (List ℕ))) (spellings : List (List ℕ)) : Type 0 where
  pub parts : List (List Piece)
  pub each : AllByRecursion (ArePieces form) parts
  pub more : flat_map (λ p. 44 ∷ spelled p) parts ≡ flat_map (λ s. 44 ∷ s) spellings
  pub same : comma_joined parts ≡ by_commas spellings
  pub are : Pairwise (IsPart form) parts values
  pub some : form.count ≡ any → parts ≢ [] ∷ []
  pub more_scalars : AreScalars (flat_map (λ s. 44 ∷ s) spellings)
  pub scalars : AreScalars (by_commas spellings)

values_spelt : (t : TextForm) (values : List (Option (List ℕ))) (spellings : List (List ℕ)) → AllByRecursion IsOptionalText values → Pairwise (IsSpelled (form_of t)) values spellings → SpeltValues (form_of t) values spellings
values_spelt t [] [] u h = record { parts = []; each = tt; more = refl; same = refl; are = tt; some = λ m e. cc; more_scalars = tt; scalars = tt }
values_spelt t (value ∷ values) (spelling ∷ spellings) u h =
    let v = value_spelt t value spelling u.0 h.0 in
    let vs = values_spelt t values spellings u.1 h.1 in
    let whole : spelled v.pieces ++ flat_map (λ p. 44 ∷ spelled p) vs.parts ≡ spelling ++ flat_map (λ s. 44 ∷ s) spellings = rw (v.same, vs.more) refl in
    let all : AreScalars (spelling ++ flat_map (λ s. 44 ∷ s) spellings) = all_append spelling (flat_map (λ s. 44 ∷ s) spellings) v.scalars vs.more_scalars in
    record {
      parts = v.pieces ∷ vs.parts;
      each = (v.are, vs.each);
      more = ap (λ t. 44 ∷ t) whole;
      same = whole;
      are = (v.is, vs.are);
      some = λ m e. let none : v.pieces ≡ [] = cc in v.some m none;
      more_scalars = (refl, all);
      scalars = all;
    }
values_spelt t _ _ u h = absurd h

enough : (k : Count) (parts : List (List Piece)) (values : List (Option (List ℕ))) → (k ≡ any → parts ≢ [] ∷ []) → length values ≡ length parts → AreEnough k values → AreCounted k parts
enough any parts values s e h = s refl
enough some [] [] s e h = absurd (h refl)
enough some [] (value ∷ values) s e h = cc
enough some (part ∷ parts) values s e h = λ n. cc
enough two parts values s e h = sym e ∙ h

bracket_scalar : (t : TextForm) (c : ℕ) → ((form_of t).opens c ≡ true) ⊎ ((form_of t).closes c ≡ true) → IsScalar c
bracket_scalar t c (inl h) = low_scalar c (omega (arith, opens_low t c h))
bracket_scalar t c (inr h) = low_scalar c (omega (arith, closes_low t c h))

-- However the values are spelled, the text is of them.
pub reads_back : SpelledReadsBack
unfolding SpelledReadsBack
reads_back t o k values spellings w x n u h =
    let s = values_spelt t values spellings u h in
    let cs : List ℕ = o ∷ by_commas spellings ++ k ∷ [] in
    let all : AreScalars cs = (bracket_scalar t o (inl w), all_append (by_commas spellings) (k ∷ []) s.scalars (bracket_scalar t k (inr x), tt)) in
    let back : chars (encode_utf8_all cs) ≡ cs = chars-encodes cs (scalars_are cs all) in
    let is : IsNestText (form_of t) cs (nest_within o k values) = record {
      opening = o;
      closing = k;
      parts = s.parts;
      opens = w;
      closes = x;
      each = s.each;
      counted = enough (form_of t).count s.parts values s.some (as_many (IsPart (form_of t)) s.parts values s.are) n;
      whole = ap (λ t. o ∷ t ++ k ∷ []) (sym s.same);
      values = s.are;
      lower = refl;
      upper = refl;
    } in
    ((cs, (scalars_are cs all, refl)), subst (λ x. IsNestText (form_of t) x (nest_within o k values)) (sym back) is)

spelling_of : Form → Option (List ℕ) → List ℕ
spelling_of form None = spelled form.nothing
spelling_of form (Some text) = quoted_by escaped_character (chars text)

all_spelled : (t : TextForm) (values : List (Option (List ℕ))) → Pairwise (IsSpelled (form_of t)) values (map (spelling_of (form_of t)) values)
unfolding spelling_of
all_spelled t [] = tt
all_spelled t (None ∷ values) = (refl, all_spelled t values)
all_spelled t (Some text ∷ values) = (inl refl, all_spelled t values)

-- Every list of optional texts has a text.
pub has_text : (t : TextForm) (o k : ℕ) (values : List (Option (List ℕ))) → (form_of t).opens o ≡ true → (form_of t).closes k ≡ true → AreEnough (form_of t).count values → AllByRecursion IsOptionalText values →
    (text : List ℕ) × IsUtf8 text × IsNestText (form_of t) (chars text) (nest_within o k values)
unfolding SpelledReadsBack
has_text t o k values w x n u =
    let b = reads_back t o k values (map (spelling_of (form_of t)) values) w x n u (all_spelled t values) in
    (nest_text o k (map (spelling_of (form_of t)) values), b.0, b.1)

-- The values of a text in UTF-8 are UTF-8.
pub values_texts : ValuesAreTexts
unfolding ValuesAreTexts
values_texts t text nest u n =
    let all : AreScalars (n.opening ∷ comma_joined n.parts ++ n.closing ∷ []) = subst AreScalars n.whole (characters_of text u) in
    values_are_texts (form_of t) n.parts nest.values (parts_scalars n.parts (all_parts (comma_joined n.parts) (n.closing ∷ []) all.1).0) n.values
