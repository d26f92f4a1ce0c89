-- Where the part that is null or absent stands.
use Rattle.std.proofs.Common.{◌≡◌, ◌<◌, ℕ, Bool, true, false, cond, ◌&&◌, ◌==◌, List, [], ◌∷◌, ◌++◌, Option, Some, None, ap, subst, ◌∙◌, sym, refl, arith}
use Rattle.std.specs.List.{AllByRecursion}
use Rattle.std.specs.Str.{encode_utf8_all}
use Rattle.std.proofs.lemmas.Bool.{and_parts, eq-eqb, eqb-true, false_from_ne_true, false≢true}
use Rattle.pgv_text.specs.declared.scanner.TextForm.{TextForm}
use Rattle.pgv_text.specs.declared.scanner.TextForm.TheVariants.{Array}
use Rattle.pgv_text.specs.declared.scanner.Class.{Class}
use Rattle.pgv_text.specs.declared.scanner.Class.TheVariants.{Comma, Close}
use Rattle.pgv_text.specs.NestPieces.{Form, Piece, plain, escaped, quoted, IsPiece, IsPart, may_be_plain, spelled, text_of}
use Rattle.pgv_text.specs.Forms.{form_of}
use Rattle.pgv_text.specs.Scan.{class, ends, stands, value_here}
use Rattle.pgv_text.specs.Copies.{as_it_is, bare, bare_by}
use Rattle.pgv_text.proofs.CharacterClasses.{class_plain}
use Rattle.pgv_text.proofs.Copies.{bare_is}

-- plain pieces of ASCII
abbrev pub ArePlain : Form → List Piece → Type 0
ArePlain form [] = Unit {0}
ArePlain form (plain c ∷ pieces) = (may_be_plain form c ≡ true) × (c < 128) × ArePlain form pieces
ArePlain form _ = ⊥

pub nothing_plain : (form : TextForm) → ArePlain (form_of form) (form_of form).nothing
nothing_plain Array = (refl, omega arith, (refl, omega arith, (refl, omega arith, (refl, omega arith, tt))))
nothing_plain _ = tt

module _ (form : Form) (e : ℕ) (tail : List ℕ) (end : ends (class form e) ≡ true) where
  stands_there : (nothing : List Piece) → ArePlain form nothing → stands form nothing (spelled nothing ++ e ∷ tail) ≡ true
  stands_there [] h = end
  stands_there (plain c ∷ nothing) h = ap (λ b. b && stands form nothing (spelled nothing ++ e ∷ tail)) (eq-eqb c c refl) ∙ stands_there nothing h.2
  stands_there _ h = absurd h

  -- a plain character ends nothing
  goes_on : (c : ℕ) → may_be_plain form c ≡ true → ends (class form c) ≡ true → ⊥
  goes_on c h k = false≢true (sym (ap ends (class_plain form c h)) ∙ k)

  not_plain : (c d : ℕ) (b : Bool) → may_be_plain form d ≡ true → may_be_plain form c ≡ false → (c == d) && b ≡ true → ⊥
  not_plain c d b h k a = false≢true (sym k ∙ ap (may_be_plain form) (eqb-true c d (and_parts (c == d) b a).0) ∙ h)

  only_there : (nothing pieces : List Piece) → ArePlain form nothing → AllByRecursion (IsPiece form) pieces → stands form nothing (spelled pieces ++ e ∷ tail) ≡ true → pieces ≡ nothing
  only_there [] [] n h s = refl
  only_there [] (plain c ∷ pieces) n h s = absurd (goes_on c h.0 s)
  only_there [] _ n h s = absurd (false≢true s)
  only_there (plain d ∷ nothing) [] n h s =
      absurd (goes_on d n.0 (subst (λ c. ends (class form c) ≡ true) (eqb-true e d (and_parts (e == d) (stands form nothing tail) s).0) end))
  only_there (plain d ∷ nothing) (plain c ∷ pieces) n h s =
      let a = and_parts (c == d) (stands form nothing (spelled pieces ++ e ∷ tail)) s in
      ap (λ c. plain c ∷ pieces) (eqb-true c d a.0) ∙ ap (λ p. plain d ∷ p) (only_there nothing pieces n.2 h.1 a.1)
  only_there (plain d ∷ nothing) (escaped c ∷ pieces) n h s = absurd (not_plain 92 d (stands form nothing (c ∷ spelled pieces ++ e ∷ tail)) n.0 refl s)
  only_there (plain d ∷ nothing) (quoted items ∷ pieces) n h s = absurd (not_plain 34 d _ n.0 refl s)
  only_there _ pieces n h s = absurd n

chosen : (form : Form) (pieces : List Piece) (b : Bool) → (b ≡ true → pieces ≡ form.nothing) → (pieces ≡ form.nothing → b ≡ true) → IsPart form pieces (cond b None (Some (encode_utf8_all (text_of pieces))))
chosen form pieces true if_so if_not = if_so refl
chosen form pieces false if_so if_not = (λ e. false≢true (if_not e), refl)

-- the value of pieces that end
pub value_is : (form : TextForm) (pieces : List Piece) (e : ℕ) (tail : List ℕ) → ends (class (form_of form) e) ≡ true → AllByRecursion (IsPiece (form_of form)) pieces →
    IsPart (form_of form) pieces (value_here (form_of form) (spelled pieces ++ e ∷ tail) (encode_utf8_all (text_of pieces)))
value_is t pieces e tail end h =
    let form = form_of t in
    chosen form pieces (stands form form.nothing (spelled pieces ++ e ∷ tail)) (only_there form e tail end form.nothing pieces (nothing_plain t) h)
    (λ n. ap (λ p. stands form form.nothing (spelled p ++ e ∷ tail)) n ∙ stands_there form e tail end form.nothing (nothing_plain t))

-- pieces have one value
pub one_value : (form : Form) (pieces : List Piece) (v w : Option (List ℕ)) → IsPart form pieces v → IsPart form pieces w → v ≡ w
one_value form pieces None None h k = refl
one_value form pieces None (Some w) h k = absurd (k.0 h)
one_value form pieces (Some v) None h k = absurd (h.0 k)
one_value form pieces (Some v) (Some w) h k = ap Some (h.1 ∙ sym k.1)

ended : (rest : Bool) (k : Class) → ends k ≡ true → bare_by rest k ≡ true
ended rest Comma e = refl
ended rest Close e = refl
ended rest _ e = absurd (false≢true e)

nothing_bare : (form : Form) (nothing : List Piece) (text : List ℕ) → ArePlain form nothing → stands form nothing text ≡ true → bare form text ≡ true
nothing_bare form [] (c ∷ cs) h e = ended (bare form cs) (class form c) e
nothing_bare form (plain d ∷ pieces) (c ∷ cs) h e =
    let same = and_parts (c == d) (stands form pieces cs) e in
    ap (bare_by (bare form cs)) (ap (class form) (eqb-true c d same.0) ∙ class_plain form d h.0) ∙ nothing_bare form pieces cs h.2 same.1
nothing_bare form [] [] h e = absurd (false≢true e)
nothing_bare form (plain d ∷ pieces) [] h e = absurd (false≢true e)
nothing_bare form _ text h e = absurd h

-- the part that is null or absent stands in the text as it is
pub copied_is_present : (form : TextForm) (text : List ℕ) → as_it_is (form_of form) text ≡ false → stands (form_of form) (form_of form).nothing text ≡ false
copied_is_present form text copied =
    false_from_ne_true (stands (form_of form) (form_of form).nothing text)
    (λ e. false≢true (sym copied ∙ bare_is (form_of form) text (nothing_bare (form_of form) (form_of form).nothing text (nothing_plain form) e)))
