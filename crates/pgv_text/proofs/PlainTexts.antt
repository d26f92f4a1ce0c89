-- A text without quotes and backslashes: each part stands in it as it is.
use Rattle.std.proofs.Common.{◌≡◌, ℕ, Bool, true, false, not, cond, ◌||◌, ◌==◌, List, [], ◌∷◌, Option, Some, None, is_some, ap, sym, ◌∙◌, refl, subst}
use Rattle.std.specs.Option.{option_and_then, option_map}
use Rattle.std.proofs.lemmas.Bool.{and_parts, false≢true}
use Rattle.pgv_text.specs.declared.scanner.Class.{Class}
use Rattle.pgv_text.specs.declared.scanner.Class.TheVariants.{Quote, Backslash, Comma, Open, Close, Other}
use Rattle.pgv_text.specs.declared.scanner.Place.{Place}
use Rattle.pgv_text.specs.declared.scanner.Place.TheVariants.{Start, Outside}
use Rattle.pgv_text.specs.NestPieces.{Form}
use Rattle.pgv_text.specs.Forms.{form_of}
use Rattle.pgv_text.specs.Scan.{class, outside_cell, read, read_by}
use Rattle.pgv_text.specs.Copies.{UnquotedIsNotCopied, bare, bare_by, closes_at_once, copies_after, copies_by, copies_from, next_copies, none_copied, unquoted}
use Rattle.pgv_text.proofs.ScannedBytes.{nest_bytes}
use Rattle.pgv_text.proofs.CharacterClasses.{says}
use Rattle.pgv_text.proofs.Copies.{bare_is, outside, outside_is}

some_within : {A B : Type 0} (f : A → B) (o : Option A) → is_some (option_map f o) ≡ true → is_some o ≡ true
some_within f None h = h
some_within f (Some a) h = refl

module _ (form : Form) where
  neither : (b : ℕ) → not (b == 34 || b == 92) ≡ true → (class form b ≡ Quote → ⊥) × (class form b ≡ Backslash → ⊥)
  neither b h = (
    λ e. false≢true (subst (λ (c : ℕ). not (c == 34 || c == 92) ≡ true) (says form b Quote e) h),
    λ e. false≢true (subst (λ (c : ℕ). not (c == 34 || c == 92) ≡ true) (says form b Backslash e) h),
  )

  abbrev Stands : Place → List ℕ → Type 0
  Stands p bs = (bare form bs ≡ true) × (none_copied (copies_after form p bs) ≡ true)

  next_stands : (bs : List ℕ) → is_some (read form Start bs) ≡ true → Stands Start bs → none_copied (next_copies form bs (copies_after form Start bs)) ≡ true
  next_stands [] r h = refl
  next_stands (b ∷ bs) r h = rw (bare_is form (b ∷ bs) h.0, h.1) refl

  step : (b : ℕ) (bs : List ℕ) (k : Class) → (k ≡ Quote → ⊥) → (k ≡ Backslash → ⊥) →
      ((p : Place) → outside form p ≡ true → is_some (read form p bs) ≡ true → Stands p bs) →
      is_some (read_by form b bs (λ q. read form q bs) (outside_cell k)) ≡ true →
      (bare_by (bare form bs) k ≡ true) × (none_copied (copies_by form bs (λ q. copies_after form q bs) (outside_cell k)) ≡ true)
  step b bs Quote n m all r = absurd (n refl)
  step b bs Backslash n m all r = absurd (m refl)
  step b bs Comma n m all r = let h = some_within _ (read form Start bs) r in (refl, next_stands bs h (all Start refl h))
  step b bs Open n m all r = absurd (false≢true r)
  step b [] Close n m all r = (refl, refl)
  step b (c ∷ bs) Close n m all r = absurd (false≢true r)
  step b bs Other n m all r = all Outside refl (some_within _ (read form Outside bs) r)

  stands : (bs : List ℕ) (p : Place) → outside form p ≡ true → unquoted bs ≡ true → is_some (read form p bs) ≡ true → Stands p bs
  stands [] p o u r = absurd (false≢true r)
  stands (b ∷ bs) p o u r =
      let parts = and_parts (not (b == 34 || b == 92)) (unquoted bs) u in
      let no = neither b parts.0 in
      let same = outside_is form p (class form b) o in
      let h = step b bs (class form b) no.0 no.1 (λ q out. stands bs q out parts.1) (ap (λ k. is_some (read_by form b bs (λ q. read form q bs) k)) (sym same) ∙ r) in
      (h.0, ap (λ k. none_copied (copies_by form bs (λ q. copies_after form q bs) k)) same ∙ h.1)

unless : (closes : Bool) (copies : List Bool) → none_copied copies ≡ true → none_copied (cond closes [] copies) ≡ true
unless true copies h = refl
unless false copies h = h

begun : {A B : Type 0} (opens : Bool) (f : A → Option B) (o : Option A) → is_some (cond opens (option_and_then f o) None) ≡ true → is_some o ≡ true
begun true f None h = h
begun true f (Some a) h = refl
begun false f o h = absurd (false≢true h)

pub unquoted_is_not_copied : UnquotedIsNotCopied
unquoted_is_not_copied form [] u found plain = refl
unquoted_is_not_copied form (b ∷ bs) u found plain =
    let read_there = begun ((form_of form).opens b) _ (read (form_of form) Start bs) (ap is_some (nest_bytes form (b ∷ bs) u) ∙ found) in
    let rest = and_parts (not (b == 34 || b == 92)) (unquoted bs) plain in
    unless (closes_at_once form bs) (copies_from (form_of form) bs) (next_stands (form_of form) bs read_there (stands (form_of form) bs Start refl rest.1 read_there))
