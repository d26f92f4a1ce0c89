-- What comes next in a text: the part in front, and of an array the elements.
use Rattle.std.proofs.Common.{◌≡◌, ◌⊎◌, inl, inr, ◌<◌, ◌==◌, ℕ, ◌-◌, Bool, true, false, cond, not, List, [], ◌∷◌, length, drop, Option, Some, None, ap, sym, ◌∙◌, refl, append-nil, arith}
use Rattle.std.specs.Option.{option_map, option_and_then}
use Rattle.std.specs.Str.{IsUtf8}
use Rattle.std.proofs.lemmas.Bool.{eqb-true, false≢true}
use Rattle.std.proofs.lemmas.List.{nil_from_length}
use Rattle.pgv_text.specs.declared.scanner.TextForm.{TextForm}
use Rattle.pgv_text.specs.declared.scanner.TextForm.TheVariants.{Array}
use Rattle.pgv_text.specs.declared.scanner.Place.TheVariants.{Start}
use Rattle.pgv_text.specs.declared.scanner.Cell.TheVariants.{End, Keep, Part as Ends, Pass, Refuse}
use Rattle.pgv_text.specs.declared.scanner.Cell.{Cell}
use Rattle.pgv_text.specs.declared.scanner.Stop.{Stop}
use Rattle.pgv_text.specs.declared.parts.Part.{Part}
use Rattle.pgv_text.specs.declared.parts.Part.TheVariants.{Nothing, Plain, Unquoted}
use Rattle.pgv_text.specs.ArrayText.{array_form}
use Rattle.pgv_text.specs.Copies.{as_it_is, copies_after, copies_by, copies_from, first_copied}
use Rattle.pgv_text.specs.Forms.{form_of}
use Rattle.pgv_text.specs.PartFound.{IsPartInFront, IsRun, IsUnquoted, halts, part_value}
use Rattle.pgv_text.specs.PartsLeftView.{or_none, values_left}
use Rattle.pgv_text.specs.NestPieces.{Form, Nest, any}
use Rattle.pgv_text.specs.Values.{array_values}
use Rattle.pgv_text.proofs.Nothing.{copied_is_present}
use Rattle.pgv_text.proofs.ScannedBytes.{nest_bytes}
use Rattle.pgv_text.specs.Scan.{Rest, at_end, closes_here, values_counted, grown, nest_between, nest_read, next, read, read_by, stands, value_here, values_from}

-- after an opening bracket, where the closing one doesn't follow at once
open_values : (b : ℕ) (bs : List ℕ) (r : Option Rest) (closes : Bool) → closes ≡ false →
    option_map (λ (n : Nest). n.values) (option_and_then (λ r. option_map (λ values. record { values = values; lower = b == 91; upper = r.closing == 93 }) (values_counted any closes (values_from array_form bs r))) r)
    ≡ option_map (values_from array_form bs) r
open_values b bs None closes e = refl
open_values b bs (Some r) closes e = rw e refl

values_open : (b : ℕ) (bs : List ℕ) → array_form.opens b ≡ true → closes_here array_form bs ≡ false →
    option_map (λ (n : Nest). n.values) (nest_read array_form (b ∷ bs)) ≡ option_map (values_from array_form bs) (read array_form Start bs)
values_open b bs o e =
    ap (λ (w : Bool). option_map (λ (n : Nest). n.values) (cond w (option_and_then (λ r. nest_between array_form b bs (values_from array_form bs r) r.closing) (read array_form Start bs)) None)) o
    ∙ open_values b bs (read array_form Start bs) (closes_here array_form bs) e

values_end : (b c : ℕ) → array_form.opens b ≡ true → array_form.closes c ≡ true → option_map (λ (n : Nest). n.values) (nest_read array_form (b ∷ c ∷ [])) ≡ Some []
values_end b c o h = rw (eqb-true b 123 o, eqb-true c 125 h) refl

-- where it follows at once
values_none : (b : ℕ) (bs : List ℕ) → array_form.opens b ≡ true → closes_here array_form bs ≡ true → length bs ≡ 1 → option_map (λ (n : Nest). n.values) (nest_read array_form (b ∷ bs)) ≡ Some []
values_none b [] o h l = absurd (false≢true h)
values_none b (c ∷ []) o h l = values_end b c o h
values_none b (c ∷ d ∷ bs) o h l = absurd (omega (arith, l))

-- where something follows it
values_more : (b : ℕ) (bs : List ℕ) → array_form.opens b ≡ true → closes_here array_form bs ≡ true → (length bs ≡ 1 → ⊥) → option_map (λ (n : Nest). n.values) (nest_read array_form (b ∷ bs)) ≡ None
values_more b [] o h l = absurd (false≢true h)
values_more b (c ∷ []) o h l = absurd (l refl)
values_more b (c ∷ d ∷ bs) o h l = rw (eqb-true b 123 o, eqb-true c 125 h) refl

-- a text that doesn't begin so
pub none_read : (text : List ℕ) → IsUtf8 text → nest_read array_form text ≡ None → array_values text ≡ None
none_read text u e = ap (option_map (λ (n : Nest). n.values)) (sym (nest_bytes Array text u) ∙ e)

-- the values of a text are read from its bytes
as_read : (text : List ℕ) (b : ℕ) (bs : List ℕ) → IsUtf8 text → text ≡ b ∷ bs → array_values text ≡ option_map (λ (n : Nest). n.values) (nest_read array_form (b ∷ bs))
as_read text b bs u e = ap (option_map (λ (n : Nest). n.values)) (sym (nest_bytes Array text u) ∙ ap (nest_read array_form) e)

-- of a text that begins with an opening bracket
pub values_there : (text : List ℕ) (b : ℕ) (bs : List ℕ) → IsUtf8 text → text ≡ b ∷ bs → array_form.opens b ≡ true → closes_here array_form bs ≡ false →
    array_values text ≡ option_map (values_from array_form bs) (read array_form Start bs)
values_there text b bs u e o h = as_read text b bs u e ∙ values_open b bs o h

pub no_values : (text : List ℕ) (b : ℕ) (bs : List ℕ) → IsUtf8 text → text ≡ b ∷ bs → array_form.opens b ≡ true → closes_here array_form bs ≡ true → length bs ≡ 1 → array_values text ≡ Some []
no_values text b bs u e o h l = as_read text b bs u e ∙ values_none b bs o h l

pub not_at_end : (text : List ℕ) (b : ℕ) (bs : List ℕ) → IsUtf8 text → text ≡ b ∷ bs → array_form.opens b ≡ true → closes_here array_form bs ≡ true → (length bs ≡ 1 → ⊥) → array_values text ≡ None
not_at_end text b bs u e o h l = as_read text b bs u e ∙ values_more b bs o h l

-- the values of a text whose part in front has these bytes, by the cell where it ends
module _ (form : TextForm) (text part rest : List ℕ) (b : ℕ) where
  abbrev taken : Option Rest → List (Option (List ℕ))
  taken r = or_none (option_map (values_from (form_of form) text) (grown part r))

  by_comma : (r : Option Rest) → (taken (option_map (next (form_of form) rest) r) ≡ [] → ⊥) →
      taken (option_map (next (form_of form) rest) r) ≡ value_here (form_of form) text part ∷ or_none (option_map (values_from (form_of form) rest) r)
  by_comma None some = absurd (some refl)
  by_comma (Some r) some = ap (λ t. value_here (form_of form) text t ∷ value_here (form_of form) rest r.text ∷ r.values) (append-nil part)

  by_end : (bytes : List ℕ) → (taken (at_end b bytes) ≡ [] → ⊥) → taken (at_end b bytes) ≡ value_here (form_of form) text part ∷ values_left form bytes
  by_end [] some = ap (λ t. value_here (form_of form) text t ∷ []) (append-nil part)
  by_end (c ∷ cs) some = absurd (some refl)

  by_cell : (k : Cell) → halts k ≡ true → (taken (read_by (form_of form) b rest (λ q. read (form_of form) q rest) k) ≡ [] → ⊥) →
      taken (read_by (form_of form) b rest (λ q. read (form_of form) q rest) k) ≡ value_here (form_of form) text part ∷ values_left form rest
  by_cell Ends h some = by_comma (read (form_of form) Start rest) some
  by_cell End h some = by_end rest some
  by_cell Refuse h some = absurd (some refl)
  by_cell (Keep p) h some = absurd (false≢true h)
  by_cell (Pass p) h some = absurd (false≢true h)

copies_taken : (form : Form) (text rest : List ℕ) (k : Cell) → length rest < length text → halts k ≡ true → copies_after form Start text ≡ copies_by form rest (λ q. copies_after form q rest) k →
    copies_from form rest ≡ drop 1 (copies_from form text)
copies_taken form [] rest k l h e = absurd (omega (arith, l))
copies_taken form (b ∷ bs) rest (Keep p) l h e = absurd (false≢true h)
copies_taken form (b ∷ bs) rest (Pass p) l h e = absurd (false≢true h)
copies_taken form (b ∷ bs) rest _ l h e = sym e

-- the part in front is the first of the values that are left, where there are any
pub unquoted_taken : (form : TextForm) (text part : List ℕ) (s : Stop) → IsUnquoted form text part s → (values_left form text ≡ [] → ⊥) →
    (values_left form text ≡ value_here (form_of form) text part ∷ values_left form s.rest.now) × (copies_from (form_of form) s.rest.now ≡ drop 1 (copies_from (form_of form) text))
unquoted_taken form text part s found some =
    let end : values_left form text ≡ taken form text part s.rest.now s.byte (read_by (form_of form) s.byte s.rest.now (λ q. read (form_of form) q s.rest.now) s.cell) =
    ap (λ r. or_none (option_map (values_from (form_of form) text) r)) found.end in (
      end ∙ by_cell form text part s.rest.now s.byte s.cell found.halts_there (λ none. some (end ∙ none)),
      copies_taken (form_of form) text s.rest.now s.cell found.shorter found.halts_there found.copies,
    )

pub part_taken : (form : TextForm) (text out : List ℕ) (part : Part) (s : Stop) → IsPartInFront form text part out s → (values_left form text ≡ [] → ⊥) →
    (values_left form text ≡ part_value part out ∷ values_left form s.rest.now) × (copies_from (form_of form) s.rest.now ≡ drop 1 (copies_from (form_of form) text))
part_taken form text out part s front some =
    let first = unquoted_taken form text front.bytes s front.found some in
    (first.0 ∙ ap (λ v. v ∷ values_left form s.rest.now) (sym front.value), first.1)

-- whether values are left, by their number, and by what is read
pub none_left : (form : TextForm) (text : List ℕ) (n : ℕ) → n ≡ length (values_left form text) → n ≡ 0 → values_left form text ≡ []
none_left form text n counted none = nil_from_length (values_left form text) (sym counted ∙ none)

pub some_left : (form : TextForm) (text : List ℕ) (n : ℕ) → n ≡ length (values_left form text) → (n ≡ 0 → ⊥) → values_left form text ≡ [] → ⊥
some_left form text n counted some none = some (counted ∙ ap length none)

pub unread_left : (form : TextForm) (text : List ℕ) → read (form_of form) Start text ≡ None → values_left form text ≡ []
unread_left form text none = ap (λ r. or_none (option_map (values_from (form_of form) text) r)) none

-- one fewer is left after a part was taken
pub fewer_left : (was now : List (Option (List ℕ))) (v : Option (List ℕ)) (n : ℕ) → n ≡ length was → was ≡ v ∷ now → n - 1 ≡ length now
fewer_left was now v n counted first = let more = ap length first in omega (arith, counted, more)

-- the value of a part whose bytes were put into a text, which is cleared where the part is null or absent
pub value_put : (nothing : Bool) (bytes text : List ℕ) → (nothing ≡ false → text ≡ bytes) → cond nothing None (Some bytes) ≡ cond (not nothing) (Some text) None
value_put true bytes text kept = refl
value_put false bytes text kept = ap Some (sym (kept refl))

-- a part that is one run of the text, alone or in quotes
module _ (form : TextForm) (text out : List ℕ) (s : Stop) where
  ends_part : (k : Cell) → (k ≡ Ends) ⊎ (k ≡ End) → (halts k ≡ true) × (copies_from (form_of form) s.rest.now ≡ copies_by (form_of form) s.rest.now (λ q. copies_after (form_of form) q s.rest.now) k)
  ends_part k (inl e) = (ap halts e, ap (copies_by (form_of form) s.rest.now (λ q. copies_after (form_of form) q s.rest.now)) (sym e))
  ends_part k (inr e) = (ap halts e, ap (copies_by (form_of form) s.rest.now (λ q. copies_after (form_of form) q s.rest.now)) (sym e))

  abbrev pub part_of_run : Bool → Part
  part_of_run nothing = cond nothing Nothing (Plain s.run)

  run_value : (nothing : Bool) → part_value (part_of_run nothing) out ≡ cond nothing None (Some s.run.now)
  run_value true = refl
  run_value false = refl

  run_in_text : (nothing : Bool) → part_of_run nothing ≡ Unquoted → ⊥
  run_in_text true e = cc
  run_in_text false e = cc

  pub run_in_front : (nothing : Bool) (part : Part) → IsRun form Start text s → nothing ≡ stands (form_of form) (form_of form).nothing text → part ≡ part_of_run nothing → IsPartInFront form text part out s
  run_in_front nothing part run is of_run =
      let ended = ends_part s.cell run.part.1 in
      record {
        bytes = s.run.now;
        found = record { end = run.part.0; shorter = run.shorter; halts_there = ended.0; copies = run.copies ∙ ended.1 };
        value = ap (λ p. part_value p out) of_run ∙ (run_value nothing ∙ ap (λ b. cond b None (Some s.run.now)) is);
        copied = λ e. absurd (run_in_text nothing (sym of_run ∙ e));
      }

-- a part that was put into a text
pub unquoted_in_front : (form : TextForm) (text out : List ℕ) (s : Stop) → IsUnquoted form text out s → as_it_is (form_of form) text ≡ false → IsPartInFront form text Unquoted out s
unquoted_in_front form text out s found copied = record {
  bytes = out;
  found = found;
  value = ap (λ b. cond b None (Some out)) (sym (copied_is_present form text copied));
  copied = λ e. copied;
}

-- what is copied, where a part is left
pub first_is_copied : (form : TextForm) (text : List ℕ) → as_it_is (form_of form) text ≡ false → (values_left form text ≡ [] → ⊥) → first_copied (copies_from (form_of form) text) ≡ true
first_is_copied form [] copied some = absurd (some refl)
first_is_copied form (b ∷ bs) copied some = ap not copied
