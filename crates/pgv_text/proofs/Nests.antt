-- What is computed of a text is what it is of.
use Rattle.std.proofs.Common.{◌≡◌, ◌≢◌, ℕ, Bool, true, false, cond, ◌==◌, suc, List, [], ◌∷◌, ◌++◌, length, Option, Some, None, IfSome, ap, subst, ◌∙◌, sym, refl, append_assoc, ◌↔◌}
use Rattle.std.specs.Option.{option_map, option_and_then}
use Rattle.std.specs.Str.{chars, encode_utf8_all}
use Rattle.std.specs.List.{flat_map, AllByRecursion}
use Rattle.std.proofs.lemmas.Bool.{eqb-true, false≢true, false_from_ne_true}
use Rattle.std.proofs.lemmas.Option.{same_Some}
use Rattle.pgv_text.specs.declared.scanner.TextForm.{TextForm}
use Rattle.pgv_text.specs.declared.scanner.Class.{Class}
use Rattle.pgv_text.specs.declared.scanner.Class.TheVariants.{Quote, Backslash, Comma, Close, Other}
use Rattle.pgv_text.specs.declared.scanner.Place.TheVariants.{Start}
use Rattle.pgv_text.specs.NestPieces.{Form, Piece, plain, escaped, quoted, Count, any, some, two, AreCounted, ArePieces, Pairwise, IsPart, Nest, IsNestText, spelled, text_of, comma_joined}
use Rattle.pgv_text.specs.Forms.{form_of}
use Rattle.pgv_text.specs.Scan.{class, value_here, closes_here, values_counted, nest_between}
use Rattle.pgv_text.specs.ScannedPieces.{Found, closed, parse_outside, parse_pieces, nest_of}
use Rattle.pgv_text.proofs.CharacterClasses.{says, class_plain, class_closing}
use Rattle.pgv_text.proofs.Nothing.{value_is}
use Rattle.pgv_text.proofs.Sound.{Valid, after_part, part_end, sound}
use Rattle.pgv_text.proofs.SpelledTexts.{parts_read}
use Rattle.pgv_text.specs.declared.scanner.TextForm.TheVariants.{Array, Record}
use Rattle.pgv_text.specs.NestLaws.{ArrayIsItsValues, NestIsComputed, OneNest, RecordIsItsValues}

pub as_many : {X Y : Type 0} (R : X → Y → Type 0) (xs : List X) (ys : List Y) → Pairwise R xs ys → length ys ≡ length xs
as_many R [] [] h = refl
as_many R (x ∷ xs) (y ∷ ys) h = ap suc (as_many R xs ys h.1)
as_many R _ _ h = absurd h

closed_end : (c : ℕ) (cs : List ℕ) (r : Found) → closed c cs ≡ Some r → c ∷ cs ≡ r.closing ∷ []
closed_end c [] r h = ap (λ r. r.closing ∷ []) (same_Some (record { first = []; more = []; values = []; closing = c }) r h)
closed_end c (d ∷ cs) r h = cc

-- between these brackets
abbrev pub nest_within : ℕ → ℕ → List (Option (List ℕ)) → Nest
nest_within opening closing values = record { values = values; lower = opening == 91; upper = closing == 93 }

abbrev pub found_nest : Form → ℕ → List ℕ → Found → Option Nest
found_nest form o cs r = nest_between form o cs (value_here form cs (encode_utf8_all (text_of r.first)) ∷ r.values) r.closing

module _ (t : TextForm) where
  built : (o closing : ℕ) (cs : List ℕ) (parts : List (List Piece)) (values : List (Option (List ℕ))) → (form_of t).opens o ≡ true → class (form_of t) closing ≡ Close → AllByRecursion (ArePieces (form_of t)) parts → AreCounted (form_of t).count parts →
      cs ≡ comma_joined parts ++ closing ∷ [] → Pairwise (IsPart (form_of t)) parts values → IsNestText (form_of t) (o ∷ cs) (nest_within o closing values)
  built o closing cs parts values w k each n e v = record {
    opening = o;
    closing = closing;
    parts = parts;
    opens = w;
    closes = says (form_of t) closing Close k;
    each = each;
    counted = n;
    whole = ap (λ x. o ∷ x) e;
    values = v;
    lower = refl;
    upper = refl;
  }

  closed_at_once : (cs : List ℕ) (r : Found) → closes_here (form_of t) cs ≡ true → parse_pieces (form_of t) Start cs ≡ Some r → cs ≡ r.closing ∷ []
  closed_at_once [] r h e = absurd (false≢true h)
  closed_at_once (c ∷ cs) r h e = closed_end c cs r (sym (ap (parse_outside (form_of t) c cs (λ q. parse_pieces (form_of t) q cs)) (class_closing t c h)) ∙ e)

  module _ (o : ℕ) (cs : List ℕ) (w : (form_of t).opens o ≡ true) where
    value_first : (r : Found) → Valid (form_of t) [] false cs r → IsPart (form_of t) r.first (value_here (form_of t) cs (encode_utf8_all (text_of r.first)))
    value_first r v =
        let end = part_end (form_of t) r.more r.closing v.closes in
        subst (λ x. IsPart (form_of t) r.first (value_here (form_of t) x (encode_utf8_all (text_of r.first)))) (sym (v.whole ∙ ap (λ x. spelled r.first ++ x) end.2)) (value_is t r.first end.0 end.1 end.3 v.first.each)

    all_built : (r : Found) (value : Option (List ℕ)) (nest : Nest) → Valid (form_of t) [] false cs r → IsPart (form_of t) r.first value → AreCounted (form_of t).count (r.first ∷ r.more) →
        Some (nest_within o r.closing (value ∷ r.values)) ≡ Some nest → IsNestText (form_of t) (o ∷ cs) nest
    all_built r value nest v is n h =
        let whole : cs ≡ comma_joined (r.first ∷ r.more) ++ r.closing ∷ [] = v.whole ∙ sym (append_assoc (spelled r.first) (flat_map (λ p. 44 ∷ spelled p) r.more) (r.closing ∷ [])) in
        subst (IsNestText (form_of t) (o ∷ cs)) (same_Some _ nest h) (built o r.closing cs (r.first ∷ r.more) (value ∷ r.values) w v.closes (v.first, v.more) n whole (is, v.values))

    two_built : (b : Bool) (r : Found) (value : Option (List ℕ)) (nest : Nest) → (length (value ∷ r.values) == 2) ≡ b → Valid (form_of t) [] false cs r → IsPart (form_of t) r.first value → (form_of t).count ≡ two →
        option_map (nest_within o r.closing) (cond b (Some (value ∷ r.values)) None) ≡ Some nest → IsNestText (form_of t) (o ∷ cs) nest
    two_built true r value nest e v is k h =
        let n : length (r.first ∷ r.more) ≡ 2 = sym (ap suc (as_many (IsPart (form_of t)) r.more r.values v.values)) ∙ eqb-true (length (value ∷ r.values)) 2 e in
        all_built r value nest v is (subst (λ c. AreCounted c (r.first ∷ r.more)) (sym k) n) h
    two_built false r value nest e v is k h = cc

    not_at_once : (first : List Piece) (more : List (List Piece)) (closing : ℕ) → class (form_of t) closing ≡ Close → closes_here (form_of t) cs ≡ false → cs ≡ spelled first ++ after_part more closing → first ∷ more ≢ [] ∷ []
    not_at_once first more closing k h e n =
        let f : first ≡ [] = cc in
        let m : more ≡ [] = cc in
        let whole : cs ≡ closing ∷ [] = e ∙ ap (λ x. spelled x ++ after_part more closing) f ∙ ap (λ x. after_part x closing) m in
        false≢true (sym h ∙ ap (closes_here (form_of t)) whole ∙ says (form_of t) closing Close k)

    from_counted : (k : Count) (b : Bool) (r : Found) (value : Option (List ℕ)) (nest : Nest) → (form_of t).count ≡ k → closes_here (form_of t) cs ≡ b → parse_pieces (form_of t) Start cs ≡ Some r → Valid (form_of t) [] false cs r → IsPart (form_of t) r.first value →
        option_map (nest_within o r.closing) (values_counted k b (value ∷ r.values)) ≡ Some nest → IsNestText (form_of t) (o ∷ cs) nest
    from_counted any true r value nest c e p v is h =
        let none : AreCounted (form_of t).count [] = subst (λ c. AreCounted c []) (sym c) (λ e. cc) in
        subst (IsNestText (form_of t) (o ∷ cs)) (same_Some _ nest h) (built o r.closing cs [] [] w v.closes tt none (closed_at_once cs r e p) tt)
    from_counted any false r value nest c e p v is h = all_built r value nest v is (subst (λ c. AreCounted c (r.first ∷ r.more)) (sym c) (not_at_once r.first r.more r.closing v.closes e v.whole)) h
    from_counted some b r value nest c e p v is h = all_built r value nest v is (subst (λ c. AreCounted c (r.first ∷ r.more)) (sym c) (λ e. cc)) h
    from_counted two b r value nest c e p v is h = two_built (length (value ∷ r.values) == 2) r value nest refl v is c h

    from_parse : (f : Option Found) (nest : Nest) → parse_pieces (form_of t) Start cs ≡ f → IfSome f (Valid (form_of t) [] false cs) →
        option_and_then (found_nest (form_of t) o cs) f ≡ Some nest → IsNestText (form_of t) (o ∷ cs) nest
    from_parse None nest p v h = cc
    from_parse (Some r) nest p v h = from_counted (form_of t).count (closes_here (form_of t) cs) r (value_here (form_of t) cs (encode_utf8_all (text_of r.first))) nest refl refl p v (value_first r v) h

  opened : (o : ℕ) (cs : List ℕ) (b : Bool) (nest : Nest) → (form_of t).opens o ≡ b →
      cond b (option_and_then (found_nest (form_of t) o cs) (parse_pieces (form_of t) Start cs)) None ≡ Some nest → IsNestText (form_of t) (o ∷ cs) nest
  opened o cs true nest w h = from_parse o cs w (parse_pieces (form_of t) Start cs) nest refl (sound t cs Start) h
  opened o cs false nest w h = cc

  -- Only a text of a form is read, as what it is of.
  pub nest_sound : (text : List ℕ) (nest : Nest) → nest_of (form_of t) text ≡ Some nest → IsNestText (form_of t) text nest
  nest_sound [] nest h = cc
  nest_sound (o ∷ cs) nest h = opened o cs ((form_of t).opens o) nest refl h

  not_closing : (c : ℕ) (k : Class) → class (form_of t) c ≡ k → k ≢ Close → (form_of t).closes c ≡ false
  not_closing c k h n = false_from_ne_true ((form_of t).closes c) (λ e. n (sym h ∙ class_closing t c e))

  goes_on : (part : List Piece) (parts : List (List Piece)) (closing : ℕ) → ArePieces (form_of t) part → part ∷ parts ≢ [] ∷ [] → closes_here (form_of t) (spelled part ++ after_part parts closing) ≡ false
  goes_on [] [] closing h n = absurd (n refl)
  goes_on [] (part ∷ parts) closing h n = not_closing 44 Comma refl (λ e. cc)
  goes_on (plain c ∷ pieces) parts closing h n = not_closing c Other (class_plain (form_of t) c h.each.0) (λ e. cc)
  goes_on (escaped c ∷ pieces) parts closing h n = not_closing 92 Backslash refl (λ e. cc)
  goes_on (quoted items ∷ pieces) parts closing h n = not_closing 34 Quote refl (λ e. cc)

  count_met : (k : Count) (part : List Piece) (parts : List (List Piece)) (values : List (Option (List ℕ))) (closing : ℕ) → ArePieces (form_of t) part → AreCounted k (part ∷ parts) → length values ≡ length (part ∷ parts) →
      values_counted k (closes_here (form_of t) (spelled part ++ after_part parts closing)) values ≡ Some values
  count_met any part parts values closing h n e = ap (λ b. values_counted any b values) (goes_on part parts closing h n)
  count_met some part parts values closing h n e = refl
  count_met two part parts values closing h n e = ap (λ m. cond (m == 2) (Some values) None) (e ∙ n)

  no_parts : (k : Count) → AreCounted k [] → k ≡ any
  no_parts any h = refl
  no_parts some h = absurd (h refl)
  no_parts two h = cc

  nest_read_from : (o closing : ℕ) (parts : List (List Piece)) (values : List (Option (List ℕ))) → (form_of t).opens o ≡ true → (form_of t).closes closing ≡ true → AllByRecursion (ArePieces (form_of t)) parts → AreCounted (form_of t).count parts → Pairwise (IsPart (form_of t)) parts values →
      nest_of (form_of t) (o ∷ comma_joined parts ++ closing ∷ []) ≡ Some (nest_within o closing values)
  nest_read_from o closing [] [] w k hs n vs =
      let value : Option (List ℕ) = value_here (form_of t) (closing ∷ []) [] in
      ap (λ b. cond b (option_and_then (found_nest (form_of t) o (closing ∷ [])) (parse_pieces (form_of t) Start (closing ∷ []))) None) w
      ∙ ap (λ c. option_and_then (found_nest (form_of t) o (closing ∷ [])) (parse_outside (form_of t) closing [] (λ q. parse_pieces (form_of t) q []) c)) (class_closing t closing k)
      ∙ ap (λ c. option_map (nest_within o closing) (values_counted c (closes_here (form_of t) (closing ∷ [])) (value ∷ []))) (no_parts (form_of t).count n)
      ∙ ap (λ b. option_map (nest_within o closing) (values_counted any b (value ∷ []))) k
  nest_read_from o closing (part ∷ parts) (value ∷ values) w k hs n vs =
      let cs : List ℕ = spelled part ++ after_part parts closing in
      let p = parts_read t part parts value values closing (class_closing t closing k) hs.0 hs.1 vs.0 vs.1 in
      ap (λ x. nest_of (form_of t) (o ∷ x)) (append_assoc (spelled part) (flat_map (λ p. 44 ∷ spelled p) parts) (closing ∷ []))
      ∙ ap (λ b. cond b (option_and_then (found_nest (form_of t) o cs) (parse_pieces (form_of t) Start cs)) None) w
      ∙ ap (option_and_then (found_nest (form_of t) o cs)) p.0
      ∙ ap (λ v. nest_between (form_of t) o cs (v ∷ values) closing) p.1
      ∙ ap (option_map (nest_within o closing)) (count_met (form_of t).count part parts (value ∷ values) closing hs.0 n (as_many (IsPart (form_of t)) (part ∷ parts) (value ∷ values) vs))
  nest_read_from o closing _ _ w k hs n vs = absurd vs

  -- A text of a form is read as what it is of.
  pub nest_complete : (text : List ℕ) (nest : Nest) → IsNestText (form_of t) text nest → nest_of (form_of t) text ≡ Some nest
  nest_complete text nest n =
      ap (nest_of (form_of t)) n.whole ∙ nest_read_from n.opening n.closing n.parts nest.values n.opens n.closes n.each n.counted n.values
      ∙ ap (λ b. Some (record { values = nest.values; lower = b; upper = n.closing == 93 })) (sym n.lower)
      ∙ ap (λ b. Some (record { values = nest.values; lower = nest.lower; upper = b })) (sym n.upper)

-- ---- arrays and records, from the one relation

plain_nest : (form : Form) (text : List ℕ) (nest : Nest) → ((c : ℕ) → form.opens c ≡ true → (c == 91) ≡ false) → ((c : ℕ) → form.closes c ≡ true → (c == 93) ≡ false) → IsNestText form text nest → IsNestText form text (record { values = nest.values; lower = false; upper = false })
plain_nest form text nest o k n =
    subst (λ (b : Bool × Bool). IsNestText form text (record { values = nest.values; lower = b.0; upper = b.1 }))
    (ap (λ (b : Bool). (b, nest.upper)) (n.lower ∙ o n.opening n.opens) ∙ ap (λ (b : Bool). (false, b)) (n.upper ∙ k n.closing n.closes)) n

values_in : (o : Option Nest) (values : List (Option (List ℕ))) → option_map (λ nest. nest.values) o ≡ Some values → (nest : Nest) × (o ≡ Some nest) × (nest.values ≡ values)
values_in None values h = cc
values_in (Some nest) values h = (nest, refl, cc)

list_is : (t : TextForm) (text : List ℕ) (values : List (Option (List ℕ))) → ((c : ℕ) → (form_of t).opens c ≡ true → (c == 91) ≡ false) → ((c : ℕ) → (form_of t).closes c ≡ true → (c == 93) ≡ false) →
    (option_map (λ nest. nest.values) (nest_of (form_of t) text) ≡ Some values) ↔ IsNestText (form_of t) text (record { values = values; lower = false; upper = false })
list_is t text values o k = (
  λ h. let v = values_in (nest_of (form_of t) text) values h in
      subst (λ values. IsNestText (form_of t) text (record { values = values; lower = false; upper = false })) v.2 (plain_nest (form_of t) text v.0 o k (nest_sound t text v.0 v.1)),
  λ n. ap (option_map (λ nest. nest.values)) (nest_complete t text (record { values = values; lower = false; upper = false }) n),
)

pub array_is : ArrayIsItsValues
unfolding ArrayIsItsValues
array_is text values = list_is Array (chars text) values (λ c h. ap (λ c. c == 91) (eqb-true c 123 h)) (λ c h. ap (λ c. c == 93) (eqb-true c 125 h))

pub record_is : RecordIsItsValues
unfolding RecordIsItsValues
record_is text values = list_is Record (chars text) values (λ c h. ap (λ c. c == 91) (eqb-true c 40 h)) (λ c h. ap (λ c. c == 93) (eqb-true c 41 h))

-- ---- the laws

pub nest_is : NestIsComputed
unfolding NestIsComputed
nest_is t text nest = (nest_sound t text nest, nest_complete t text nest)

pub one_nest : OneNest
unfolding OneNest
one_nest t text nest other n m = let same : Some nest ≡ Some other = sym (nest_complete t text nest n) ∙ nest_complete t text other m in cc
