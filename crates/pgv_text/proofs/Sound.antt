-- What is parsed is spelled so.
use Rattle.std.proofs.Common.{◌≡◌, ◌≢◌, ℕ, Bool, true, false, List, [], ◌∷◌, ◌++◌, Option, Some, None, IfSome, ap, subst, ◌∙◌, sym, refl, append_assoc}
use Rattle.std.specs.Option.{option_map}
use Rattle.std.specs.Str.{encode_utf8_all}
use Rattle.std.specs.List.{flat_map, AllByRecursion}
use Rattle.std.proofs.lemmas.Bool.{false≢true}
use Rattle.pgv_text.specs.declared.scanner.TextForm.{TextForm}
use Rattle.pgv_text.specs.declared.scanner.Class.{Class}
use Rattle.pgv_text.specs.declared.scanner.Class.TheVariants.{Quote, Backslash, Comma, Open, Close, Other}
use Rattle.pgv_text.specs.declared.scanner.Place.{Place}
use Rattle.pgv_text.specs.declared.scanner.Place.TheVariants.{Start, Outside, Quoted, AfterQuote, AfterBackslash, QuotedBackslash}
use Rattle.pgv_text.specs.NestPieces.{Form, Item, inner, inner_escaped, doubled, Piece, plain, escaped, quoted, item_spelling, IsItem, IsPiece, NotQuotedFirst, QuotedApart, ArePieces, Pairwise, IsPart, spelling, spelled, text_of}
use Rattle.pgv_text.specs.Forms.{form_of}
use Rattle.pgv_text.specs.Scan.{class, ends, value_here}
use Rattle.pgv_text.specs.ScannedPieces.{Found, with_piece, with_item, with_part, closed, parse_outside, parse_quoted, parse_after_quote, parse_pieces}
use Rattle.pgv_text.proofs.CharacterClasses.{says}
use Rattle.pgv_text.proofs.Nothing.{value_is}

abbrev pub after_part : List (List Piece) → ℕ → List ℕ
after_part more closing = flat_map (λ p. 44 ∷ spelled p) more ++ closing ∷ []

-- after these characters, the rest of a part, the parts after it, and the bracket; an open quoted piece comes first
pub record Valid (form : Form) (before : List ℕ) (within : Bool) (cs : List ℕ) (r : Found) : Type 0 where
  pub first : ArePieces form r.first
  pub more : AllByRecursion (ArePieces form) r.more
  pub values : Pairwise (IsPart form) r.more r.values
  pub closes : class form r.closing ≡ Close
  pub whole : before ++ cs ≡ spelled r.first ++ after_part r.more r.closing
  pub quoted_first : within ≡ true → (items : List Item) × (pieces : List Piece) × (r.first ≡ quoted items ∷ pieces)

-- what of a piece has been passed over
abbrev pub before : Place → List ℕ
before Quoted = 34 ∷ []
before AfterQuote = 34 ∷ 34 ∷ []
before AfterBackslash = 92 ∷ []
before QuotedBackslash = 34 ∷ 92 ∷ []
before _ = []

abbrev pub in_quotes : Place → Bool
in_quotes Start = false
in_quotes Outside = false
in_quotes AfterBackslash = false
in_quotes _ = true

abbrev pub Reads : Form → Place → List ℕ → Type 0
Reads form place cs = IfSome (parse_pieces form place cs) (Valid form (before place) (in_quotes place) cs)

if_mapped : {X Y : Type 0} (P : X → Type 0) (Q : Y → Type 0) (f : X → Y) (o : Option X) → ((x : X) → P x → Q (f x)) → IfSome o P → IfSome (option_map f o) Q
if_mapped P Q f None g h = tt
if_mapped P Q f (Some x) g h = g x h

if_weaker : {X : Type 0} (P Q : X → Type 0) (o : Option X) → ((x : X) → P x → Q x) → IfSome o P → IfSome o Q
if_weaker P Q None g h = tt
if_weaker P Q (Some x) g h = g x h

-- the comma or bracket after a part
pub part_end : (form : Form) (more : List (List Piece)) (closing : ℕ) → class form closing ≡ Close → (e : ℕ) × (tail : List ℕ) × (after_part more closing ≡ e ∷ tail) × (ends (class form e) ≡ true)
part_end form [] closing k = (closing, [], refl, ap ends k)
part_end form (part ∷ more) closing k = (44, (spelled part ++ flat_map (λ p. 44 ∷ spelled p) more) ++ closing ∷ [], refl, refl)

not_quoted : (pieces : List Piece) (c : ℕ) (cs tail : List ℕ) → c ∷ cs ≡ spelled pieces ++ tail → c ≢ 34 → NotQuotedFirst pieces
not_quoted (quoted items ∷ pieces) c cs tail e n = let same : c ≡ 34 = cc in absurd (n same)
not_quoted _ c cs tail e n = tt

module _ (t : TextForm) where
  again : (b d : List ℕ) (p q : Bool) (cs ds : List ℕ) (r : Found) → (q ≡ true → p ≡ true) → d ++ ds ≡ b ++ cs → Valid (form_of t) b p cs r → Valid (form_of t) d q ds r
  again b d p q cs ds r o e v = record { first = v.first; more = v.more; values = v.values; closes = v.closes; whole = e ∙ v.whole; quoted_first = λ h. v.quoted_first (o h) }

  piece_valid : (piece : Piece) (b : List ℕ) (q : Bool) (ds cs : List ℕ) (r : Found) → IsPiece (form_of t) piece → ((form_of t).doubles ≡ true → QuotedApart r.first → QuotedApart (piece ∷ r.first)) → b ++ ds ≡ spelling piece ++ cs →
      (q ≡ true → (items : List Item) × (pieces : List Piece) × (piece ∷ r.first ≡ quoted items ∷ pieces)) → Valid (form_of t) [] false cs r → Valid (form_of t) b q ds (with_piece piece r)
  piece_valid piece b q ds cs r is apart e o v = record {
    first = record { each = (is, v.first.each); apart = λ d. apart d (v.first.apart d) };
    more = v.more;
    values = v.values;
    closes = v.closes;
    whole = e ∙ ap (λ x. spelling piece ++ x) v.whole ∙ sym (append_assoc (spelling piece) (spelled r.first) (after_part r.more r.closing));
    quoted_first = o;
  }

  item_valid_at : (item : Item) (b ds cs : List ℕ) (items : List Item) (pieces : List Piece) (r : Found) → IsItem (form_of t) item → b ++ ds ≡ 34 ∷ (item_spelling item ++ cs) →
      Valid (form_of t) (34 ∷ []) true cs (record r { first = quoted items ∷ pieces }) → Valid (form_of t) b true ds (with_item item (record r { first = quoted items ∷ pieces }))
  item_valid_at item b ds cs items pieces r is e v =
      let tail = after_part r.more r.closing in
      let rest : cs ≡ (flat_map item_spelling items ++ 34 ∷ []) ++ spelled pieces ++ tail = cc in
      let regrouped : 34 ∷ (item_spelling item ++ ((flat_map item_spelling items ++ 34 ∷ []) ++ spelled pieces ++ tail)) ≡ spelled (quoted (item ∷ items) ∷ pieces) ++ tail = simp append_assoc in
      record {
        first = record { each = ((is, v.first.each.0), v.first.each.1); apart = v.first.apart };
        more = v.more;
        values = v.values;
        closes = v.closes;
        whole = e ∙ ap (λ x. 34 ∷ (item_spelling item ++ x)) rest ∙ regrouped;
        quoted_first = λ h. (item ∷ items, pieces, refl);
      }

  item_valid : (item : Item) (b ds cs : List ℕ) (r : Found) → IsItem (form_of t) item → b ++ ds ≡ 34 ∷ (item_spelling item ++ cs) → Valid (form_of t) (34 ∷ []) true cs r → Valid (form_of t) b true ds (with_item item r)
  item_valid item b ds cs r is e v =
      let q = v.quoted_first refl in
      subst (λ (f : List Piece). Valid (form_of t) (34 ∷ []) true cs (record r { first = f }) → Valid (form_of t) b true ds (with_item item (record r { first = f }))) (sym q.2) (item_valid_at item b ds cs q.0 q.1 r is e) v

  part_valid : (c : ℕ) (cs : List ℕ) (r : Found) → c ≡ 44 → Valid (form_of t) [] false cs r → Valid (form_of t) [] false (c ∷ cs) (with_part (form_of t) cs r)
  part_valid c cs r k v =
      let end = part_end (form_of t) r.more r.closing v.closes in
      let whole : cs ≡ spelled r.first ++ end.0 ∷ end.1 = v.whole ∙ ap (λ x. spelled r.first ++ x) end.2 in
      record {
        first = record { each = tt; apart = λ d. tt };
        more = (v.first, v.more);
        values = (subst (λ x. IsPart (form_of t) r.first (value_here (form_of t) x (encode_utf8_all (text_of r.first)))) (sym whole) (value_is t r.first end.0 end.1 end.3 v.first.each), v.values);
        closes = v.closes;
        whole = ap (λ x. x ∷ cs) k ∙ ap (λ x. 44 ∷ x) (v.whole ∙ sym (append_assoc (spelled r.first) (flat_map (λ p. 44 ∷ spelled p) r.more) (r.closing ∷ [])));
        quoted_first = λ h. absurd (false≢true h);
      }

  closed_valid : (c : ℕ) (cs : List ℕ) → class (form_of t) c ≡ Close → IfSome (closed c cs) (Valid (form_of t) [] false (c ∷ cs))
  closed_valid c [] k = record { first = record { each = tt; apart = λ d. tt }; more = tt; values = tt; closes = k; whole = refl; quoted_first = λ h. absurd (false≢true h) }
  closed_valid c (d ∷ cs) k = tt

  module _ (c : ℕ) (cs : List ℕ) (all : (q : Place) → Reads (form_of t) q cs) where
    outside_valid : (k : Class) → class (form_of t) c ≡ k → IfSome (parse_outside (form_of t) c cs (λ q. parse_pieces (form_of t) q cs) k) (Valid (form_of t) [] false (c ∷ cs))
    outside_valid Quote k = if_weaker _ _ (parse_pieces (form_of t) Quoted cs) (λ r. again (34 ∷ []) [] true false cs (c ∷ cs) r (λ h. refl) (ap (λ x. x ∷ cs) (says (form_of t) c Quote k))) (all Quoted)
    outside_valid Backslash k = if_weaker _ _ (parse_pieces (form_of t) AfterBackslash cs) (λ r. again (92 ∷ []) [] false false cs (c ∷ cs) r (λ h. h) (ap (λ x. x ∷ cs) (says (form_of t) c Backslash k))) (all AfterBackslash)
    outside_valid Comma k = if_mapped _ _ (with_part (form_of t) cs) (parse_pieces (form_of t) Start cs) (λ r. part_valid c cs r (says (form_of t) c Comma k)) (all Start)
    outside_valid Open k = tt
    outside_valid Close k = closed_valid c cs k
    outside_valid Other k = if_mapped _ _ (with_piece (plain c)) (parse_pieces (form_of t) Outside cs)
        (λ r. piece_valid (plain c) [] false (c ∷ cs) cs r (says (form_of t) c Other k) (λ d a. a) refl (λ h. absurd (false≢true h))) (all Outside)

    not_class : (k d : Class) (e : ℕ) → class (form_of t) c ≡ k → class (form_of t) e ≡ d → k ≢ d → c ≢ e
    not_class k d e h g n same = n (sym h ∙ ap (class (form_of t)) same ∙ g)

    inner_valid : (k : Class) → class (form_of t) c ≡ k → k ≢ Quote → k ≢ Backslash → IfSome (option_map (with_item (inner c)) (parse_pieces (form_of t) Quoted cs)) (Valid (form_of t) (34 ∷ []) true (c ∷ cs))
    inner_valid k h n m = if_mapped _ _ (with_item (inner c)) (parse_pieces (form_of t) Quoted cs)
        (λ r. item_valid (inner c) (34 ∷ []) (c ∷ cs) cs r (not_class k Quote 34 h refl n, not_class k Backslash 92 h refl m) refl) (all Quoted)

    quoted_valid : (k : Class) → class (form_of t) c ≡ k → IfSome (parse_quoted c (λ q. parse_pieces (form_of t) q cs) k) (Valid (form_of t) (34 ∷ []) true (c ∷ cs))
    quoted_valid Quote k = if_weaker _ _ (parse_pieces (form_of t) AfterQuote cs) (λ r. again (34 ∷ 34 ∷ []) (34 ∷ []) true true cs (c ∷ cs) r (λ h. h) (ap (λ x. 34 ∷ x ∷ cs) (says (form_of t) c Quote k))) (all AfterQuote)
    quoted_valid Backslash k = if_weaker _ _ (parse_pieces (form_of t) QuotedBackslash cs) (λ r. again (34 ∷ 92 ∷ []) (34 ∷ []) true true cs (c ∷ cs) r (λ h. h) (ap (λ x. 34 ∷ x ∷ cs) (says (form_of t) c Backslash k))) (all QuotedBackslash)
    quoted_valid k h = inner_valid k h (λ e. cc) (λ e. cc)

    -- after a quote that closes
    after_quote : (k : Class) → class (form_of t) c ≡ k → ((form_of t).doubles ≡ true → c ≢ 34) → IfSome (option_map (with_piece (quoted [])) (parse_outside (form_of t) c cs (λ q. parse_pieces (form_of t) q cs) k)) (Valid (form_of t) (34 ∷ 34 ∷ []) true (c ∷ cs))
    after_quote k h n = if_mapped _ _ (with_piece (quoted [])) (parse_outside (form_of t) c cs (λ q. parse_pieces (form_of t) q cs) k)
        (λ r v. piece_valid (quoted []) (34 ∷ 34 ∷ []) true (c ∷ cs) (c ∷ cs) r tt (λ d a. (not_quoted r.first c cs (after_part r.more r.closing) v.whole (n d), a)) refl (λ h. ([], r.first, refl)) v) (outside_valid k h)

    after_valid : (b : Bool) → (form_of t).doubles ≡ b → (k : Class) → class (form_of t) c ≡ k → IfSome (parse_after_quote (form_of t) c cs (λ q. parse_pieces (form_of t) q cs) b k) (Valid (form_of t) (34 ∷ 34 ∷ []) true (c ∷ cs))
    after_valid true d Quote k = if_mapped _ _ (with_item doubled) (parse_pieces (form_of t) Quoted cs)
        (λ r. item_valid doubled (34 ∷ 34 ∷ []) (c ∷ cs) cs r d (ap (λ x. 34 ∷ 34 ∷ x ∷ cs) (says (form_of t) c Quote k))) (all Quoted)
    after_valid true d k h = after_quote k h (λ d. not_class k Quote 34 h refl (λ e. cc))
    after_valid false d k h = after_quote k h (λ e. absurd (false≢true (sym d ∙ e)))

    place_valid : (place : Place) → Reads (form_of t) place (c ∷ cs)
    place_valid Quoted = quoted_valid (class (form_of t) c) refl
    place_valid AfterQuote = after_valid (form_of t).doubles refl (class (form_of t) c) refl
    place_valid AfterBackslash = if_mapped _ _ (with_piece (escaped c)) (parse_pieces (form_of t) Outside cs)
        (λ r. piece_valid (escaped c) (92 ∷ []) false (c ∷ cs) cs r tt (λ d a. a) refl (λ h. absurd (false≢true h))) (all Outside)
    place_valid QuotedBackslash = if_mapped _ _ (with_item (inner_escaped c)) (parse_pieces (form_of t) Quoted cs)
        (λ r. item_valid (inner_escaped c) (34 ∷ 92 ∷ []) (c ∷ cs) cs r tt refl) (all Quoted)
    place_valid _ = outside_valid (class (form_of t) c) refl

  pub sound : (cs : List ℕ) (place : Place) → Reads (form_of t) place cs
  sound [] place = tt
  sound (c ∷ cs) place = place_valid c cs (sound cs) place
