-- What is spelled is parsed so.
use Rattle.std.proofs.Common.{◌≡◌, ◌≢◌, ℕ, Bool, true, false, List, [], ◌∷◌, ◌++◌, Option, Some, ap, ◌∙◌, sym, refl, append_assoc}
use Rattle.std.specs.Option.{option_map}
use Rattle.std.specs.Str.{encode_utf8_all}
use Rattle.std.specs.List.{flat_map, AllByRecursion}
use Rattle.pgv_text.specs.declared.scanner.TextForm.{TextForm}
use Rattle.pgv_text.specs.declared.scanner.Class.{Class}
use Rattle.pgv_text.specs.declared.scanner.Class.TheVariants.{Quote, Backslash, Close, Other}
use Rattle.pgv_text.specs.declared.scanner.Place.TheVariants.{Start, Outside, Quoted, AfterQuote}
use Rattle.pgv_text.specs.NestPieces.{Item, inner, inner_escaped, doubled, Piece, plain, escaped, quoted, item_spelling, IsItem, IsPiece, NotQuotedFirst, QuotedApart, ArePieces, Pairwise, IsPart, spelled, text_of}
use Rattle.pgv_text.specs.Forms.{form_of}
use Rattle.pgv_text.specs.Scan.{class, ends, value_here}
use Rattle.pgv_text.specs.ScannedPieces.{Found, with_piece, with_item, with_part, parse_outside, parse_quoted, parse_after_quote, parse_pieces}
use Rattle.pgv_text.proofs.CharacterClasses.{says, class_plain}
use Rattle.pgv_text.proofs.Nothing.{value_is, one_value}
use Rattle.pgv_text.proofs.Sound.{after_part, part_end}

-- the parts after a part, their values, and the bracket
module _ (t : TextForm) (more : List (List Piece)) (values : List (Option (List ℕ))) (closing : ℕ) where
  abbrev pub found : List Piece → Found
  found first = record { first = first; more = more; values = values; closing = closing }

  inner_from : (c : ℕ) (rest : List ℕ) (k : Class) → k ≢ Quote → k ≢ Backslash → parse_quoted c (λ q. parse_pieces (form_of t) q rest) k ≡ option_map (with_item (inner c)) (parse_pieces (form_of t) Quoted rest)
  inner_from c rest Quote n m = absurd (n refl)
  inner_from c rest Backslash n m = absurd (m refl)
  inner_from c rest _ n m = refl

  item_read : (item : Item) → IsItem (form_of t) item → (rest : List ℕ) → parse_pieces (form_of t) Quoted (item_spelling item ++ rest) ≡ option_map (with_item item) (parse_pieces (form_of t) Quoted rest)
  item_read (inner c) h rest = inner_from c rest (class (form_of t) c) (λ e. h.0 (says (form_of t) c Quote e)) (λ e. h.1 (says (form_of t) c Backslash e))
  item_read (inner_escaped c) h rest = refl
  item_read doubled h rest = ap (λ b. parse_after_quote (form_of t) 34 rest (λ q. parse_pieces (form_of t) q rest) b Quote) h

  items_read : (items : List Item) → AllByRecursion (IsItem (form_of t)) items → (pieces : List Piece) (rest : List ℕ) → parse_pieces (form_of t) AfterQuote rest ≡ Some (found (quoted [] ∷ pieces)) →
      parse_pieces (form_of t) Quoted (flat_map item_spelling items ++ 34 ∷ rest) ≡ Some (found (quoted items ∷ pieces))
  items_read [] h pieces rest e = e
  items_read (item ∷ items) h pieces rest e =
      ap (parse_pieces (form_of t) Quoted) (append_assoc (item_spelling item) (flat_map item_spelling items) (34 ∷ rest))
      ∙ item_read item h.0 (flat_map item_spelling items ++ 34 ∷ rest)
      ∙ ap (option_map (with_item item)) (items_read items h.1 pieces rest e)

  after_other : (c : ℕ) (cs : List ℕ) (b : Bool) (k : Class) → (b ≡ true → k ≢ Quote) →
      parse_after_quote (form_of t) c cs (λ q. parse_pieces (form_of t) q cs) b k ≡ option_map (with_piece (quoted [])) (parse_outside (form_of t) c cs (λ q. parse_pieces (form_of t) q cs) k)
  after_other c cs true Quote n = absurd (n refl refl)
  after_other c cs _ k n = refl

  after_class : (c : ℕ) (cs : List ℕ) (k : Class) → class (form_of t) c ≡ k → ((form_of t).doubles ≡ true → k ≢ Quote) → parse_pieces (form_of t) AfterQuote (c ∷ cs) ≡ option_map (with_piece (quoted [])) (parse_pieces (form_of t) Outside (c ∷ cs))
  after_class c cs k h n = after_other c cs (form_of t).doubles (class (form_of t) c) (λ d e. n d (sym h ∙ e))

  module _ (e : ℕ) (tail : List ℕ) (end : ends (class (form_of t) e) ≡ true) (ended : parse_pieces (form_of t) Outside (e ∷ tail) ≡ Some (found [])) where
    -- a quoted piece ends before pieces of which the first isn't quoted, where quotes are doubled
    after_read : (pieces : List Piece) → AllByRecursion (IsPiece (form_of t)) pieces → ((form_of t).doubles ≡ true → NotQuotedFirst pieces) →
        parse_pieces (form_of t) AfterQuote (spelled pieces ++ e ∷ tail) ≡ option_map (with_piece (quoted [])) (parse_pieces (form_of t) Outside (spelled pieces ++ e ∷ tail))
    after_read [] h n = after_class e tail (class (form_of t) e) refl (λ d k. let wrong : false ≡ true = ap ends (sym k) ∙ end in cc)
    after_read (plain c ∷ pieces) h n = after_class c (spelled pieces ++ e ∷ tail) Other (class_plain (form_of t) c h.0) (λ d k. cc)
    after_read (escaped c ∷ pieces) h n = after_class 92 (c ∷ spelled pieces ++ e ∷ tail) Backslash refl (λ d k. cc)
    after_read (quoted items ∷ pieces) h n = after_class 34 (((flat_map item_spelling items ++ 34 ∷ []) ++ spelled pieces) ++ e ∷ tail) Quote refl (λ d k. n d)

    pub pieces_read : (pieces : List Piece) → AllByRecursion (IsPiece (form_of t)) pieces → ((form_of t).doubles ≡ true → QuotedApart pieces) → parse_pieces (form_of t) Outside (spelled pieces ++ e ∷ tail) ≡ Some (found pieces)
    pieces_read [] h q = ended
    pieces_read (plain c ∷ pieces) h q =
        let rest = spelled pieces ++ e ∷ tail in
        ap (parse_outside (form_of t) c rest (λ q. parse_pieces (form_of t) q rest)) (class_plain (form_of t) c h.0)
        ∙ ap (option_map (with_piece (plain c))) (pieces_read pieces h.1 q)
    pieces_read (escaped c ∷ pieces) h q = ap (option_map (with_piece (escaped c))) (pieces_read pieces h.1 q)
    pieces_read (quoted items ∷ pieces) h q =
        let rest = spelled pieces ++ e ∷ tail in
        let regrouped : spelled (quoted items ∷ pieces) ++ e ∷ tail ≡ 34 ∷ (flat_map item_spelling items ++ 34 ∷ rest) = simp append_assoc in
        ap (parse_pieces (form_of t) Outside) regrouped
        ∙ items_read items h.0 pieces rest
        (after_read pieces h.1 (λ d. (q d).0) ∙ ap (option_map (with_piece (quoted []))) (pieces_read pieces h.1 (λ d. (q d).1)))

module _ (t : TextForm) where
  pub start_outside : (cs : List ℕ) → parse_pieces (form_of t) Start cs ≡ parse_pieces (form_of t) Outside cs
  start_outside [] = refl
  start_outside (c ∷ cs) = refl

  value_found : (pieces : List Piece) → ArePieces (form_of t) pieces → (more : List (List Piece)) (closing : ℕ) → class (form_of t) closing ≡ Close → (value : Option (List ℕ)) → IsPart (form_of t) pieces value →
      value_here (form_of t) (spelled pieces ++ after_part more closing) (encode_utf8_all (text_of pieces)) ≡ value
  value_found pieces h more closing k value is =
      let end = part_end (form_of t) more closing k in
      ap (λ x. value_here (form_of t) (spelled pieces ++ x) (encode_utf8_all (text_of pieces))) end.2
      ∙ one_value (form_of t) pieces _ value (value_is t pieces end.0 end.1 end.3 h.each) is

  -- parts, after the opening bracket
  pub parts_read : (part : List Piece) (parts : List (List Piece)) (value : Option (List ℕ)) (values : List (Option (List ℕ))) (closing : ℕ) → class (form_of t) closing ≡ Close →
      ArePieces (form_of t) part → AllByRecursion (ArePieces (form_of t)) parts → IsPart (form_of t) part value → Pairwise (IsPart (form_of t)) parts values →
      (parse_pieces (form_of t) Start (spelled part ++ after_part parts closing) ≡ Some (record { first = part; more = parts; values = values; closing = closing }))
      × (value_here (form_of t) (spelled part ++ after_part parts closing) (encode_utf8_all (text_of part)) ≡ value)
  parts_read part [] value [] closing k h hs v vs =
      let ended : parse_pieces (form_of t) Outside (closing ∷ []) ≡ Some (record { first = []; more = []; values = []; closing = closing }) = ap (parse_outside (form_of t) closing [] (λ q. parse_pieces (form_of t) q [])) k in
      (start_outside (spelled part ++ closing ∷ []) ∙ pieces_read t [] [] closing closing [] (ap ends k) ended part h.each h.apart, value_found part h [] closing k value v)
  parts_read part (next ∷ parts) value (other ∷ values) closing k h hs v vs =
      let rest = spelled next ++ after_part parts closing in
      let more = parts_read next parts other values closing k hs.0 hs.1 vs.0 vs.1 in
      let regrouped : after_part (next ∷ parts) closing ≡ 44 ∷ rest = ap (λ x. 44 ∷ x) (append_assoc (spelled next) (flat_map (λ p. 44 ∷ spelled p) parts) (closing ∷ [])) in
      let ended : parse_pieces (form_of t) Outside (44 ∷ rest) ≡ Some (record { first = []; more = next ∷ parts; values = other ∷ values; closing = closing }) =
      ap (option_map (with_part (form_of t) rest)) more.0 ∙ ap (λ x. Some (record { first = []; more = next ∷ parts; values = x ∷ values; closing = closing })) more.1 in (
        ap (λ x. parse_pieces (form_of t) Start (spelled part ++ x)) regrouped ∙ start_outside (spelled part ++ 44 ∷ rest) ∙ pieces_read t (next ∷ parts) (other ∷ values) closing 44 rest refl ended part h.each h.apart,
        value_found part h (next ∷ parts) closing k value v,
      )
  parts_read part _ value _ closing k h hs v vs = absurd vs
