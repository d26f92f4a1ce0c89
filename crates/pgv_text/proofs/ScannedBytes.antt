-- What the scanner makes of the bytes of a text is what is computed of its characters.
use Rattle.std.proofs.Common.{◌≡◌, ◌≤◌, ◌+◌, ◌%◌, ◌/◌, ℕ, Bool, true, false, cond, ◌&&◌, ◌==◌, List, [], ◌∷◌, ◌++◌, length, Option, Some, None, ap, ◌∙◌, sym, refl, inl, inr, arith}
use Rattle.std.specs.Option.{option_map, option_and_then}
use Rattle.std.specs.Prelude.{encode_utf8}
use Rattle.std.specs.Str.{encode_utf8_all, chars, IsUtf8}
use Rattle.std.specs.List.{AllByRecursion}
use Rattle.std.proofs.lemmas.Bool.{cases_lt, false_from_ne_true}
use Rattle.std.proofs.lemmas.Str.{encode_ascii, encodes-chars, length-encode, len_utf8_bounds}
use Rattle.std.proofs.lemmas.List.{length-append}
use lib.Dec.{ltb}
use Rattle.pgv_text.specs.declared.scanner.TextForm.{TextForm}
use Rattle.pgv_text.specs.declared.scanner.Class.{Class}
use Rattle.pgv_text.specs.declared.scanner.Class.TheVariants.{Quote, Backslash, Comma, Open, Close, Other}
use Rattle.pgv_text.specs.declared.scanner.Cell.{Cell}
use Rattle.pgv_text.specs.declared.scanner.Cell.TheVariants.{Keep}
use Rattle.pgv_text.specs.declared.scanner.Place.{Place}
use Rattle.pgv_text.specs.declared.scanner.Place.TheVariants.{Start, Outside, Quoted, AfterQuote, AfterBackslash, QuotedBackslash}
use Rattle.pgv_text.specs.NestPieces.{Form, Item, inner, inner_escaped, doubled, Piece, plain, escaped, quoted, item_meaning, meaning, text_of}
use Rattle.pgv_text.specs.Forms.{form_of}
use Rattle.pgv_text.specs.Scan.{Rest, class, cell, read, read_by, grown, next, at_end, outside_cell, quoted_cell, after_quote_cell, after_text, value_here, ends, values_counted, stands, closes_here, nest_between, values_from, nest_read}
use Rattle.pgv_text.specs.ScannedPieces.{Found, with_piece, with_item, item_first, with_part, closed, parse_outside, parse_quoted, parse_after_quote, parse_pieces, nest_of}
use Rattle.pgv_text.proofs.CharacterClasses.{says, opens_low, closes_low}
use Rattle.pgv_text.proofs.Nothing.{ArePlain, nothing_plain}
use Rattle.pgv_text.proofs.Nests.{nest_within, found_nest}
use Rattle.pgv_text.proofs.Stops.{not_equal, high_class, other_cell, onward, grown_none, grown_twice}

high_from : (c : ℕ) (a b d : Bool) → 128 ≤ c → ltb c 128 ≡ a → (x : ℕ) × (hs : List ℕ) × (cond a (c ∷ []) (cond b ((192 + c / 64) ∷ (128 + c % 64) ∷ []) (cond d ((224 + c / 4096) ∷ (128 + c / 64 % 64) ∷ (128 + c % 64) ∷ []) ((240 + c / 262144) ∷ (128 + c / 4096 % 64) ∷ (128 + c / 64 % 64) ∷ (128 + c % 64) ∷ []))) ≡ x ∷ hs) × (128 ≤ x) × AllByRecursion (λ y. 128 ≤ y) hs
high_from c true b d h e = (c, [], refl, h, tt)
high_from c false true d h e = (192 + c / 64, (128 + c % 64) ∷ [], refl, omega arith, (omega arith, tt))
high_from c false false true h e = (224 + c / 4096, (128 + c / 64 % 64) ∷ (128 + c % 64) ∷ [], refl, omega arith, (omega arith, (omega arith, tt)))
high_from c false false false h e = (240 + c / 262144, (128 + c / 4096 % 64) ∷ (128 + c / 64 % 64) ∷ (128 + c % 64) ∷ [], refl, omega arith, (omega arith, (omega arith, (omega arith, tt))))

-- the bytes of a character that isn't ASCII: there is a first one, and none is ASCII
high_bytes : (c : ℕ) → 128 ≤ c → (x : ℕ) × (hs : List ℕ) × (encode_utf8 c ≡ x ∷ hs) × (128 ≤ x) × AllByRecursion (λ y. 128 ≤ y) hs
unfolding lib.Utf8.encode
high_bytes c h = high_from c (ltb c 128) (ltb c 2048) (ltb c 65536) h refl

first_byte : (c : ℕ) (bs : List ℕ) → length (encode_utf8 c ++ bs) ≡ 0 → ⊥
first_byte c bs h = let n = length-encode c in let b = len_utf8_bounds c in let a = length-append (encode_utf8 c) bs in omega (arith, h, n, b, a)

-- bytes that aren't ASCII are kept
high_read : (t : TextForm) (p : Place) (h : ℕ) (bs : List ℕ) → 128 ≤ h → read (form_of t) p (h ∷ bs) ≡ grown (h ∷ []) (read (form_of t) (onward p) bs)
high_read t p h bs e = ap (read_by (form_of t) h bs (λ q. read (form_of t) q bs)) (ap (cell (form_of t) p) (high_class t h e) ∙ other_cell (form_of t) p)

onward_again : (p : Place) → onward (onward p) ≡ onward p
onward_again Quoted = refl
onward_again _ = refl

run_read : (t : TextForm) (p : Place) (hs bs : List ℕ) → AllByRecursion (λ x. 128 ≤ x) hs → onward p ≡ p → read (form_of t) p (hs ++ bs) ≡ grown hs (read (form_of t) p bs)
run_read t p [] bs h o = sym (grown_none (read (form_of t) p bs))
run_read t p (x ∷ hs) bs h o =
    high_read t p x (hs ++ bs) h.0
    ∙ ap (λ q. grown (x ∷ []) (read (form_of t) q (hs ++ bs))) o
    ∙ ap (grown (x ∷ [])) (run_read t p hs bs h.1 o)
    ∙ sym (grown_twice (x ∷ []) hs (read (form_of t) p bs))

character_read : (t : TextForm) (p : Place) (c : ℕ) (bs : List ℕ) → 128 ≤ c → read (form_of t) p (encode_utf8 c ++ bs) ≡ grown (encode_utf8 c) (read (form_of t) (onward p) bs)
character_read t p c bs k =
    let e = high_bytes c k in
    rw e.2 (high_read t p e.0 (e.1 ++ bs) e.3 ∙ ap (grown (e.0 ∷ [])) (run_read t (onward p) e.1 bs e.4 (onward_again p)) ∙ sym (grown_twice (e.0 ∷ []) e.1 (read (form_of t) (onward p) bs)))

-- what is parsed, without its pieces
abbrev pub summary : Found → Rest
summary r = record { text = encode_utf8_all (text_of r.first); values = r.values; closing = r.closing }

mapped : (g : Rest → Rest) (f : Found → Found) (x : Option Rest) (o : Option Found) → ((r : Found) → g (summary r) ≡ summary (f r)) → x ≡ option_map summary o → option_map g x ≡ option_map summary (option_map f o)
mapped g f x None h e = ap (option_map g) e
mapped g f x (Some r) h e = ap (option_map g) e ∙ ap Some (h r)

-- a piece or an item adds its character
adds_piece : (piece : Piece) (c : ℕ) → meaning piece ≡ c ∷ [] → (r : Found) → after_text (encode_utf8 c) (summary r) ≡ summary (with_piece piece r)
adds_piece piece c e r = ap (λ m. record { text = encode_utf8_all (m ++ text_of r.first); values = r.values; closing = r.closing }) (sym e)

item_text : (item : Item) (pieces : List Piece) → text_of (item_first item pieces) ≡ item_meaning item ∷ text_of pieces
item_text item (quoted items ∷ pieces) = refl
item_text item _ = refl

adds_item : (item : Item) (c : ℕ) → item_meaning item ≡ c → (r : Found) → after_text (encode_utf8 c) (summary r) ≡ summary (with_item item r)
adds_item item c e r = ap (λ m. record { text = encode_utf8_all m; values = r.values; closing = r.closing }) (ap (λ c. c ∷ text_of r.first) (sym e) ∙ sym (item_text item r.first))

quote_adds_nothing : (o : Option Found) → option_map summary o ≡ option_map summary (option_map (with_piece (quoted [])) o)
quote_adds_nothing None = refl
quote_adds_nothing (Some r) = refl

stands_same : (t : TextForm) (nothing : List Piece) → ArePlain (form_of t) nothing → (cs : List ℕ) → stands (form_of t) nothing (encode_utf8_all cs) ≡ stands (form_of t) nothing cs
stands_same t [] h [] = refl
stands_same t [] h (c ∷ cs) =
    elim (cases_lt c 128) [
      | inl k ↦ ap (λ b. stands (form_of t) [] (b ++ encode_utf8_all cs)) (encode_ascii c k)
      | inr k ↦ let e = high_bytes c k in ap (λ b. stands (form_of t) [] (b ++ encode_utf8_all cs)) e.2 ∙ ap ends (high_class t e.0 e.3 ∙ sym (high_class t c k))
    ]
stands_same t (plain d ∷ pieces) h [] = refl
stands_same t (plain d ∷ pieces) h (c ∷ cs) =
    elim (cases_lt c 128) [
      | inl k ↦ ap (λ b. stands (form_of t) (plain d ∷ pieces) (b ++ encode_utf8_all cs)) (encode_ascii c k) ∙ ap (λ b. (c == d) && b) (stands_same t pieces h.2 cs)
      | inr k ↦ let e = high_bytes c k in
          ap (λ b. stands (form_of t) (plain d ∷ pieces) (b ++ encode_utf8_all cs)) e.2 ∙ ap (λ b. b && stands (form_of t) pieces (e.1 ++ encode_utf8_all cs)) (not_equal e.0 d h.1 e.3)
          ∙ sym (ap (λ b. b && stands (form_of t) pieces cs) (not_equal c d h.1 k))
    ]
stands_same t _ h cs = absurd h

value_same : (t : TextForm) (cs text : List ℕ) → value_here (form_of t) (encode_utf8_all cs) text ≡ value_here (form_of t) cs text
value_same t cs text = ap (λ b. cond b None (Some text)) (stands_same t (form_of t).nothing (nothing_plain t) cs)

-- the bytes of a character, by the cell of its class
abbrev read_character : Form → ℕ → List ℕ → (Place → Option Rest) → Cell → Option Rest
read_character form c bs go (Keep p) = grown (encode_utf8 c) (go p)
read_character form c bs go k = read_by form c bs go k

ascii_read : (form : Form) (c : ℕ) (bs : List ℕ) (go : Place → Option Rest) (k : Cell) → encode_utf8 c ≡ c ∷ [] → read_by form c bs go k ≡ read_character form c bs go k
ascii_read form c bs go (Keep p) e = ap (λ b. grown b (go p)) (sym e)
ascii_read form c bs go _ e = refl

module _ (t : TextForm) (c : ℕ) (cs : List ℕ) (all : (q : Place) → read (form_of t) q (encode_utf8_all cs) ≡ option_map summary (parse_pieces (form_of t) q cs)) where
  piece_read : (piece : Piece) → meaning piece ≡ c ∷ [] → grown (encode_utf8 c) (read (form_of t) Outside (encode_utf8_all cs)) ≡ option_map summary (option_map (with_piece piece) (parse_pieces (form_of t) Outside cs))
  piece_read piece e = mapped (after_text (encode_utf8 c)) (with_piece piece) (read (form_of t) Outside (encode_utf8_all cs)) (parse_pieces (form_of t) Outside cs) (adds_piece piece c e) (all Outside)

  item_read : (item : Item) → item_meaning item ≡ c → grown (encode_utf8 c) (read (form_of t) Quoted (encode_utf8_all cs)) ≡ option_map summary (option_map (with_item item) (parse_pieces (form_of t) Quoted cs))
  item_read item e = mapped (after_text (encode_utf8 c)) (with_item item) (read (form_of t) Quoted (encode_utf8_all cs)) (parse_pieces (form_of t) Quoted cs) (adds_item item c e) (all Quoted)

  not_ended : (bs : List ℕ) → ¬ (length bs ≡ 0) → at_end c bs ≡ None
  not_ended [] n = absurd (n refl)
  not_ended (b ∷ bs) n = refl

  ended_read : (ds : List ℕ) → at_end c (encode_utf8_all ds) ≡ option_map summary (closed c ds)
  ended_read [] = refl
  ended_read (d ∷ ds) = not_ended (encode_utf8 d ++ encode_utf8_all ds) (first_byte d (encode_utf8_all ds))

  outside_read : (k : Class) → read_character (form_of t) c (encode_utf8_all cs) (λ q. read (form_of t) q (encode_utf8_all cs)) (outside_cell k) ≡ option_map summary (parse_outside (form_of t) c cs (λ q. parse_pieces (form_of t) q cs) k)
  outside_read Quote = all Quoted
  outside_read Backslash = all AfterBackslash
  outside_read Comma =
      mapped (next (form_of t) (encode_utf8_all cs)) (with_part (form_of t) cs) (read (form_of t) Start (encode_utf8_all cs)) (parse_pieces (form_of t) Start cs)
      (λ r. ap (λ v. record { text = []; values = v ∷ r.values; closing = r.closing }) (value_same t cs (encode_utf8_all (text_of r.first)))) (all Start)
  outside_read Open = refl
  outside_read Close = ended_read cs
  outside_read Other = piece_read (plain c) refl

  quoted_read : (k : Class) → read_character (form_of t) c (encode_utf8_all cs) (λ q. read (form_of t) q (encode_utf8_all cs)) (quoted_cell k) ≡ option_map summary (parse_quoted c (λ q. parse_pieces (form_of t) q cs) k)
  quoted_read Quote = all AfterQuote
  quoted_read Backslash = all QuotedBackslash
  quoted_read _ = item_read (inner c) refl

  after_read : (b : Bool) (k : Class) → class (form_of t) c ≡ k → read_character (form_of t) c (encode_utf8_all cs) (λ q. read (form_of t) q (encode_utf8_all cs)) (after_quote_cell b k) ≡ option_map summary (parse_after_quote (form_of t) c cs (λ q. parse_pieces (form_of t) q cs) b k)
  after_read true Quote h = item_read doubled (sym (says (form_of t) c Quote h))
  after_read _ k h = outside_read k ∙ quote_adds_nothing (parse_outside (form_of t) c cs (λ q. parse_pieces (form_of t) q cs) k)

  at_place : (p : Place) → read_character (form_of t) c (encode_utf8_all cs) (λ q. read (form_of t) q (encode_utf8_all cs)) (cell (form_of t) p (class (form_of t) c)) ≡ option_map summary (parse_pieces (form_of t) p (c ∷ cs))
  at_place Quoted = quoted_read (class (form_of t) c)
  at_place AfterQuote = after_read (form_of t).doubles (class (form_of t) c) refl
  at_place AfterBackslash = piece_read (escaped c) refl
  at_place QuotedBackslash = item_read (inner_escaped c) refl
  at_place _ = outside_read (class (form_of t) c)

open_high : (t : TextForm) (x : ℕ) → 128 ≤ x → (form_of t).closes x ≡ false
open_high t x h = false_from_ne_true ((form_of t).closes x) (λ e. omega (arith, closes_low t x e, h))

closes_same : (t : TextForm) (cs : List ℕ) → closes_here (form_of t) (encode_utf8_all cs) ≡ closes_here (form_of t) cs
closes_same t [] = refl
closes_same t (c ∷ cs) =
    elim (cases_lt c 128) [
      | inl k ↦ ap (λ b. closes_here (form_of t) (b ++ encode_utf8_all cs)) (encode_ascii c k)
      | inr k ↦ let e = high_bytes c k in ap (λ b. closes_here (form_of t) (b ++ encode_utf8_all cs)) e.2 ∙ open_high t e.0 e.3 ∙ sym (open_high t c k)
    ]

bytes_read : (t : TextForm) (cs : List ℕ) (p : Place) → read (form_of t) p (encode_utf8_all cs) ≡ option_map summary (parse_pieces (form_of t) p cs)
bytes_read t [] p = refl
bytes_read t (c ∷ cs) p =
    elim (cases_lt c 128) [
      | inl k ↦ ap (λ b. read (form_of t) p (b ++ encode_utf8_all cs)) (encode_ascii c k)
          ∙ ascii_read (form_of t) c (encode_utf8_all cs) (λ q. read (form_of t) q (encode_utf8_all cs)) (cell (form_of t) p (class (form_of t) c)) (encode_ascii c k) ∙ at_place t c cs (bytes_read t cs) p
      | inr k ↦ character_read t p c (encode_utf8_all cs) k
          ∙ sym (ap (read_character (form_of t) c (encode_utf8_all cs) (λ q. read (form_of t) q (encode_utf8_all cs))) (ap (cell (form_of t) p) (high_class t c k) ∙ other_cell (form_of t) p)) ∙ at_place t c cs (bytes_read t cs) p
    ]

from_summary : (t : TextForm) (o : ℕ) (cs : List ℕ) (x : Option Rest) (f : Option Found) → x ≡ option_map summary f →
    option_and_then (λ r. nest_between (form_of t) o (encode_utf8_all cs) (values_from (form_of t) (encode_utf8_all cs) r) r.closing) x
    ≡ option_and_then (found_nest (form_of t) o cs) f
from_summary t o cs x None e = ap (option_and_then (λ r. nest_between (form_of t) o (encode_utf8_all cs) (values_from (form_of t) (encode_utf8_all cs) r) r.closing)) e
from_summary t o cs x (Some r) e =
    ap (option_and_then (λ r. nest_between (form_of t) o (encode_utf8_all cs) (values_from (form_of t) (encode_utf8_all cs) r) r.closing)) e
    ∙ ap (λ b. option_map (nest_within o r.closing) (values_counted (form_of t).count b (value_here (form_of t) (encode_utf8_all cs) (encode_utf8_all (text_of r.first)) ∷ r.values))) (closes_same t cs)
    ∙ ap (λ v. nest_between (form_of t) o cs (v ∷ r.values) r.closing) (value_same t cs (encode_utf8_all (text_of r.first)))

high_opens : (t : TextForm) (x : ℕ) → 128 ≤ x → (form_of t).opens x ≡ false
high_opens t x h = false_from_ne_true ((form_of t).opens x) (λ e. omega (arith, opens_low t x e, h))

nest_encoded : (t : TextForm) (cs : List ℕ) → nest_read (form_of t) (encode_utf8_all cs) ≡ nest_of (form_of t) cs
nest_encoded t [] = refl
nest_encoded t (o ∷ cs) =
    elim (cases_lt o 128) [
      | inl k ↦ ap (λ b. nest_read (form_of t) (b ++ encode_utf8_all cs)) (encode_ascii o k)
          ∙ ap (λ x. cond ((form_of t).opens o) x None) (from_summary t o cs (read (form_of t) Start (encode_utf8_all cs)) (parse_pieces (form_of t) Start cs) (bytes_read t cs Start))
      | inr k ↦ let e = high_bytes o k in ap (λ b. nest_read (form_of t) (b ++ encode_utf8_all cs)) e.2 ∙ rw (high_opens t e.0 e.3, high_opens t o k) refl
    ]

-- What the scanner makes of the bytes of a text is computed of its characters.
pub nest_bytes : (t : TextForm) (bs : List ℕ) → IsUtf8 bs → nest_read (form_of t) bs ≡ nest_of (form_of t) (chars bs)
nest_bytes t bs u = ap (nest_read (form_of t)) (sym (encodes-chars bs u)) ∙ nest_encoded t (chars bs)
