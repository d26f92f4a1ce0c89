-- What is computed of a text is what it is of: the parts of a nest, or the empty range.
use Rattle.std.proofs.Common.{◌≡◌, ◌↔◌, ◌<◌, ◌+◌, ℕ, zero, suc, Bool, true, false, cond, ◌||◌, ◌==◌, List, [], ◌∷◌, length, map, Option, Some, None, ap, subst, ◌∙◌, sym, refl, arith}
use Rattle.std.specs.Prelude.{codes, nat_lt, if◌then◌else◌}
use Rattle.std.specs.Bool.{Decides}
use Rattle.std.specs.Char.{to_ascii_lowercase}
use Rattle.std.specs.List.{AllByRecursion}
use Rattle.std.specs.Option.{MatchOption, option_map}
use Rattle.std.specs.Str.{chars, str_to_ascii_lowercase, IsAscii, IsUtf8}
use Rattle.std.proofs.lemmas.Bool.{eqb-true, false≢true, false_from_ne_true}
use Rattle.std.proofs.lemmas.Option.{same_Some}
use Rattle.std.proofs.lemmas.Slice.Eq.{bytes_eq-Decides}
use Rattle.std.proofs.lemmas.Str.{chars-IsAscii, encodes-IsAscii, encodes-chars}
use Rattle.pgv_text.specs.declared.parts.Parts.{Parts}
use Rattle.pgv_text.specs.declared.scanner.TextForm.{TextForm}
use Rattle.pgv_text.specs.declared.scanner.TextForm.TheVariants.{Array, Range, Record}
use Rattle.pgv_text.specs.ContentText.{RangeContent, empty, parts, IsEmptyText, IsRangeOf, is_empty_text, is_empty_in, no_parts, range_content, content_of}
use Rattle.pgv_text.specs.Forms.{form_of}
use Rattle.pgv_text.specs.NestPieces.{Nest, IsNestText}
use Rattle.pgv_text.specs.ScannedPieces.{nest_of}
use Rattle.pgv_text.specs.PartsView.{AreBounded, ArePartsOf, nest, is_of_empty, content}
use Rattle.pgv_text.specs.RangeText.{range_form}
use Rattle.pgv_text.specs.Scan.{nest_read}
use Rattle.pgv_text.proofs.ScannedBytes.{nest_bytes}
use Rattle.pgv_text.proofs.Nests.{nest_sound, nest_complete, as_many}

-- ---- the text `empty`

pub is_decided : (text : List ℕ) → Decides (is_empty_text text) (IsEmptyText text)
is_decided text = bytes_eq-Decides (str_to_ascii_lowercase text) (codes "empty")

-- a character whose lower case is ASCII is ASCII itself
low_by : (c : ℕ) (a b : Bool) → nat_lt c 65 ≡ a → nat_lt c 91 ≡ b → cond a c (cond b (c + 32) c) < 128 → c < 128
low_by c true b e f h = h
low_by c false true e f h = omega arith
low_by c false false e f h = h

low_from : (c d : ℕ) → to_ascii_lowercase c ≡ d → d < 128 → c < 128
low_from c d e h = low_by c (nat_lt c 65) (nat_lt c 91) refl refl (subst (λ n. n < 128) (sym e) h)

ascii_from : (text lowered : List ℕ) → map to_ascii_lowercase text ≡ lowered → AllByRecursion (λ c. c < 128) lowered → IsAscii text
ascii_from [] lowered e h i = omega arith
ascii_from (c ∷ text) [] e h i = absurd cc
ascii_from (c ∷ text) (d ∷ lowered) e h zero = low_from c d (cc) h.0
ascii_from (c ∷ text) (d ∷ lowered) e h (suc i) = ascii_from text lowered (cc) h.1 i

empty_low : AllByRecursion (λ c. c < 128) (codes "empty")
empty_low = (omega arith, (omega arith, (omega arith, (omega arith, (omega arith, tt)))))

empty_is_ascii : (text : List ℕ) → is_empty_text text ≡ true → IsAscii text
empty_is_ascii text e = ascii_from text (codes "empty") ((is_decided text).0 e) empty_low

-- its characters are its bytes
of_chars : (bytes : List ℕ) → IsUtf8 bytes → is_empty_text (chars bytes) ≡ true → is_empty_text bytes ≡ true
of_chars bytes u e =
    let same = sym (encodes-IsAscii (chars bytes) (empty_is_ascii (chars bytes) e)) ∙ encodes-chars bytes u in
    ap is_empty_text (sym same) ∙ e

of_bytes : (bytes : List ℕ) → is_empty_text bytes ≡ true → is_empty_text (chars bytes) ≡ true
of_bytes bytes e = ap is_empty_text (chars-IsAscii bytes (empty_is_ascii bytes e)) ∙ e

both_ways : (a b : Bool) → (a ≡ true → b ≡ true) → (b ≡ true → a ≡ true) → a ≡ b
both_ways true b h k = sym (h refl)
both_ways false true h k = k refl
both_ways false false h k = refl

pub empty_bytes : (form : TextForm) (bytes : List ℕ) → IsUtf8 bytes → is_empty_in form (chars bytes) ≡ is_empty_in form bytes
empty_bytes Array bytes u = refl
empty_bytes Range bytes u = both_ways (is_empty_text (chars bytes)) (is_empty_text bytes) (of_chars bytes u) (of_bytes bytes)
empty_bytes Record bytes u = refl

-- ---- it is none of bounds

no_bracket : (c : ℕ) (a b : Bool) → (c == 40) ≡ a → (c == 91) ≡ b → (a || b) ≡ true → to_ascii_lowercase c ≡ 101 → ⊥
no_bracket c true b e f h l =
    let k : 40 ≡ 101 = ap to_ascii_lowercase (sym (eqb-true c 40 e)) ∙ l in
    omega (arith, k)
no_bracket c false true e f h l =
    let k : 91 ≡ 101 = ap to_ascii_lowercase (sym (eqb-true c 91 f)) ∙ l in
    omega (arith, k)
no_bracket c false false e f h l = absurd (false≢true h)

not_bounds : (text : List ℕ) (bounds : Nest) → IsEmptyText text → IsNestText range_form text bounds → ⊥
not_bounds text bounds e n =
    let lowered = sym (ap str_to_ascii_lowercase n.whole) ∙ e in
    no_bracket n.opening (n.opening == 40) (n.opening == 91) refl refl n.opens (cc)

-- ---- range texts

parts_are : (o : Option Nest) (content : RangeContent) → option_map parts o ≡ Some content → (bounds : Nest) × (o ≡ Some bounds) × (parts bounds ≡ content)
parts_are None content e = absurd cc
parts_are (Some bounds) content e = (bounds, refl, same_Some (parts bounds) content e)

range_found : (text : List ℕ) (content : RangeContent) (b : Bool) → is_empty_text text ≡ b → (if b then Some empty else option_map parts (nest_of range_form text)) ≡ Some content → IsRangeOf text content
range_found text content true b e = subst (IsRangeOf text) (same_Some empty content e) ((is_decided text).0 b)
range_found text content false b e =
    let p = parts_are (nest_of range_form text) content e in
    subst (IsRangeOf text) p.2 (nest_sound Range text p.0 p.1)

range_there : (text : List ℕ) (content : RangeContent) → IsRangeOf text content → range_content text ≡ Some content
range_there text empty h = rw ((is_decided text).1 h) refl
range_there text (parts bounds) h =
    let b : is_empty_text text ≡ false = false_from_ne_true (is_empty_text text) (λ e. not_bounds text bounds ((is_decided text).0 e) h) in
    rw (b, nest_complete Range text bounds h) refl

pub range_is : (text : List ℕ) (content : RangeContent) → (range_content text ≡ Some content) ↔ IsRangeOf text content
range_is text content = (range_found text content (is_empty_text text) refl, range_there text content)

pub one_range : (text : List ℕ) (content other : RangeContent) → IsRangeOf text content → IsRangeOf text other → content ≡ other
one_range text content other h k = same_Some content other (sym (range_there text content h) ∙ range_there text other k)

-- ---- texts of any form

-- a range that isn't empty has two bounds
two_bounds : (text : List ℕ) (nest : Nest) → IsNestText range_form text nest → length nest.values ≡ 2
two_bounds text nest n = as_many _ n.parts nest.values n.values ∙ n.counted

pub two_bounds_of : (text : List ℕ) (p : Parts) → range_content text ≡ Some (content Range p) → is_of_empty p ≡ false → length (nest p).values ≡ 2
two_bounds_of text p e f = let some : range_content text ≡ Some (parts (nest p)) = rw f at e in two_bounds text (nest p) ((range_is text (parts (nest p))).0 some)

-- of the empty range, where they are none
empty_denoted : (form : TextForm) (text : List ℕ) (p : Parts) → is_empty_in form text ≡ true → is_of_empty p ≡ true → content_of form text ≡ Some (content form p)
empty_denoted Array text p e h = absurd (false≢true e)
empty_denoted Range text p e h = rw (e, h) refl
empty_denoted Record text p e h = absurd (false≢true e)

pub empty_parts : (form : TextForm) (text : List ℕ) (p : Parts) → IsUtf8 text → is_empty_in form text ≡ true → is_of_empty p ≡ true → nest p ≡ no_parts → ArePartsOf form text p
empty_parts form text p u e h n = record {
  denoted = empty_denoted form (chars text) p (empty_bytes form text u ∙ e) h;
  of_empty = h ∙ sym e;
  nothing = λ _. n;
  copied = λ f. absurd (false≢true (sym f ∙ h));
}

-- of a nest
nest_denoted : (form : TextForm) (text : List ℕ) (p : Parts) → is_empty_in form text ≡ false → is_of_empty p ≡ false → nest_of (form_of form) text ≡ Some (nest p) → content_of form text ≡ Some (content form p)
nest_denoted Array text p e h n = n
nest_denoted Range text p e h n = rw (e, h, n) refl
nest_denoted Record text p e h n = n

none_denoted : (form : TextForm) (text : List ℕ) → is_empty_in form text ≡ false → nest_of (form_of form) text ≡ None → content_of form text ≡ None
none_denoted Array text e n = n
none_denoted Range text e n = rw (e, n) refl
none_denoted Record text e n = n

pub nest_parts : (form : TextForm) (text : List ℕ) → IsUtf8 text → is_empty_in form text ≡ false →
    (o : Option Parts) → MatchOption o (nest_read (form_of form) text ≡ None) (AreBounded form text) → MatchOption o (content_of form (chars text) ≡ None) (ArePartsOf form text)
nest_parts form text u e None h = none_denoted form (chars text) (empty_bytes form text u ∙ e) (sym (nest_bytes form text u) ∙ h)
nest_parts form text u e (Some p) h = record {
  denoted = nest_denoted form (chars text) p (empty_bytes form text u ∙ e) h.bounded (sym (nest_bytes form text u) ∙ h.found);
  of_empty = h.bounded ∙ sym e;
  nothing = λ f. absurd (false≢true (sym h.bounded ∙ f));
  copied = λ _. h.copied;
}
