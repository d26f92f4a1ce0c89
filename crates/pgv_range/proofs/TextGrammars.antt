-- What is read from a range in text is what its characters are.
use Rattle.std.proofs.Common.{arith, ◌≡◌, ℕ, Bool, true, false, List, [], ◌∷◌, drop, length, Some, None, Ok, refl, sym, ◌∙◌, ap, subst}
use Rattle.std.specs.Prelude.{ok_or}
use Rattle.std.specs.Str.{chars}
use Rattle.std.specs.declared.ops.Bound.{Bound}
use Rattle.std.specs.declared.ops.Bound.TheVariants.{Included, Excluded, Unbounded}
use Rattle.pgv_types.specs.Ty.{Ty}
use Rattle.pgv_text.specs.ContentText.{RangeContent, empty as empty_text, parts as parts_text, IsRangeOf, range_content}
use Rattle.pgv_text.specs.Copies.{copies_of}
use Rattle.pgv_text.specs.NestLaws.{RangeIsComputed}
use Rattle.pgv_text.specs.NestPieces.{Nest, IsNestText, IsPart, Pairwise, Piece}
use Rattle.pgv_text.specs.RangeText.{range_form}
use Rattle.pgv_text.specs.declared.scanner.TextForm.TheVariants.{Range}
use Rattle.pgv_value.specs.FrameBinary.{Part}
use Rattle.pgv_value.specs.Outcome.{Outcome, Reads, done}
use Rattle.pgv_value.specs.Text.{is_utf8}
use Rattle.pgv_value.specs.ValueView.{Given, given}
use Rattle.pgv_value.specs.declared.error.CodecError.TheVariants.{Syntax}
use Rattle.pgv_value.specs.declared.value.PgValueFormat.TheVariants.{Text}
use Rattle.pgv_value.proofs.Outcomes.{answer_is, answers_are, taken, taken_exactly, found_or}
use Rattle.pgv_codec.specs.NestText.{TextIs}
use Rattle.pgv_codec.specs.NestTextLemmas.{whole_text}
use Rattle.pgv_range.specs.RangeOf.{RangeOf, empty, bounds}
use Rattle.pgv_range.specs.RangeInText.{IsValue, IsTextBound, IsRangeInText, OneRangeInText}
use Rattle.pgv_range.specs.RangeGrammar.{side_in_text, bound_in_text, next_bound, bounds_in_text, content_in_text, range_in_text, parse_range}

-- two parts have two values
two_values : (R : List Piece → Part → Type 0) (parts : List (List Piece)) (values : List Part) → length parts ≡ 2 → Pairwise R parts values → (lower : Part) × (upper : Part) × (values ≡ lower ∷ upper ∷ [])
two_values R [] values n h = absurd cc
two_values R (p ∷ []) values n h = absurd cc
two_values R (p ∷ q ∷ r ∷ parts) values n h = absurd (omega arith)
two_values R (p ∷ q ∷ []) [] n h = absurd h
two_values R (p ∷ q ∷ []) (v ∷ []) n h = absurd h.1
two_values R (p ∷ q ∷ []) (v ∷ w ∷ []) n h = (v, w, refl)
two_values R (p ∷ q ∷ []) (v ∷ w ∷ x ∷ values) n h = absurd h.1.1

module _ {M : Type 0} (parse : Given → Outcome M) (t : Ty) where
  -- ---- a bound

  side_is : (included : Bool) (part : Part) (m : M) → IsValue parse t part m → IsTextBound parse t included part (side_in_text included m)
  side_is true part m h = (refl, h)
  side_is false part m h = (refl, h)

  bound_is : (included : Bool) (part : Part) (b : Bound M) → (bound_in_text parse t included part).answer ≡ Ok b → IsTextBound parse t included part b
  bound_is included None b e = subst (λ (w : Bound M). IsTextBound parse t included None w) (answer_is {A = Bound M} Unbounded b e) refl
  bound_is included (Some text) b e =
      let v = taken (parse (given t Text (Some text))) (λ (x : M). done (side_in_text included x)) b e in
      subst (λ (w : Bound M). IsTextBound parse t included (Some text) w) (answer_is (side_in_text included v.0) b v.2) (side_is included (Some text) v.0 (text, refl, v.1))

  bound_there : (included : Bool) (part : Part) (b : Bound M) → IsTextBound parse t included part b → (bound_in_text parse t included part).answer ≡ Ok b
  bound_there included part Unbounded h = rw h refl
  bound_there included part (Included m) h =
      let v : Reads parse (given t Text (Some h.1.0)) m = subst (λ (p : Part). Reads parse (given t Text p) m) h.1.1 h.1.2 in
      rw (h.0, h.1.1, v) refl
  bound_there included part (Excluded m) h =
      let v : Reads parse (given t Text (Some h.1.0)) m = subst (λ (p : Part). Reads parse (given t Text p) m) h.1.1 h.1.2 in
      rw (h.0, h.1.1, v) refl

  next_is : (included : Bool) (copied : List Bool) (part : Part) (parts rest : List Part) (b : Bound M) → (next_bound parse t included copied (part ∷ parts)).answer ≡ Ok (b, rest) → IsTextBound parse t included part b × (parts ≡ rest)
  next_is included copied part parts rest b e =
      let v = taken (bound_in_text parse t included part) (λ (w : Bound M). done (w, parts)) (b, rest) e in
      let k = answers_are v.0 b parts rest v.2 in
      (subst (λ (w : Bound M). IsTextBound parse t included part w) k.0 (bound_is included part v.0 v.1), k.1)

  next_there : (included : Bool) (copied : List Bool) (part : Part) (parts : List Part) (b : Bound M) → IsTextBound parse t included part b → (next_bound parse t included copied (part ∷ parts)).answer ≡ Ok (b, parts)
  next_there included copied part parts b h = rw (bound_there included part b h) refl

-- ---- a range text is UTF-8

is_text : {M : Type 0} (parse : Given → Outcome M) (t : Ty) (bytes : List ℕ) (m : RangeOf M) → IsRangeInText parse t bytes m → is_utf8 bytes ≡ true
is_text parse t bytes empty h = h.0
is_text parse t bytes (bounds below above) h = h.utf8

-- ---- both bounds

module _ (law : RangeIsComputed) {M : Type 0} (parse : Given → Outcome M) (t : Ty) where
  -- of the parts of a range text
  of_parts : (bytes : List ℕ) (m : RangeOf M) (copied : List Bool) (nest : Nest) (lower upper : Part) → is_utf8 bytes ≡ true → IsNestText range_form (chars bytes) nest → nest.values ≡ lower ∷ upper ∷ [] →
      (bounds_in_text parse t copied nest).answer ≡ Ok m → IsRangeInText parse t bytes m
  unfolding bounds_in_text
  of_parts bytes m copied nest lower upper u whole two e =
      let start = taken (next_bound parse t nest.lower copied nest.values) _ m e in
      let end = taken (next_bound parse t nest.upper (drop 1 copied) start.0.1) _ m start.2 in
      let first : (next_bound parse t nest.lower copied (lower ∷ upper ∷ [])).answer ≡ Ok (start.0.0, start.0.1) = ap (λ (vs : List Part). (next_bound parse t nest.lower copied vs).answer) (sym two) ∙ start.1 in
      let below = next_is parse t nest.lower copied lower (upper ∷ []) start.0.1 start.0.0 first in
      let second : (next_bound parse t nest.upper (drop 1 copied) (upper ∷ [])).answer ≡ Ok (end.0.0, end.0.1) = ap (λ (vs : List Part). (next_bound parse t nest.upper (drop 1 copied) vs).answer) below.1 ∙ end.1 in
      let above = next_is parse t nest.upper (drop 1 copied) upper [] end.0.1 end.0.0 second in
      subst (λ (r : RangeOf M). IsRangeInText parse t bytes r) (answer_is (bounds start.0.0 end.0.0) m end.2)
      (record {
        lower = lower;
        upper = upper;
        lower_included = nest.lower;
        upper_included = nest.upper;
        utf8 = u;
        whole = subst (λ (vs : List Part). IsNestText range_form (chars bytes) (record { values = vs; lower = nest.lower; upper = nest.upper })) two whole;
        start = below.0;
        end = above.0;
      })

  -- of what a range text is of
  of_content : (bytes : List ℕ) (m : RangeOf M) (content : RangeContent) → is_utf8 bytes ≡ true → IsRangeOf (chars bytes) content → (content_in_text parse t bytes content).answer ≡ Ok m → IsRangeInText parse t bytes m
  of_content bytes m empty_text u whole e = subst (λ (r : RangeOf M). IsRangeInText parse t bytes r) (answer_is {A = RangeOf M} empty m e) (u, whole)
  of_content bytes m (parts_text nest) u whole e =
      let two = two_values (IsPart range_form) whole.parts nest.values whole.counted whole.values in
      of_parts bytes m (copies_of Range bytes) nest two.0 two.1 u whole two.2 e

  text_is : (bytes : List ℕ) (m : RangeOf M) → is_utf8 bytes ≡ true → (range_in_text parse t bytes).answer ≡ Ok m → IsRangeInText parse t bytes m
  unfolding range_in_text
  text_is bytes m u e =
      let n = taken_exactly (ok_or (range_content (chars bytes)) Syntax) _ m e in
      of_content bytes m n.0 u ((law (chars bytes) n.0).0 (found_or (range_content (chars bytes)) Syntax n.0 n.1)) n.2

  text_there : (bytes : List ℕ) (m : RangeOf M) → IsRangeInText parse t bytes m → (range_in_text parse t bytes).answer ≡ Ok m
  unfolding range_in_text bounds_in_text
  text_there bytes empty h = rw ((law (chars bytes) empty_text).1 h.1) refl
  text_there bytes (bounds below above) h =
      let nest : Nest = record { values = h.lower ∷ h.upper ∷ []; lower = h.lower_included; upper = h.upper_included } in
      let copied = copies_of Range bytes in
      let found : range_content (chars bytes) ≡ Some (parts_text nest) = (law (chars bytes) (parts_text nest)).1 h.whole in
      rw (found, next_there parse t h.lower_included copied h.lower (h.upper ∷ []) below h.start, next_there parse t h.upper_included (drop 1 copied) h.upper [] above h.end) refl

  pub one_range_text : OneRangeInText parse t
  one_range_text bytes m other h k = answer_is m other (sym (text_there bytes m h) ∙ text_there bytes other k)

-- whatever the type of the value
module _ (law : RangeIsComputed) {M : Type 0} (info : Ty) (parse : Given → Outcome M) where
  pub range_text : TextIs (parse_range info parse) (IsRangeInText parse info)
  unfolding TextIs
  range_text t bytes m = (
    λ e.
        let u = whole_text (is_utf8 bytes) (range_in_text parse info bytes) m e in
        text_is law parse info bytes m u.0 u.1,
    λ h. rw (is_text parse info bytes m h, text_there law parse info bytes m h) refl,
  )
