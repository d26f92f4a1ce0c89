-- Where reading a bound never asks for memory, reading a range asks only for copies.
use Rattle.std.proofs.Common.{◌≡◌, ℕ, Bool, true, false, List, [], ◌∷◌, drop, Some, None, refl}
use Rattle.std.specs.Prelude.{if◌then◌else◌}
use Rattle.std.proofs.lemmas.Bool.{false≢true}
use Rattle.std.specs.Str.{chars}
use Rattle.pgv_types.specs.Ty.{Ty}
use Rattle.pgv_types.specs.Facts.{is_custom}
use Rattle.pgv_text.specs.ContentText.{RangeContent, empty, parts, range_content}
use Rattle.pgv_text.specs.Copies.{copies_of, first_copied, none_copied}
use Rattle.pgv_text.specs.declared.scanner.TextForm.TheVariants.{Range}
use Rattle.pgv_value.specs.FrameBinary.{Part}
use Rattle.pgv_value.specs.Fronts.{one_part}
use Rattle.pgv_value.specs.Outcome.{Outcome, done, fails, or_fail}
use Rattle.pgv_value.specs.Text.{is_utf8}
use Rattle.pgv_value.specs.ValueView.{Given, given}
use Rattle.pgv_value.specs.declared.error.CodecError.TheVariants.{Syntax, Utf8}
use Rattle.pgv_value.specs.declared.value.PgValueFormat.TheVariants.{Text, Binary}
use Rattle.pgv_value.proofs.Outcomes.{free_then}
use Rattle.pgv_range.specs.FlagByte.{form_of_flags}
use Rattle.pgv_range.specs.RangeBinary.{IsRangeOver}
use Rattle.pgv_range.specs.RangeGrammar.{bound_in, bounds_in, bound_in_text, bounds_in_text, content_in_text, next_bound, range_by, range_bytes, range_in_text, parse_range, side_in_text, bound_in_front}
use Rattle.pgv_range.specs.RangeLaws.{TakesOnlyForCopies}
use Rattle.pgv_range.specs.declared.flags.Side.{Side}
use Rattle.pgv_range.specs.declared.flags.Side.TheVariants.{Infinite, Inclusive, Exclusive}
use Rattle.pgv_range.specs.declared.flags.RangeForm.{RangeForm}
use Rattle.pgv_range.specs.declared.flags.RangeForm.TheVariants.{Empty as EmptyForm, Sides}

-- where no part is copied, the first isn't, and none after it
first_plain : (copied : List Bool) → none_copied copied ≡ true → first_copied copied ≡ false
first_plain [] plain = refl
first_plain (true ∷ later) plain = absurd (false≢true plain)
first_plain (false ∷ later) plain = refl

later_plain : (copied : List Bool) → none_copied copied ≡ true → none_copied (drop 1 copied) ≡ true
later_plain [] plain = refl
later_plain (true ∷ later) plain = absurd (false≢true plain)
later_plain (false ∷ later) plain = plain

whole_free : {A : Type 0} (b : Bool) (o : Outcome A) → o.may_alloc ≡ false → (if b then o else fails Utf8).may_alloc ≡ false
whole_free true o free = free
whole_free false o free = refl

module _ {M : Type 0} (parse : Given → Outcome M) (none : (v : Given) → (parse v).may_alloc ≡ false) where
  module _ (u : Ty) (own : is_custom u ≡ false) where
    value_free : (bytes : List ℕ) → (bound_in_front parse u bytes).may_alloc ≡ false
    value_free bytes =
        free_then (one_part bytes) _ refl λ part.
        rw own (free_then (parse (given u Binary part.0)) (λ (m : M). done (m, part.1)) (none (given u Binary part.0)) (λ m. refl))

    bound_free : (side : Side) (bytes : List ℕ) → (bound_in parse u side bytes).may_alloc ≡ false
    bound_free Infinite bytes = refl
    bound_free Inclusive bytes = free_then (bound_in_front parse u bytes) _ (value_free bytes) (λ v. refl)
    bound_free Exclusive bytes = free_then (bound_in_front parse u bytes) _ (value_free bytes) (λ v. refl)

    form_free : (form : RangeForm) (bytes : List ℕ) → (range_by parse u form bytes).may_alloc ≡ false
    unfolding bounds_in
    form_free EmptyForm bytes = refl
    form_free (Sides below above) bytes =
        free_then (bound_in parse u below bytes) _ (bound_free below bytes) λ lower.
        free_then (bound_in parse u above lower.1) _ (bound_free above lower.1) (λ upper. refl)

    bytes_free : (bytes : List ℕ) → (range_bytes parse u bytes).may_alloc ≡ false
    bytes_free [] = refl
    bytes_free (flags ∷ rest) = form_free (form_of_flags flags) rest

  module _ (info : Ty) where
    text_bound_free : (included : Bool) (part : Part) → (bound_in_text parse info included part).may_alloc ≡ false
    text_bound_free included None = refl
    text_bound_free included (Some text) = free_then (parse (given info Text (Some text))) (λ (m : M). done (side_in_text included m)) (none (given info Text (Some text))) (λ m. refl)

    next_free : (included : Bool) (copied : List Bool) (values : List Part) → none_copied copied ≡ true → (next_bound parse info included copied values).may_alloc ≡ false
    next_free included copied [] plain = refl
    next_free included copied (part ∷ values) plain =
        rw (first_plain copied plain) (free_then (bound_in_text parse info included part) _ (text_bound_free included part) (λ b. refl))

    content_free : (text : List ℕ) (content : RangeContent) → none_copied (copies_of Range text) ≡ true → (content_in_text parse info text content).may_alloc ≡ false
    unfolding bounds_in_text
    content_free text empty plain = refl
    content_free text (parts nest) plain =
        free_then (next_bound parse info nest.lower (copies_of Range text) nest.values) _ (next_free nest.lower (copies_of Range text) nest.values plain) λ lower.
        free_then (next_bound parse info nest.upper (drop 1 (copies_of Range text)) lower.1) _ (next_free nest.upper (drop 1 (copies_of Range text)) lower.1 (later_plain (copies_of Range text) plain)) (λ upper. refl)

    text_free : (text : List ℕ) → none_copied (copies_of Range text) ≡ true → (range_in_text parse info text).may_alloc ≡ false
    unfolding range_in_text
    text_free text plain = free_then (or_fail (range_content (chars text)) Syntax) _ refl (λ content. content_free text content plain)

    binary_free : (t u : Ty) (bytes : Part) → IsRangeOver t u → is_custom u ≡ false → (parse_range info parse (given t Binary bytes)).may_alloc ≡ false
    binary_free t u None over own = refl
    binary_free t u (Some bytes) over own = rw over (bytes_free u own bytes)

    pub takes_only_for_copies : TakesOnlyForCopies (parse_range info parse)
    unfolding TakesOnlyForCopies
    takes_only_for_copies = (binary_free, λ t text plain. whole_free (is_utf8 text) (range_in_text parse info text) (text_free text plain))
