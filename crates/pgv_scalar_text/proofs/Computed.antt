-- A text is a value exactly where that value is computed of it, from what a reader of its front does.
use Rattle.std.proofs.Common.{◌≡◌, ℕ, List, [], ◌++◌, Option, Some, sym, ap, ◌∙◌, subst, append-nil}
use Rattle.std.proofs.lemmas.Option.{same_Some}
use Rattle.jiff_core.specs.Date.{epoch_day}
use Rattle.jiff_core.specs.Time.{time_nanos}
use Rattle.jiff_zoned.proofs.SameLemmas.{same_date, same_time}
use Rattle.pgv_scalar_text.specs.FieldText.{Front, whole}
use Rattle.pgv_scalar_text.specs.DateTimeText.{IsComputedAs, IsOne, IsDateText, IsTimeText, date_front, time_front, date_value, time_value, DateIsItsValue, TimeIsItsValue, OneDate, OneTime}
use Rattle.pgv_scalar_text.proofs.DigitFields.{found, whole_some}
use Rattle.pgv_scalar_text.proofs.Fractions.{nothing_stops}
use Rattle.pgv_scalar_text.proofs.Clocks.{date_read, date_is, time_read, time_is}

module _ {A B : Type 0} (Is : List ℕ → A → Type 0) (view : A → B) (same : (a b : A) → view a ≡ view b → a ≡ b) where
  pub computed_by : (value : List ℕ → Option B) → ((text : List ℕ) (b : B) → value text ≡ Some b → (a : A) × Is text a × (view a ≡ b)) → ((a : A) (text : List ℕ) → Is text a → value text ≡ Some (view a)) → IsComputedAs Is view value
  computed_by value sound complete = (
    λ text a. (
      λ e. let (b, is, equal) = sound text (view a) e in subst (Is text) (same b a equal) is,
      λ is. complete a text is,
    ),
    λ text b e. let (a, is, equal) = sound text b e in (a, equal),
  )

  pub computed_whole : (read : List ℕ → Front B) → ((text rest : List ℕ) (b : B) → read text ≡ found b rest → (front : List ℕ) × (a : A) × (text ≡ front ++ rest) × Is front a × (view a ≡ b)) →
      ((a : A) (text : List ℕ) → Is text a → read (text ++ []) ≡ found (view a) []) → IsComputedAs Is view (λ text. whole (read text))
  computed_whole read sound complete =
      computed_by (λ text. whole (read text))
      (λ text b e. let (front, a, split, is, equal) = sound text [] b (whole_some (read text) b e) in (a, subst (λ t. Is t a) (sym (split ∙ append-nil front)) is, equal))
      (λ a text is. ap (λ t. whole (read t)) (sym (append-nil text)) ∙ ap whole (complete a text is))

  pub one_by : (value : List ℕ → Option B) → IsComputedAs Is view value → IsOne Is
  one_by value law text a b is_a is_b = same a b (same_Some (view a) (view b) (sym ((law.0 text a).1 is_a) ∙ (law.0 text b).1 is_b))

pub date_is_its_value : DateIsItsValue
date_is_its_value = computed_whole IsDateText epoch_day same_date date_front date_is (λ date text is. date_read date text [] is)

pub time_is_its_value : TimeIsItsValue
time_is_its_value = computed_whole IsTimeText time_nanos same_time time_front time_is (λ time text is. time_read time text [] is nothing_stops)

pub one_date : OneDate
unfolding OneDate
one_date = one_by IsDateText epoch_day same_date date_value date_is_its_value

pub one_time : OneTime
unfolding OneTime
one_time = one_by IsTimeText time_nanos same_time time_value time_is_its_value
