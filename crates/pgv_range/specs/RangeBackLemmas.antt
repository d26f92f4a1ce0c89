-- Ranges read back: the law of ranges over the law of their bounds.
use Rattle.std.specs.Prelude.{◌≡◌, List, [], ◌∷◌, ◌++◌, take, drop, Option, Ok, refl}
use Rattle.std.proofs.Common.{sym, ap, ◌∙◌, subst, append-nil}
use Rattle.std.proofs.lemmas.Option.{same_Some}
use Rattle.std.specs.Range.Bound.{bound_map}
use Rattle.std.specs.declared.ops.Bound.{Bound}
use Rattle.std.specs.declared.ops.Bound.TheVariants.{Included, Excluded, Unbounded}
use Rattle.pgv_types.specs.Ty.{Ty}
use Rattle.pgv_types.specs.declared.oid.Oid.{Oid}
use Rattle.pgv_buf.specs.Tokens.{Token, byte}
use Rattle.pgv_value.proofs.Fronts.{frame_in_front}
use Rattle.pgv_value.specs.Outcome.{Outcome, ok_of, reading_of, done, ◌>>=◌}
use Rattle.pgv_value.proofs.Outcomes.{answer_is, answer_of, taken}
use Rattle.pgv_value.specs.ValueView.{Given, given}
use Rattle.pgv_value.specs.declared.value.PgValueFormat.TheVariants.{Binary}
use Rattle.pgv_codec.specs.Back.{AreOids, SlotsFit, ImageFits, ReadsBack, holes_of}
use Rattle.pgv_codec.specs.PartBackLemmas.{SlotsFit-front, SlotsFit-back, AreOids-drop, frame_back}
use Rattle.pgv_codec.specs.Encoding.{Encoding, Image, image_of, frame, plainly}
use Rattle.pgv_codec.specs.Writing.{write, written_part}
use Rattle.pgv_range.specs.RangeOf.{empty, bounds, range_view}
use Rattle.pgv_range.specs.FlagByte.{lower_flag, upper_flag, flags_of, form_of_flags}
use Rattle.pgv_range.specs.RangeImage.{bound_frame, bounds_image, range_image}
use Rattle.pgv_range.specs.RangeGrammar.{bound_in_front, bound_in, bounds_in, parse_range}
use Rattle.pgv_range.specs.RangeBinary.{IsRangeOver}
use Rattle.pgv_range.specs.RangeFits.{bound_holes, BoundFits, RangeFits, range_kept}
use Rattle.pgv_range.specs.declared.flags.Side.{Side}
use Rattle.pgv_range.specs.declared.flags.Side.TheVariants.{Infinite, Inclusive, Exclusive}
use Rattle.pgv_range.specs.declared.flags.RangeForm.TheVariants.{Sides}
use Rattle.pgv_range.specs.declared.range.PgRange.{PgRange}
use Rattle.pgv_range.specs.declared.range.PgRange.TheVariants.{Empty, Bounds}

-- ---- the flag byte says what the bounds are

abbrev side_of_bound : {X : Type 0} → Bound X → Side
side_of_bound (Included x) = Inclusive
side_of_bound (Excluded x) = Exclusive
side_of_bound Unbounded = Infinite

flags_back : {X Y : Type 0} (view : X → Y) (lower upper : Bound X) → form_of_flags (flags_of (bound_map view lower) (bound_map view upper)) ≡ Sides (side_of_bound lower) (side_of_bound upper)
flags_back view (Included x) (Included y) = refl
flags_back view (Included x) (Excluded y) = refl
flags_back view (Included x) Unbounded = refl
flags_back view (Excluded x) (Included y) = refl
flags_back view (Excluded x) (Excluded y) = refl
flags_back view (Excluded x) Unbounded = refl
flags_back view Unbounded (Included y) = refl
flags_back view Unbounded (Excluded y) = refl
flags_back view Unbounded Unbounded = refl

-- and says so whatever the values are
lower_same : {X Y : Type 0} (view : X → Y) (b : Bound X) → lower_flag (bound_map view b) ≡ lower_flag b
lower_same view (Included x) = refl
lower_same view (Excluded x) = refl
lower_same view Unbounded = refl

upper_same : {X Y : Type 0} (view : X → Y) (b : Bound X) → upper_flag (bound_map view b) ≡ upper_flag b
upper_same view (Included x) = refl
upper_same view (Excluded x) = refl
upper_same view Unbounded = refl

pub flags_same : {X Y : Type 0} (view : X → Y) (lower upper : Bound X) → flags_of (bound_map view lower) (bound_map view upper) ≡ flags_of lower upper
flags_same view lower upper = rw (lower_same view lower, upper_same view upper) refl

-- ---- what is there is made of parts

range_parts : (lower upper : Bound Encoding) (i : Image) → (bounds_image lower upper).answer ≡ Ok i →
    (below : List Token) × (above : List Token) × ((bound_frame lower).answer ≡ Ok below) × ((bound_frame upper).answer ≡ Ok above) × (image_of (byte (flags_of lower upper) ∷ (below ++ above)) ≡ i)
unfolding bounds_image
range_parts lower upper i e =
    let a = taken (bound_frame lower) (λ below. bound_frame upper >>= λ above. done (image_of (byte (flags_of lower upper) ∷ (below ++ above)))) i e in
    let b = taken (bound_frame upper) (λ above. done (image_of (byte (flags_of lower upper) ∷ (a.0 ++ above)))) i a.2 in
    (a.0, b.0, a.1, b.1, answer_is _ i b.2)

-- ---- the bounds

module _ {A M : Type 0} (encoding : A → Encoding) (parse : Given → Outcome M) (kept : A → M) (fits : A → Ty → List Oid → Type 0) (law : ReadsBack encoding (reading_of parse) kept fits) where
  -- the value of a bound, with anything after its frame
  value_back : (x : A) (f after : List Token) (u : Ty) (p : Option Ty) (os : List Oid) → (frame (encoding x)).answer ≡ Ok f → SlotsFit f → AreOids os → fits x u (take (holes_of (encoding x)) os) →
      (bound_in_front parse u (write p os (f ++ after))).answer ≡ Ok (kept x, write p (drop (holes_of (encoding x)) os) after)
  value_back x f after u p os e whole small fit =
      let b = frame_back encoding parse kept fits law x f after u p os e whole small fit in
      rw (frame_in_front (write p os (f ++ after)) b.0 (write p (drop (holes_of (encoding x)) os) after) b.1, b.2) refl

  bound_back : (b : Bound A) (f after : List Token) (u : Ty) (p : Option Ty) (os : List Oid) → (bound_frame (bound_map encoding b)).answer ≡ Ok f → SlotsFit f → AreOids os → BoundFits fits u b (take (bound_holes encoding b) os) →
      (bound_in parse u (side_of_bound b) (write p os (f ++ after))).answer ≡ Ok (bound_map kept b, write p (drop (bound_holes encoding b) os) after)
  bound_back (Included x) f after u p os e whole small fit = rw (value_back x f after u p os e whole small fit) refl
  bound_back (Excluded x) f after u p os e whole small fit = rw (value_back x f after u p os e whole small fit) refl
  bound_back Unbounded f after u p os e whole small fit =
      let none : [] ≡ f = answer_is [] f e in
      rw (← none) refl

  -- both bounds, after their flag byte
  pub bounds_back : (info : Ty) (lower upper : Bound A) (i : Image) (t : Ty) (p : Option Ty) (os : List Oid) → (bounds_image (bound_map encoding lower) (bound_map encoding upper)).answer ≡ Ok i → ImageFits i → AreOids os → RangeFits encoding fits (Bounds lower upper) t os →
      (parse_range info parse (given t Binary (written_part i p os))).answer ≡ Ok (bounds (bound_map kept lower) (bound_map kept upper))
  unfolding bounds_in
  bounds_back info lower upper i t p os e whole small fit =
      let b = range_parts (bound_map encoding lower) (bound_map encoding upper) i e in
      let tokens_fit : SlotsFit (b.0 ++ b.1) = subst ImageFits (sym b.4) whole in
      let rest : List Oid = drop (bound_holes encoding lower) os in
      let below = bound_back lower b.0 b.1 fit.0 p os b.2 (SlotsFit-front b.0 b.1 tokens_fit) small fit.2.0 in
      let above = bound_back upper b.1 [] fit.0 p rest b.3 (SlotsFit-back b.0 b.1 tokens_fit) (AreOids-drop (bound_holes encoding lower) os small) fit.2.1 in
      let above_alone : (bound_in parse fit.0 (side_of_bound upper) (write p rest b.1)).answer ≡ Ok (bound_map kept upper, [])
      = subst (λ (ts : List Token). (bound_in parse fit.0 (side_of_bound upper) (write p rest ts)).answer ≡ Ok (bound_map kept upper, [])) (append-nil b.1) above in
      rw (← b.4, fit.1, flags_back encoding lower upper, below, above_alone) refl

-- ---- the empty range

empty_back : {M : Type 0} (info : Ty) (parse : Given → Outcome M) (i : Image) (t : Ty) (p : Option Ty) (os : List Oid) → image_of (byte 1 ∷ []) ≡ i → (u : Ty) → IsRangeOver t u →
    (parse_range info parse (given t Binary (written_part i p os))).answer ≡ Ok empty
empty_back info parse i t p os e u over = rw (← e, over) refl

-- ---- ranges

bound_both : {X Y W : Type 0} (f : Y → W) (g : X → Y) (b : Bound X) → bound_map (λ x. f (g x)) b ≡ bound_map f (bound_map g b)
bound_both f g (Included x) = refl
bound_both f g (Excluded x) = refl
bound_both f g Unbounded = refl

module _ {A M : Type 0} (info : Ty) (encoding : A → Encoding) (parse : Given → Outcome M) (view : A → M) (kept : A → A) (fits : A → Ty → List Oid → Type 0)
    (law : ReadsBack encoding (reading_of parse) (λ v. view (kept v)) fits) where
  pub range_back : ReadsBack {A = PgRange A} (λ r. plainly (range_image (range_view encoding r))) (reading_of (parse_range info parse)) (λ r. range_view view (range_kept kept r)) (RangeFits encoding fits)
  range_back Empty i t p os e whole small fit = ap ok_of (empty_back info parse i t p os (same_Some _ i e) fit.0 fit.1)
  range_back (Bounds lower upper) i t p os e whole small fit =
      ap ok_of (bounds_back encoding parse (λ x. view (kept x)) fits law info lower upper i t p os (answer_of _ i e) whole small fit)
      ∙ rw (bound_both view kept lower, bound_both view kept upper) refl
