-- What is read from a range in binary is what its bytes are.
use Rattle.std.proofs.Common.{◌≡◌, ℕ, Bool, true, false, cond, List, [], ◌∷◌, Option, Some, None, Result, Ok, refl, sym, ◌∙◌, ap, subst}
use Rattle.std.specs.Prelude.{ok_or}
use Rattle.std.specs.declared.ops.Bound.{Bound}
use Rattle.std.specs.declared.ops.Bound.TheVariants.{Included, Excluded, Unbounded}
use Rattle.std.proofs.lemmas.Option.{same_Some}
use Rattle.pgv_types.specs.Ty.{Ty, Kind, simple, domain, composite, array, pseudo, enumeration, range as range_over}
use Rattle.pgv_types.specs.Facts.{kind_at}
use Rattle.pgv_value.specs.FrameBinary.{IsFrame, front, frame_fault}
use Rattle.pgv_value.specs.Fronts.{part_front}
use Rattle.pgv_value.specs.FrameLaws.{AreBytes}
use Rattle.pgv_value.specs.Outcome.{Outcome, done}
use Rattle.pgv_value.specs.ValueView.{Given, given}
use Rattle.pgv_value.specs.declared.error.CodecError.{CodecError}
use Rattle.pgv_value.specs.declared.error.CodecError.TheVariants.{NotARange}
use Rattle.pgv_value.specs.declared.value.PgValueFormat.TheVariants.{Binary}
use Rattle.pgv_value.proofs.Fronts.{front_exactly, frame_in_front}
use Rattle.pgv_value.proofs.Numbers.{after_frame}
use Rattle.pgv_value.proofs.Outcomes.{answer_is, answers_are, taken, taken_exactly, found_or}
use Rattle.pgv_range.specs.RangeOf.{RangeOf, empty, bounds}
use Rattle.pgv_range.specs.FlagByte.{has, side_by, side_of}
use Rattle.pgv_range.specs.RangeBinary.{IsClear, BeginsWith, IsBound, IsRangeBytes, IsRange, RangeIsItsBounds, OneRange}
use Rattle.pgv_range.specs.RangeGrammar.{element_in_kind, bound_in_front, bound_in, bounds_in, range_by, range_bytes, range_in_binary, parse_range}
use Rattle.pgv_range.specs.declared.flags.RangeForm.TheVariants.{Empty, Sides}

over : (k : Option Kind) (u : Ty) → element_in_kind k ≡ Some u → k ≡ Some (range_over u)
over None u e = absurd cc
over (Some simple) u e = absurd cc
over (Some (domain t)) u e = absurd cc
over (Some (composite fs)) u e = absurd cc
over (Some (array t)) u e = absurd cc
over (Some pseudo) u e = absurd cc
over (Some (enumeration ls)) u e = absurd cc
over (Some (range_over t)) u e = ap (λ (x : Ty). let k : Option Kind = Some (range_over x) in k) (same_Some t u e)

module _ {M : Type 0} (parse : Given → Outcome M) (u : Ty) where
  -- ---- a value

  value_is : (bytes : List ℕ) (m : M) (rest : List ℕ) → AreBytes bytes → (bound_in_front parse u bytes).answer ≡ Ok (m, rest) → BeginsWith parse u m bytes rest × AreBytes rest
  value_is bytes m rest b e =
      let f = taken_exactly (part_front bytes) _ (m, rest) e in
      let v = taken (parse (given u Binary f.0.0)) (λ (x : M). done (x, f.0.1)) (m, rest) f.2 in
      let k = answers_are v.0 m f.0.1 rest v.2 in
      let frame = (front_exactly bytes f.0.0 f.0.1 b).0 (found_or (front bytes) (frame_fault bytes) f.0 f.1) in
      let same : IsFrame bytes f.0.0 rest = subst (λ (r : List ℕ). IsFrame bytes f.0.0 r) k.1 frame in
      ((f.0.0, same, v.1 ∙ ap (λ (x : M). let r : Result M (Option CodecError) = Ok x in r) k.0), subst AreBytes k.1 (after_frame bytes f.0.0 f.0.1 frame b))

  value_there : (bytes : List ℕ) (m : M) (rest : List ℕ) → BeginsWith parse u m bytes rest → (bound_in_front parse u bytes).answer ≡ Ok (m, rest)
  value_there bytes m rest h = rw (frame_in_front bytes h.0 rest h.1, h.2) refl

  -- ---- a bound

  bound_is : (flags infinite included : ℕ) (x y : Bool) (bytes : List ℕ) (b : Bound M) (rest : List ℕ) → has flags infinite ≡ x → has flags included ≡ y → AreBytes bytes → (bound_in parse u (side_by x y) bytes).answer ≡ Ok (b, rest) →
      IsBound parse u flags infinite included b bytes rest × AreBytes rest
  bound_is flags infinite included true y bytes b rest i c a e =
      let k = answers_are {A = Bound M} {B = List ℕ} Unbounded b bytes rest e in
      (subst (λ (w : Bound M). IsBound parse u flags infinite included w bytes rest) k.0 (i, k.1), subst AreBytes k.1 a)
  bound_is flags infinite included false true bytes b rest i c a e =
      let v = taken (bound_in_front parse u bytes) (λ (w : M × List ℕ). done (Included w.0, w.1)) (b, rest) e in
      let k = answers_are {A = Bound M} {B = List ℕ} (Included v.0.0) b v.0.1 rest v.2 in
      let w = value_is bytes v.0.0 v.0.1 a v.1 in
      (subst (λ (w : Bound M). IsBound parse u flags infinite included w bytes rest) k.0 (i, c, subst (λ (r : List ℕ). BeginsWith parse u v.0.0 bytes r) k.1 w.0), subst AreBytes k.1 w.1)
  bound_is flags infinite included false false bytes b rest i c a e =
      let v = taken (bound_in_front parse u bytes) (λ (w : M × List ℕ). done (Excluded w.0, w.1)) (b, rest) e in
      let k = answers_are {A = Bound M} {B = List ℕ} (Excluded v.0.0) b v.0.1 rest v.2 in
      let w = value_is bytes v.0.0 v.0.1 a v.1 in
      (subst (λ (w : Bound M). IsBound parse u flags infinite included w bytes rest) k.0 (i, c, subst (λ (r : List ℕ). BeginsWith parse u v.0.0 bytes r) k.1 w.0), subst AreBytes k.1 w.1)

  bound_there : (flags infinite included : ℕ) (bytes : List ℕ) (b : Bound M) (rest : List ℕ) → IsBound parse u flags infinite included b bytes rest → (bound_in parse u (side_of flags infinite included) bytes).answer ≡ Ok (b, rest)
  bound_there flags infinite included bytes Unbounded rest h = rw (h.0, h.1) refl
  bound_there flags infinite included bytes (Included m) rest h = rw (h.0, h.1, value_there bytes m rest h.2) refl
  bound_there flags infinite included bytes (Excluded m) rest h = rw (h.0, h.1, value_there bytes m rest h.2) refl

  -- ---- the bounds after a flag byte

  bounds_are : (flags : ℕ) (frames : List ℕ) (m : RangeOf M) → AreBytes frames → IsClear flags 1 → (bounds_in parse u (side_of flags 8 2) (side_of flags 16 4) frames).answer ≡ Ok m → IsRangeBytes parse u (flags ∷ frames) m
  unfolding bounds_in
  bounds_are flags frames m a clear e =
      let below = taken (bound_in parse u (side_of flags 8 2) frames) _ m e in
      let above = taken (bound_in parse u (side_of flags 16 4) below.0.1) _ m below.2 in
      let lower = bound_is flags 8 2 _ _ frames below.0.0 below.0.1 refl refl a below.1 in
      let upper = bound_is flags 16 4 _ _ below.0.1 above.0.0 above.0.1 refl refl lower.1 above.1 in
      subst (λ (r : RangeOf M). IsRangeBytes parse u (flags ∷ frames) r) (answer_is (bounds below.0.0 above.0.0) m above.2)
      (record { flags = flags; frames = frames; between = below.0.1; rest = above.0.1; whole = refl; not_empty = clear; below = lower.0; above = upper.0 })

  by_form : (flags : ℕ) (frames : List ℕ) (m : RangeOf M) (x : Bool) → has flags 1 ≡ x → AreBytes frames → (range_by parse u (cond x Empty (Sides (side_of flags 8 2) (side_of flags 16 4))) frames).answer ≡ Ok m →
      IsRangeBytes parse u (flags ∷ frames) m
  by_form flags frames m true set a e = subst (λ (r : RangeOf M). IsRangeBytes parse u (flags ∷ frames) r) (answer_is {A = RangeOf M} empty m e) (flags, frames, refl, set)
  by_form flags frames m false clear a e = bounds_are flags frames m a clear e

  bytes_are : (bytes : List ℕ) (m : RangeOf M) → AreBytes bytes → (range_bytes parse u bytes).answer ≡ Ok m → IsRangeBytes parse u bytes m
  bytes_are [] m a e = absurd cc
  bytes_are (flags ∷ frames) m a e = by_form flags frames m _ refl a.1 e

  bytes_there : (bytes : List ℕ) (m : RangeOf M) → IsRangeBytes parse u bytes m → (range_bytes parse u bytes).answer ≡ Ok m
  unfolding bounds_in
  bytes_there bytes empty h = rw (h.2, h.3) refl
  bytes_there bytes (bounds lower upper) h =
      rw (h.whole, h.not_empty, bound_there h.flags 8 2 h.frames lower h.between h.below, bound_there h.flags 16 4 h.between upper h.rest h.above) refl

-- ---- under a type

module _ {M : Type 0} (parse : Given → Outcome M) where
  range_there : (t : Ty) (bytes : List ℕ) (m : RangeOf M) → IsRange parse t bytes m → (range_in_binary parse t bytes).answer ≡ Ok m
  range_there t bytes m h = rw h.1 (bytes_there parse h.0 bytes m h.2)

  pub range_exactly : (info : Ty) → RangeIsItsBounds (parse_range info parse) parse
  unfolding RangeIsItsBounds
  range_exactly info t bytes m b = (
    λ e.
        let u = taken_exactly (ok_or (element_in_kind (kind_at t)) NotARange) _ m e in
        (u.0, over (kind_at t) u.0 (found_or (element_in_kind (kind_at t)) NotARange u.0 u.1), bytes_are parse u.0 bytes m b u.2),
    range_there t bytes m,
  )

  pub one_range : OneRange parse
  unfolding OneRange
  one_range t bytes m other h k = answer_is m other (sym (range_there t bytes m h) ∙ range_there t bytes other k)
