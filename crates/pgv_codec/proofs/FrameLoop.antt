-- Frames that are read one after the other.
use Rattle.std.proofs.Common.{◌≡◌, ◌≢◌, ℕ, zero, suc, ◌+◌, ◌-◌, ◌*◌, ◌/◌, min, ◌<◌, ◌≤◌, Bool, true, List, [], ◌∷◌, ◌++◌, length, map, drop, Option, Some, None, IfSome, Result, Ok, Err, refl, sym, ap, ◌∙◌, append_assoc, add-one, drop-drop, subst, suc-mul, arith, inl, inr}
use Rattle.std.proofs.lemmas.Bool.{lt-ltb}
use Rattle.std.proofs.lemmas.List.{append-nil, length-map, length_push, map_push}
use Rattle.std.proofs.lemmas.Nat.{le-div}
use Rattle.std.proofs.Math.Nat.{div-mul-le_self, le-div_iff_mul-le, le-min, min-le_left, min-le_right, mul-le-mul_left}
use Rattle.pgv_types.specs.Ty.{Ty}
use Rattle.pgv_value.specs.Fronts.{value_front}
use Rattle.pgv_value.specs.Outcome.{Outcome, Fails, done, bind_by}
use Rattle.pgv_value.specs.ValueView.{Given, given}
use Rattle.pgv_value.specs.declared.error.CodecError.{CodecError}
use Rattle.pgv_value.specs.declared.error.CodecError.TheVariants.{Short}
use Rattle.pgv_value.specs.FrameBinary.{front}
use Rattle.pgv_value.specs.declared.value.PgValueFormat.TheVariants.{Binary}
use Rattle.pgv_codec.specs.ArrayGrammar.{elements, parse_frames}
use Rattle.pgv_codec.specs.AtOnce.{AreFirst, IsBinaryOf, IsInFront, with_front}

module _ {M : Type 0} where
  pub regroup : (ms : List M) (m : M) (r : Result (List M) (Option CodecError)) (b : Bool) → with_front ms (bind_by r b (λ (ns : List M). done (m ∷ ns))).answer ≡ with_front (ms ++ m ∷ []) r
  regroup ms m (Ok ns) b = ap (λ (xs : List M). let r : Result (List M) (Option CodecError) = Ok xs in r) (sym (append_assoc ms (m ∷ []) ns))
  regroup ms m (Err why) b = refl

module _ {M : Type 0} (parse : Given → Outcome M) (t : Ty) where
  abbrev Answer : Type 0
  Answer = Result (List M) (Option CodecError)

  -- one step: a value is read, none stands in front, one isn't read
  step_read : (ms : List M) (k : ℕ) (bytes : List ℕ) (v : Given) (rest : List ℕ) (m : M) → value_front t Binary bytes ≡ Ok (v, rest) → (parse v).answer ≡ Ok m →
      with_front ms (parse_frames parse t (suc k) bytes).answer ≡ with_front (ms ++ m ∷ []) (parse_frames parse t k rest).answer
  unfolding parse_frames
  step_read ms k bytes v rest m f r = rw (f, r) (regroup ms m (parse_frames parse t k rest).answer (parse_frames parse t k rest).may_alloc)

  step_short : (k : ℕ) (bytes : List ℕ) (e : CodecError) → value_front t Binary bytes ≡ Err e → (parse_frames parse t (suc k) bytes).answer ≡ Err (Some e)
  unfolding parse_frames
  step_short k bytes e f = rw f refl

  step_unread : (k : ℕ) (bytes : List ℕ) (v : Given) (rest : List ℕ) (why : Option CodecError) → value_front t Binary bytes ≡ Ok (v, rest) → (parse v).answer ≡ Err why →
      (parse_frames parse t (suc k) bytes).answer ≡ Err why
  unfolding parse_frames
  step_unread k bytes v rest why f r = rw (f, r) refl

  -- where not even a length stands in front of the first one
  pub too_short : (n : ℕ) (bytes : List ℕ) → n ≢ 0 → length bytes < 4 → Fails Short (elements parse t n bytes)
  unfolding elements parse_frames front
  too_short zero bytes some short = absurd (some refl)
  too_short (suc n) bytes some short = inl (rw (lt-ltb (length bytes) 4 short) refl)

  none_left : (bytes : List ℕ) → (parse_frames parse t 0 bytes).answer ≡ Ok []
  unfolding parse_frames
  none_left bytes = refl

  -- the loop over the frames: it is done, it goes on, no frame stands in front, a frame isn't read
  pub is_done : (ms : List M) (count i : ℕ) (bytes : List ℕ) (total : Answer) → count ≤ i → with_front ms (parse_frames parse t (count - i) bytes).answer ≡ total → total ≡ Ok ms
  is_done ms count i bytes total le so_far =
      let k : count - i ≡ 0 = omega arith in
      let one : with_front ms (parse_frames parse t (count - i) bytes).answer ≡ Ok ms = rw (k, none_left bytes) (ap (λ (xs : List M). let r : Answer = Ok xs in r) (append-nil ms)) in
      sym so_far ∙ one

  pub goes_on : (ms : List M) (count i : ℕ) (bytes : List ℕ) (v : Given) (rest : List ℕ) (m : M) (total : Answer) → i < count → value_front t Binary bytes ≡ Ok (v, rest) → (parse v).answer ≡ Ok m →
      with_front ms (parse_frames parse t (count - i) bytes).answer ≡ total → with_front (ms ++ m ∷ []) (parse_frames parse t (count - (i + 1)) rest).answer ≡ total
  goes_on ms count i bytes v rest m total lt f r so_far =
      let k : count - i ≡ suc (count - (i + 1)) = omega arith in
      let one : with_front ms (parse_frames parse t (count - i) bytes).answer ≡ with_front (ms ++ m ∷ []) (parse_frames parse t (count - (i + 1)) rest).answer = rw k (step_read ms (count - (i + 1)) bytes v rest m f r) in
      sym one ∙ so_far

  pub ends_short : (ms : List M) (count i : ℕ) (bytes : List ℕ) (e : CodecError) (total : Answer) → i < count → value_front t Binary bytes ≡ Err e →
      with_front ms (parse_frames parse t (count - i) bytes).answer ≡ total → total ≡ Err (Some e)
  ends_short ms count i bytes e total lt f so_far =
      let k : count - i ≡ suc (count - (i + 1)) = omega arith in
      let one : with_front ms (parse_frames parse t (count - i) bytes).answer ≡ Err (Some e) = rw (k, step_short (count - (i + 1)) bytes e f) refl in
      sym so_far ∙ one

  ends_why : (ms : List M) (count i : ℕ) (bytes : List ℕ) (v : Given) (rest : List ℕ) (why : Option CodecError) (total : Answer) → i < count → value_front t Binary bytes ≡ Ok (v, rest) →
      (parse v).answer ≡ Err why → with_front ms (parse_frames parse t (count - i) bytes).answer ≡ total → total ≡ Err why
  ends_why ms count i bytes v rest why total lt f r so_far =
      let k : count - i ≡ suc (count - (i + 1)) = omega arith in
      let one : with_front ms (parse_frames parse t (count - i) bytes).answer ≡ Err why = rw (k, step_unread (count - (i + 1)) bytes v rest why f r) refl in
      sym so_far ∙ one

  pub ends_unread : (ms : List M) (count i : ℕ) (bytes : List ℕ) (v : Given) (rest : List ℕ) (e : CodecError) (total : Outcome (List M)) → i < count → value_front t Binary bytes ≡ Ok (v, rest) →
      Fails e (parse v) → with_front ms (parse_frames parse t (count - i) bytes).answer ≡ total.answer → total.may_alloc ≡ true → Fails e total
  ends_unread ms count i bytes v rest e total lt f (inl h) so_far free = inl (ends_why ms count i bytes v rest (Some e) total.answer lt f h so_far)
  ends_unread ms count i bytes v rest e total lt f (inr (inl h)) so_far free = inr (inl (ends_why ms count i bytes v rest None total.answer lt f h.0 so_far, h.1))
  ends_unread ms count i bytes v rest e total lt f (inr (inr h)) so_far free = inr (inr (h.0, free))

-- ---- the first elements in a loop of their own

no_items : {M : Type 0} (r : Result (List M) (Option CodecError)) → with_front [] r ≡ r
no_items (Ok ns) = refl
no_items (Err why) = refl

module _ {M : Type 0} (parse : Given → Outcome M) (count : ℕ) (bytes : List ℕ) where
  pub first_none : AreFirst parse count bytes [] bytes
  first_none t =
      let all : count - 0 ≡ count = omega arith in
      rw all (no_items (parse_frames parse t count bytes).answer)

  pub first_more : (ms : List M) (rest : List ℕ) (m : M) (width : ℕ) → length ms < count → AreFirst parse count bytes ms rest → IsInFront parse width rest m → AreFirst parse count bytes (ms ++ m ∷ []) (drop (4 + width) rest)
  first_more ms rest m width lt are is t =
      let on = goes_on parse t ms count (length ms) rest (given t Binary (Some is.0)) (drop (4 + width) rest) m (parse_frames parse t count bytes).answer lt (is.1 t) (is.2 t) (are t) in
      rw (length_push ms m) on

  pub first_step : {V : Type 0} (view : V → M) (items : List V) (item : V) (now : List V) (place width : ℕ) (rest : List ℕ) → now ≡ items ++ item ∷ [] → length items ≡ place → place < count → rest ≡ drop (place * (4 + width)) bytes →
      AreFirst parse count bytes (map view items) (drop (place * (4 + width)) bytes) → IsInFront parse width rest (view item) →
      (length now ≡ place + 1) × AreFirst parse count bytes (map view now) (drop ((place + 1) * (4 + width)) bytes)
  first_step view items item now place width rest more long lt here are is =
      let at = place * (4 + width) in
      let few : length (map view items) < count = rw (length-map items view, long) lt in
      let next : at + (4 + width) ≡ (place + 1) * (4 + width) = rw add-one (sym (suc-mul place (4 + width))) in
      let then : drop (4 + width) (drop at bytes) ≡ drop ((place + 1) * (4 + width)) bytes = drop-drop (4 + width) at bytes ∙ ap (λ (n : ℕ). drop n bytes) next in
      let grown : map view now ≡ map view items ++ view item ∷ [] = ap (map view) more ∙ map_push view items item in (
        ap length more ∙ length_push items item ∙ ap (λ (n : ℕ). n + 1) long,
        rw (grown, ← then) (first_more (map view items) (drop at bytes) (view item) width few are (subst (λ (xs : List ℕ). IsInFront parse width xs (view item)) here is)),
      )

  pub first_ends : (ms : List M) (place whole width : ℕ) (rest : List ℕ) → place ≤ whole → whole ≤ place → rest ≡ drop (whole * (4 + width)) bytes → AreFirst parse count bytes ms (drop (place * (4 + width)) bytes) → AreFirst parse count bytes ms rest
  first_ends ms place whole width rest below above here are = let same : place ≡ whole = omega (arith, below, above) in rw (here, ← same) are

-- what is read at once of a part is read from the frame in front
pub in_front_of : {V M : Type 0} (r : Option V) (view : V → M) (parse : Given → Outcome M) (width : ℕ) (bytes part : List ℕ) →
    ((t : Ty) → value_front t Binary bytes ≡ Ok (given t Binary (Some part), drop (4 + width) bytes)) → IfSome r (λ v. IsBinaryOf parse part (view v)) → IfSome r (λ v. IsInFront parse width bytes (view v))
in_front_of None view parse width bytes part front is = tt
in_front_of (Some v) view parse width bytes part front is = (part, front, is)

-- the room that the bytes have for elements of any width is enough for those of this one
pub room_for : (place count long width room : ℕ) → place < min count (long / (4 + width)) → min count (long / 4) ≤ room → place < room
room_for place count long width room lt le =
    let wide : long / (4 + width) * (4 + width) ≤ long = div-mul-le_self long (4 + width) in
    let part : long / (4 + width) * 4 ≤ long / (4 + width) * (4 + width) = mul-le-mul_left (long / (4 + width)) (omega arith) in
    let fewer : long / (4 + width) ≤ long / 4 = le-div (long / (4 + width)) long 4 (omega arith) (omega (arith, wide, part)) in
    let a = min-le_left count (long / (4 + width)) in
    let b = min-le_right count (long / (4 + width)) in
    let both : place + 1 ≤ min count (long / 4) = le-min {k = place + 1} {a = count} {b = long / 4} (omega (arith, lt, a)) (omega (arith, lt, b, fewer)) in
    omega (arith, both, le)

-- as many frames of one width as a list has whole ones are within it: those before a place, with the one there, and all
pub frame_within : (place count long width : ℕ) → place < min count (long / (4 + width)) → place * (4 + width) + (4 + width) ≤ long
frame_within place count long width lt =
    let few : place + 1 ≤ long / (4 + width) = omega (arith, lt, min-le_right count (long / (4 + width))) in
    let all : (place + 1) * (4 + width) ≤ long = (le-div_iff_mul-le {k = 4 + width} {x = place + 1} {y = long} (omega arith)).0 few in
    let step : (place + 1) * (4 + width) ≡ place * (4 + width) + (4 + width) = rw add-one (suc-mul place (4 + width)) in
    omega (arith, all, step)

pub frames_within : (count long width : ℕ) → min count (long / (4 + width)) * (4 + width) ≤ long
frames_within count long width = (le-div_iff_mul-le {k = 4 + width} {x = min count (long / (4 + width))} {y = long} (omega arith)).0 (min-le_right count (long / (4 + width)))
