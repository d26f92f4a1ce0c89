-- Arrays in binary.
use Rattle.std.proofs.Common.{◌≡◌, ℕ, zero, suc, ◌+◌, ◌*◌, ◌≤◌, List, [], ◌∷◌, ◌++◌, length, Some, Ok, arith, inl, inr, ◌<◌, ◌^◌, Bool, true, false, nat_lt, nat_eq, Option, None, refl, sym, ◌∙◌, ap, subst}
use Rattle.std.proofs.lemmas.List.{length-append}
use Rattle.std.specs.Int.{w32, to_be_bytes}
use Rattle.std.proofs.lemmas.Grind.{common_steps}
use Rattle.pgv_value.specs.FrameBinary.{Part, front}
use Rattle.pgv_types.specs.Ty.{Ty}
use Rattle.pgv_codec.specs.ArrayGrammar.{parse_frames, element_type, Head, one_dimension, head, elements, elements_after, array_in_binary}
use Rattle.pgv_codec.specs.FoundLemmas.{frames_there, array_there}
use Rattle.pgv_codec.specs.NestBinary.{FewElements, BeginWithFrames, IsArray, ArrayIsItsElements, OneArray}
use Rattle.pgv_value.specs.Fronts.{value_front, u32_front}
use Rattle.pgv_value.specs.Outcome.{Outcome, done, fails, ◌>>=◌}
use Rattle.pgv_value.specs.ValueView.{Given}
use Rattle.pgv_value.specs.declared.value.PgValueFormat.TheVariants.{Binary}
use Rattle.pgv_value.proofs.Outcomes.{answer_is, taken, taken_exactly, tested, found_or}
use Rattle.pgv_value.proofs.ValueFronts.{value_found, u32_is, u32_splits, value_is}
use Rattle.std.specs.Prelude.{not, ok_or, if◌then◌else◌}
use Rattle.std.proofs.lemmas.Bool.{ltb-false, eqb-true}
use Rattle.pgv_value.specs.FrameLaws.{AreBytes}
use Rattle.pgv_value.specs.declared.error.CodecError.{CodecError}
use Rattle.pgv_value.proofs.Numbers.{bytes_after, after_four, after_frame}

-- ---- an array has few elements for its bytes: each takes four or more

-- a frame takes four bytes or more
pub front_takes : (bytes : List ℕ) (part : Part) (rest : List ℕ) → front bytes ≡ Some (part, rest) → 4 + length rest ≤ length bytes
unfolding front
front_takes bytes part rest f = grind (arith, common_steps)

module _ {M : Type 0} (parse : Given → Outcome M) (t : Ty) where
  -- n frames have few elements for their bytes
  pub few_frames : (n : ℕ) (bytes : List ℕ) (ms : List M) → (parse_frames parse t n bytes).answer ≡ Ok ms → 4 * length ms ≤ length bytes
  unfolding parse_frames
  few_frames zero bytes ms e = let none = answer_is {A = List M} [] ms e in rw (← none) (omega arith)
  few_frames (suc n) bytes ms e =
      let a = taken_exactly (value_front t Binary bytes) _ ms e in
      let b = taken (parse a.0.0) _ ms a.2 in
      let c = taken (parse_frames parse t n a.0.1) _ ms b.2 in
      let less = few_frames n a.0.1 c.0 c.1 in
      let v = value_found t bytes a.0.0 a.0.1 a.1 in
      let here = front_takes bytes v.0 a.0.1 v.1 in
      let all = answer_is (b.0 ∷ c.0) ms c.2 in
      rw (← all) (omega (arith, less, here))

-- what is added in front makes nothing shorter
shorter : (front rest : List ℕ) → length rest ≤ length (front ++ rest)
shorter front rest = omega (arith, length-append front rest)

pub few_elements : {M : Type 0} (parse : Given → Outcome M) → FewElements parse
unfolding FewElements
few_elements parse t bytes ms (inl h) = rw h.2 (omega arith)
few_elements parse t bytes ms (inr h) =
    let few = few_frames parse h.element (length ms) h.frames ms (frames_there parse h.element h.frames ms h.framed) in
    let r1 : List ℕ = to_be_bytes w32 1 ++ h.frames in
    let r2 : List ℕ = to_be_bytes w32 (length ms) ++ r1 in
    let r3 : List ℕ = to_be_bytes w32 h.oid ++ r2 in
    let r4 : List ℕ = h.flags ++ r3 in
    let s1 = shorter (to_be_bytes w32 1) h.frames in
    let s2 = shorter (to_be_bytes w32 (length ms)) r1 in
    let s3 = shorter (to_be_bytes w32 h.oid) r2 in
    let s4 = shorter h.flags r3 in
    let s5 = shorter (to_be_bytes w32 1) r4 in
    rw h.whole (omega (arith, few, s1, s2, s3, s4, s5))

-- ---- what is read from an array in binary is what its bytes are

frames_are : {M : Type 0} (parse : Given → Outcome M) (t : Ty) (n : ℕ) (bytes : List ℕ) (ms : List M) → AreBytes bytes → (parse_frames parse t n bytes).answer ≡ Ok ms → (length ms ≡ n) × BeginWithFrames parse t bytes ms
unfolding parse_frames
frames_are {M} parse t zero bytes ms h e =
    subst (λ (ns : List M). (length ns ≡ 0) × BeginWithFrames parse t bytes ns) (answer_is {A = List M} [] ms e) (refl, tt)
frames_are {M} parse t (suc n) bytes ms h e =
    let a = taken_exactly (value_front t Binary bytes) _ ms e in
    let b = taken (parse a.0.0) _ ms a.2 in
    let c = taken (parse_frames parse t n a.0.1) _ ms b.2 in
    let v = value_is t bytes a.0.0 a.0.1 h a.1 in
    let tail = frames_are parse t n a.0.1 c.0 (after_frame bytes v.0 a.0.1 v.1 h) c.1 in
    let read : (parse (record { bytes = v.0; type_info = t; format = Binary })).answer ≡ Ok b.0 = ap (λ (g : Given). (parse g).answer) v.2 ∙ b.1 in
    subst (λ (ns : List M). (length ns ≡ suc n) × BeginWithFrames parse t bytes ns) (answer_is (b.0 ∷ c.0) ms c.2) (ap suc tail.0, (v.0, a.0.1, v.1, read, tail.1))

-- what is found after the number of dimensions
record Found (t : Ty) (bytes : List ℕ) (h : Head) : Type 0 where
  flags : List ℕ
  oid : ℕ
  whole : bytes ≡ flags ++ (to_be_bytes w32 oid ++ (to_be_bytes w32 h.count ++ (to_be_bytes w32 1 ++ h.frames)))
  four_flags : length flags ≡ 4
  oid_fits : oid < 2 ^ 32
  count_fits : h.count < 2 ^ 31
  typed : element_type t oid ≡ Some h.element

is_one : (n : ℕ) → not (nat_eq n 1) ≡ false → n ≡ 1
is_one n e = eqb-true n 1 (by (nat_eq n 1) e)
  where
    by : (b : Bool) → not b ≡ false → b ≡ true
    by true e = refl
    by false e = absurd cc

one_dimension_is : (t : Ty) (bytes : List ℕ) (h : Head) → AreBytes bytes → (one_dimension t bytes).answer ≡ Ok h → Found t bytes h
unfolding one_dimension
one_dimension_is t bytes h b e =
    let flags = taken_exactly (u32_front bytes) _ h e in
    let oid = taken_exactly (u32_front flags.0.1) _ h flags.2 in
    let element = taken_exactly (ok_or (element_type t oid.0.0) _) _ h oid.2 in
    let count = taken_exactly (u32_front oid.0.1) _ h element.2 in
    let fits = tested (nat_lt 2147483647 count.0.0) _ _ h count.2 in
    let bound = taken_exactly (u32_front count.0.1) _ h fits.1 in
    let one = tested (not (nat_eq bound.0.0 1)) _ _ h bound.2 in
    let f = u32_splits bytes flags.0 flags.1 in
    let b_flags : AreBytes flags.0.1 = bytes_after f.0 flags.0.1 (subst AreBytes f.1 b) in
    let o = u32_is flags.0.1 oid.0 b_flags oid.1 in
    let b_oid = after_four oid.0.0 flags.0.1 oid.0.1 o.1 b_flags in
    let c = u32_is oid.0.1 count.0 b_oid count.1 in
    let l = u32_is count.0.1 bound.0 (after_four count.0.0 oid.0.1 count.0.1 c.1 b_oid) bound.1 in
    let small : count.0.0 ≤ 2147483647 = ltb-false 2147483647 count.0.0 fits.0 in
    let found : Head = record { element = element.0; count = count.0.0; frames = bound.0.1 } in
    subst (λ (x : Head). Found t bytes x) (answer_is found h one.1)
    (record {
      flags = f.0;
      oid = oid.0.0;
      whole =
          f.1 ∙ ap (λ (r : List ℕ). f.0 ++ r)
          (o.1 ∙ ap (λ (r : List ℕ). to_be_bytes w32 oid.0.0 ++ r)
          (c.1 ∙ ap (λ (r : List ℕ). to_be_bytes w32 count.0.0 ++ r) (l.1 ∙ ap (λ (n : ℕ). to_be_bytes w32 n ++ bound.0.1) (is_one bound.0.0 one.0))));
      four_flags = f.2;
      oid_fits = o.0;
      count_fits = omega arith;
      typed = found_or (element_type t oid.0.0) _ element.0 element.1;
    })

-- by the number of dimensions
array_with :
    {M : Type 0} (parse : Given → Outcome M) (t : Ty) (bytes rest_after : List ℕ) (n : ℕ) (h : Option Head) (ms : List M) (none one : Bool) (other : CodecError) →
    AreBytes rest_after → bytes ≡ to_be_bytes w32 n ++ rest_after → nat_eq n 0 ≡ none → nat_eq n 1 ≡ one →
    (if none then done None else if one then (one_dimension t rest_after >>= λ x. done (Some x)) else fails other).answer ≡ Ok h → (elements_after parse h).answer ≡ Ok ms → IsArray parse t bytes ms
unfolding elements
array_with {M} parse t bytes rest_after n h ms true one other b whole e f found read_is =
    let nothing : (elements_after parse None).answer ≡ Ok ms = subst (λ (o : Option Head). (elements_after parse o).answer ≡ Ok ms) (sym (answer_is {A = Option Head} None h found)) read_is in
    let n_is : n ≡ 0 = eqb-true n 0 e in
    inl (rest_after, whole ∙ ap (λ (m : ℕ). to_be_bytes w32 m ++ rest_after) n_is, sym (answer_is {A = List M} [] ms nothing))
array_with parse t bytes rest_after n h ms false false other b whole e f found read_is = absurd cc
array_with {M} parse t bytes rest_after n h ms false true other b whole e f found read_is =
    let x = taken (one_dimension t rest_after) (λ (y : Head). done (Some y)) h found in
    let k = one_dimension_is t rest_after x.0 b x.1 in
    let there : (parse_frames parse x.0.element x.0.count x.0.frames).answer ≡ Ok ms = subst (λ (o : Option Head). (elements_after parse o).answer ≡ Ok ms) (sym (answer_is {A = Option Head} (Some x.0) h x.2)) read_is in
    let tail : List ℕ = to_be_bytes w32 1 ++ x.0.frames in
    let b_oid = bytes_after k.flags (to_be_bytes w32 k.oid ++ (to_be_bytes w32 x.0.count ++ tail)) (subst AreBytes k.whole b) in
    let b_frames : AreBytes x.0.frames = bytes_after (to_be_bytes w32 1) x.0.frames (bytes_after (to_be_bytes w32 x.0.count) tail (bytes_after (to_be_bytes w32 k.oid) (to_be_bytes w32 x.0.count ++ tail) b_oid)) in
    let fs = frames_are parse x.0.element x.0.count x.0.frames ms b_frames there in
    let n_is : n ≡ 1 = eqb-true n 1 f in
    inr (record {
      flags = k.flags;
      oid = k.oid;
      element = x.0.element;
      frames = x.0.frames;
      whole =
          whole ∙ (ap (λ (m : ℕ). to_be_bytes w32 m ++ rest_after) n_is
          ∙ (ap (λ (r : List ℕ). to_be_bytes w32 1 ++ r) k.whole
          ∙ ap (λ (m : ℕ). to_be_bytes w32 1 ++ (k.flags ++ (to_be_bytes w32 k.oid ++ (to_be_bytes w32 m ++ (to_be_bytes w32 1 ++ x.0.frames))))) (sym fs.0)));
      four_flags = k.four_flags;
      oid_fits = k.oid_fits;
      count_fits = subst (λ m. m < 2 ^ 31) (sym fs.0) k.count_fits;
      typed = k.typed;
      framed = fs.1;
    })

module _ {M : Type 0} (parse : Given → Outcome M) where
  array_is : (t : Ty) (bytes : List ℕ) (ms : List M) → AreBytes bytes → (array_in_binary parse t bytes).answer ≡ Ok ms → IsArray parse t bytes ms
  unfolding array_in_binary head
  array_is t bytes ms b e =
      let h = taken (head t bytes) (elements_after parse) ms e in
      let d = taken_exactly (u32_front bytes) _ h.0 h.1 in
      let n = u32_is bytes d.0 b d.1 in
      array_with parse t bytes d.0.1 d.0.0 h.0 ms _ _ _ (after_four d.0.0 bytes d.0.1 n.1 b) n.1 refl refl d.2 h.2

  pub array_exactly : ArrayIsItsElements parse
  unfolding ArrayIsItsElements
  array_exactly t bytes ms b = (array_is t bytes ms b, array_there parse t bytes ms)

  pub one_array : OneArray parse
  unfolding OneArray
  one_array t bytes ms others h k = answer_is ms others (sym (array_there parse t bytes ms h) ∙ array_there parse t bytes others k)
