-- The laws of optional values and of arrays, over the law of what they are made of.
use Rattle.std.specs.Prelude.{◌≡◌, ℕ, ◌≤◌, nat_lt, ◌==◌, Bool, true, false, if◌then◌else◌, List, [], ◌∷◌, ◌++◌, length, map, Option, Some, None, Ok, option_map, refl}
use Rattle.std.proofs.Common.{sym, ap, ◌∙◌, subst, arith, append_assoc, inr}
use Rattle.std.proofs.lemmas.Bool.{ltb-false, eq-eqb, eqb-true}
use Rattle.std.proofs.lemmas.List.{take_at, length-map}
use Rattle.std.proofs.lemmas.Option.{same_Some}
use Rattle.std.specs.declared.vec.Vec.{Vec}
use Rattle.std.specs.Vec.{with_items}
use Rattle.pgv_types.specs.Ty.{Ty}
use Rattle.pgv_types.specs.Facts.{oid_of}
use Rattle.pgv_types.specs.declared.oid.Oid.{Oid}
use Rattle.pgv_buf.specs.Tokens.{Token, bytes, be4}
use Rattle.pgv_value.specs.FrameBinary.{max_length}
use Rattle.pgv_value.specs.Outcome.{Outcome, ok_of, reading_of, done, unstated, allocates, ◌>>=◌, ◌>>◌}
use Rattle.pgv_value.specs.declared.error.CodecError.TheVariants.{ArrayLength}
use Rattle.pgv_value.specs.ValueView.{Given, given}
use Rattle.pgv_value.specs.declared.value.PgValueFormat.TheVariants.{Binary}
use Rattle.pgv_codec.specs.Writing.{write}
use Rattle.pgv_codec.specs.ArrayGrammar.{parse_array, parse_sized}
use Rattle.pgv_codec.specs.Back.{AreOids, SlotsFit, ImageFits, ReadsBack, is_null, option_kept, option_fits, written_oid, oids_after, ArrayFits}
use Rattle.pgv_codec.specs.PartBackLemmas.{type_written, SlotsFit-back, AreOids-after, frames_back}
use Rattle.pgv_codec.specs.FoundLemmas.{array_there}
use Rattle.pgv_value.proofs.Outcomes.{answer_is, answer_of, taken, tested}
use Rattle.pgv_codec.specs.NestBinary.{IsArray}
use Rattle.pgv_codec.specs.Encoding.{Encoding, Image, null_image, image_of, plainly, frames, typed, header, array_image, sized_image, option_encoding, written_element}
use Rattle.pgv_codec.specs.Nullable.{nullable}
use Rattle.pgv_codec.specs.Writing.{written_part}

-- ---- optional values

module _ {A M : Type 0} (info : Ty) (encoding : A → Encoding) (parse : Given → Outcome M) (view : A → M) (kept : A → A) (fits : A → Ty → List Oid → Type 0) (law : ReadsBack encoding (reading_of parse) (λ v. view (kept v)) fits) where
  some_back : (x : A) (o : Option Image) (i : Image) (t : Ty) (p : Option Ty) (os : List Oid) → ok_of (encoding x).image.answer ≡ o → o ≡ Some i → ImageFits i → AreOids os → fits x t os →
      reading_of (nullable parse) t Binary (written_part i p os) ≡ Some (option_map view (if is_null o then None else Some (kept x)))
  some_back x None i t p os is e whole small fit = absurd cc
  some_back x (Some null_image) i t p os is e whole small fit = rw (← same_Some null_image i e) refl
  some_back x (Some (image_of ts)) i t p os is e whole small fit =
      let same : image_of ts ≡ i = same_Some _ _ e in
      let read = answer_of (parse (given t Binary (Some (write p os ts)))).answer (view (kept x)) (law x (image_of ts) t p os is (subst ImageFits (sym same) whole) small fit) in
      rw (← same, read) refl

  pub option_back : ReadsBack (option_encoding info encoding) (reading_of (nullable parse)) (λ v. option_map view (option_kept encoding kept v)) (option_fits fits)
  option_back None i t p os e whole small fit = rw (← same_Some null_image i e) refl
  option_back (Some x) i t p os e whole small fit = some_back x (ok_of (encoding x).image.answer) i t p os refl e whole small fit

-- ---- arrays

-- an array's image: how many elements there are, and the tokens of the head and of the frames
head_parts : (w : Ty) (n : ℕ) (h : List Token) → (header w n).answer ≡ Ok h → (ys : List Token) × ((typed w).answer ≡ Ok ys) × ((bytes (be4 1) ++ bytes (be4 0)) ++ (ys ++ (bytes (be4 n) ++ bytes (be4 1))) ≡ h)
head_parts w n h e =
    let a = taken (typed w) (λ oid. done ((bytes (be4 1) ++ bytes (be4 0)) ++ (oid ++ (bytes (be4 n) ++ bytes (be4 1))))) h e in
    (a.0, a.1, answer_is _ h a.2)

array_parts : (info : Ty) (es : List Encoding) (i : Image) → (array_image info es).answer ≡ Ok i →
    (h : List Token) × (fs : List Token) × ((header (written_element info es) (length es)).answer ≡ Ok h) × ((frames es).answer ≡ Ok fs) × (length es ≤ max_length) × (image_of (h ++ fs) ≡ i)
unfolding array_image
array_parts info es i e =
    let rest_of : List Token → Outcome Image = λ head. frames es >>= λ parts. done (image_of (head ++ parts)) in
    let g = tested (nat_lt max_length (length es)) (ArrayLength (length es)) (allocates true >> (header (written_element info es) (length es) >>= rest_of)) i e in
    let a = taken (header (written_element info es) (length es)) rest_of i g.1 in
    let b = taken (frames es) (λ parts. done (image_of (a.0 ++ parts))) i a.2 in
    (a.0, b.0, a.1, b.1, ltb-false _ _ g.0, answer_is _ i b.2)

module _ {A M : Type 0} (info : Ty) (encoding : A → Encoding) (parse : Given → Outcome M) (kept : A → M) (fits : A → Ty → List Oid → Type 0) (law : ReadsBack encoding (reading_of parse) kept fits) where
  -- what is written of elements is an array of what they keep
  is_array : (xs : List A) (fs ys : List Token) (t : Ty) (p : Option Ty) (os : List Oid) → (typed (written_element info (map encoding xs))).answer ≡ Ok ys → (frames (map encoding xs)).answer ≡ Ok fs → length xs ≤ max_length →
      SlotsFit fs → AreOids os → ArrayFits info encoding fits xs t os →
      IsArray parse t (write p os (((bytes (be4 1) ++ bytes (be4 0)) ++ (ys ++ (bytes (be4 (length xs)) ++ bytes (be4 1)))) ++ fs)) (map kept xs)
  is_array xs fs ys t p os e f few whole small fit =
      let w = written_element info (map encoding xs) in
      let n = length xs in
      let rest : List Token = (bytes (be4 n) ++ bytes (be4 1)) ++ fs in
      let left : List Oid = oids_after (oid_of w) os in
      let type_is = type_written w (oid_of w) ys rest p os small e in
      let count_is : length (map kept xs) ≡ n = length-map xs kept in
      inr (record {
        flags = be4 0;
        oid = written_oid (oid_of w) os;
        element = fit.0;
        frames = write p left fs;
        whole =
            ap (λ (r : List Token). write p os (bytes (be4 1) ++ (bytes (be4 0) ++ r))) (append_assoc ys (bytes (be4 n) ++ bytes (be4 1)) fs)
            ∙ (ap (λ (r : List ℕ). be4 1 ++ (be4 0 ++ r)) type_is.1
            ∙ ap (λ (m : ℕ). be4 1 ++ (be4 0 ++ (be4 (written_oid (oid_of w) os) ++ (be4 m ++ (be4 1 ++ write p left fs))))) (sym count_is));
        four_flags = refl;
        oid_fits = type_is.0;
        count_fits = omega (arith, count_is, few);
        typed = fit.1;
        framed = frames_back encoding parse kept fits law xs fs fit.0 p left f whole (AreOids-after (oid_of w) os small) fit.2;
      })

  pub array_back : (xs : List A) (i : Image) (t : Ty) (p : Option Ty) (os : List Oid) → (array_image info (map encoding xs)).answer ≡ Ok i → ImageFits i → AreOids os → ArrayFits info encoding fits xs t os →
      (parse_array info parse (given t Binary (written_part i p os))).answer ≡ Ok (map kept xs)
  array_back xs i t p os e whole small fit =
      let a = array_parts info (map encoding xs) i e in
      let many : length (map encoding xs) ≡ length xs = length-map xs encoding in
      let h = head_parts (written_element info (map encoding xs)) (length (map encoding xs)) a.0 a.2 in
      let all : image_of (((bytes (be4 1) ++ bytes (be4 0)) ++ (h.0 ++ (bytes (be4 (length xs)) ++ bytes (be4 1)))) ++ a.1) ≡ i
      = ap (λ (n : ℕ). image_of (((bytes (be4 1) ++ bytes (be4 0)) ++ (h.0 ++ (bytes (be4 n) ++ bytes (be4 1)))) ++ a.1)) (sym many) ∙ (ap (λ (r : List Token). image_of (r ++ a.1)) h.2 ∙ a.5) in
      let fs_fit : SlotsFit a.1 = SlotsFit-back ((bytes (be4 1) ++ bytes (be4 0)) ++ (h.0 ++ (bytes (be4 (length xs)) ++ bytes (be4 1)))) a.1 (subst ImageFits (sym all) whole) in
      let few : length xs ≤ max_length = subst (λ (n : ℕ). n ≤ max_length) many a.4 in
      rw (← all) (array_there parse t _ (map kept xs) (is_array xs a.1 h.0 t p os h.1 a.3 few fs_fit small fit))

-- ---- lists and arrays of a length

kept_items : {X Z M : Type 0} (v : Vec X Z) (ws : List X) (view : X → M) → length ws ≡ length v.items → map view (with_items v ws).items ≡ map view ws
kept_items v ws view e = ap (map view) (take_at ws _ v.len (e ∙ sym v.ok.0))

map_both : {X Y W : Type 0} (f : Y → W) (g : X → Y) (xs : List X) → map (λ x. f (g x)) xs ≡ map f (map g xs)
map_both f g [] = refl
map_both f g (x ∷ xs) = ap (λ ys. f (g x) ∷ ys) (map_both f g xs)

module _ {A M : Type 0} (info : Ty) (encoding : A → Encoding) (parse : Given → Outcome M) (view : A → M) (kept : A → A) (fits : A → Ty → List Oid → Type 0)
    (law : ReadsBack encoding (reading_of parse) (λ v. view (kept v)) fits) where
  pub vec_back : {Z : Type 0} → ReadsBack {A = Vec A Z} (λ v. plainly (array_image info (map encoding v.items))) (reading_of (parse_array info parse)) (λ v. map view (with_items v (map kept v.items)).items) (λ v t os. ArrayFits info encoding fits v.items t os)
  vec_back v i t p os e whole small fit =
      ap ok_of (array_back info encoding parse (λ x. view (kept x)) fits law v.items i t p os (answer_of _ i e) whole small fit)
      ∙ ap (λ ms. Some ms) (map_both view kept v.items ∙ sym (kept_items v (map kept v.items) view (length-map v.items kept)))

  -- a list of `n` is read as an array of `n`
  sized_parts : (b : Bool) (o : Outcome Image) (i : Image) → ok_of (if b then o else unstated).answer ≡ Some i → (b ≡ true) × (o.answer ≡ Ok i)
  sized_parts true o i e = (refl, answer_of o.answer i e)
  sized_parts false o i e = absurd cc

  pub sized_back : (n : ℕ) → ReadsBack (λ xs. plainly (sized_image n info (map encoding xs))) (reading_of (parse_sized n info parse)) (λ xs. map view (map kept xs)) (ArrayFits info encoding fits)
  sized_back n xs i t p os e whole small fit =
      let g = sized_parts (length (map encoding xs) == n) (array_image info (map encoding xs)) i e in
      let count : (length (map (λ x. view (kept x)) xs) == n) ≡ true = eq-eqb _ _ (length-map xs (λ x. view (kept x)) ∙ (sym (length-map xs encoding) ∙ eqb-true (length (map encoding xs)) n g.0)) in
      rw (array_back info encoding parse (λ x. view (kept x)) fits law xs i t p os g.1 whole small fit, count)
      (ap (λ ms. Some ms) (map_both view kept xs))
