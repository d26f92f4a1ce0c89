-- What tokens write, one after another, and the frames that are found in it.
use Rattle.std.specs.Prelude.{◌≡◌, ℕ, ◌+◌, zero, suc, ◌<◌, ◌≤◌, ◌^◌, nat_lt, Bool, true, false, if◌then◌else◌, List, [], ◌∷◌, ◌++◌, length, take, drop, map, Option, Some, None, Ok, refl}
use Rattle.std.specs.Int.{w32, to_be_bytes}
use Rattle.std.proofs.Common.{sym, ap, ◌∙◌, subst, arith, append_assoc}
use Rattle.std.proofs.Math.Numerals.{one-add}
use Rattle.std.proofs.Math.Seq.{take-nil, drop-nil}
use Rattle.std.proofs.lemmas.Bool.{ltb-false, ltb-true}
use Rattle.std.proofs.lemmas.List.{length-append}
use Rattle.pgv_types.specs.Ty.{Ty}
use Rattle.pgv_types.specs.declared.oid.Oid.{Oid}
use Rattle.pgv_buf.specs.Fill.{first_number}
use Rattle.pgv_buf.specs.Proper.{rest_of}
use Rattle.pgv_buf.specs.Tokens.{Token, byte, hole, slot, bytes, be4, tokens_width, tokens_holes, CasesFit}
use Rattle.pgv_buf.proofs.Patches.{chosen_fits}
use Rattle.pgv_value.specs.FrameBinary.{Part, IsFrame, max_length, null_length}
use Rattle.pgv_value.specs.Outcome.{Outcome, Reads, ok_of, reading_of, done, unstated, allocates, ◌>>=◌, ◌>>◌}
use Rattle.pgv_value.specs.ValueView.{Given, given}
use Rattle.pgv_value.proofs.Outcomes.{answer_is, answer_of, taken, tested}
use Rattle.pgv_value.specs.declared.error.CodecError.TheVariants.{ValueSize}
use Rattle.pgv_value.specs.declared.value.PgValueFormat.TheVariants.{Binary}
use Rattle.pgv_codec.specs.Writing.{write, chosen_for, image_holes}
use Rattle.pgv_codec.specs.Back.{AreOids, SlotsFit, ReadsBack, FitEach, holes_in, holes_of, written_oid, oids_after}
use Rattle.pgv_codec.specs.NestBinary.{BeginWithFrames}
use Rattle.pgv_codec.specs.Encoding.{Encoding, Image, null_image, image_of, frame, frame_of, frames, typed_oid}

-- ---- writing

-- two lists of tokens are written one after the other, each with its own OIDs
pub write-append : (p : Option Ty) (os : List Oid) (ts us : List Token) → write p os (ts ++ us) ≡ write p (take (tokens_holes ts) os) ts ++ write p (drop (tokens_holes ts) os) us
write-append p os [] us = refl
write-append p os (byte b ∷ ts) us = ap (λ (xs : List ℕ). b ∷ xs) (write-append p os ts us)
write-append p [] (hole t ∷ ts) us =
    let parts : write p (take (tokens_holes ts) []) ts ++ write p (drop (tokens_holes ts) []) us ≡ write p [] ts ++ write p [] us = rw (take-nil (tokens_holes ts), drop-nil (tokens_holes ts)) refl in
    rw one-add (ap (λ (xs : List ℕ). be4 0 ++ xs) (write-append p [] ts us ∙ parts))
write-append p (o ∷ os) (hole t ∷ ts) us = rw one-add (ap (λ (xs : List ℕ). be4 o.0 ++ xs) (write-append p os ts us))
write-append p os (slot d cs ∷ ts) us =
    ap (λ (xs : List ℕ). chosen_for p d cs ++ xs) (write-append p os ts us) ∙ sym (append_assoc (chosen_for p d cs) (write p (take (tokens_holes ts) os) ts) (write p (drop (tokens_holes ts) os) us))

pub write-bytes : (p : Option Ty) (os : List Oid) (xs : List ℕ) → write p os (bytes xs) ≡ xs
write-bytes p os [] = refl
write-bytes p os (x ∷ xs) = ap (λ (ys : List ℕ). x ∷ ys) (write-bytes p os xs)

length-chosen_for : (p : Option Ty) (d : List ℕ) (cs : List (Ty × List ℕ)) → CasesFit (length d) cs → length (chosen_for p d cs) ≡ length d
length-chosen_for None d cs fit = refl
length-chosen_for (Some p) d cs fit = chosen_fits p d cs fit

pub length-write : (p : Option Ty) (os : List Oid) (ts : List Token) → SlotsFit ts → length (write p os ts) ≡ tokens_width ts
length-write p os [] fit = refl
length-write p os (byte b ∷ ts) fit = let ih = length-write p os ts fit in omega arith
length-write p os (hole t ∷ ts) fit = let ih = length-write p (rest_of os) ts fit in omega arith
length-write p os (slot d cs ∷ ts) fit =
    let ih = length-write p os ts fit.1 in
    length-append (chosen_for p d cs) (write p os ts) ∙ omega (arith, ih, length-chosen_for p d cs fit.0)

-- slots that fit, fit in each part
pub SlotsFit-front : (ts us : List Token) → SlotsFit (ts ++ us) → SlotsFit ts
SlotsFit-front [] us fit = tt
SlotsFit-front (byte x ∷ ts) us fit = SlotsFit-front ts us fit
SlotsFit-front (hole t ∷ ts) us fit = SlotsFit-front ts us fit
SlotsFit-front (slot d cs ∷ ts) us fit = (fit.0, SlotsFit-front ts us fit.1)

pub SlotsFit-back : (ts us : List Token) → SlotsFit (ts ++ us) → SlotsFit us
SlotsFit-back [] us fit = fit
SlotsFit-back (byte x ∷ ts) us fit = SlotsFit-back ts us fit
SlotsFit-back (hole t ∷ ts) us fit = SlotsFit-back ts us fit
SlotsFit-back (slot d cs ∷ ts) us fit = SlotsFit-back ts us fit.1

pub tokens_holes-append : (ts us : List Token) → tokens_holes (ts ++ us) ≡ tokens_holes ts + tokens_holes us
tokens_holes-append [] us = omega arith
tokens_holes-append (byte x ∷ ts) us = tokens_holes-append ts us
tokens_holes-append (hole t ∷ ts) us = omega (arith, tokens_holes-append ts us)
tokens_holes-append (slot d cs ∷ ts) us = tokens_holes-append ts us

-- ---- OIDs

pub AreOids-take : (n : ℕ) (os : List Oid) → AreOids os → AreOids (take n os)
AreOids-take zero os h = tt
AreOids-take (suc n) [] h = tt
AreOids-take (suc n) (o ∷ os) h = (h.0, AreOids-take n os h.1)

pub AreOids-drop : (n : ℕ) (os : List Oid) → AreOids os → AreOids (drop n os)
AreOids-drop zero os h = h
AreOids-drop (suc n) [] h = tt
AreOids-drop (suc n) (o ∷ os) h = AreOids-drop n os h.1

pub AreOids-more : (os : List Oid) (o : Oid) → AreOids os → o.0 < 2 ^ 32 → AreOids (os ++ o ∷ [])
AreOids-more [] o h lt = (lt, tt)
AreOids-more (x ∷ os) o h lt = (h.0, AreOids-more os o h.1 lt)

pub AreOids-after : (o : Option ℕ) (os : List Oid) → AreOids os → AreOids (oids_after o os)
AreOids-after (Some o) os h = h
AreOids-after None [] h = tt
AreOids-after None (o ∷ os) h = h.1

-- ---- what is there is made of parts

pub guarded : {B : Type 0} (b : Bool) (o : Option B) (y : B) → (if b then o else None) ≡ Some y → (b ≡ true) × (o ≡ Some y)
guarded true o y e = (refl, e)
guarded false o y e = absurd cc

-- ---- a type, with anything after it

first_fits : (os : List Oid) → AreOids os → first_number os < 2 ^ 32
first_fits [] h = omega arith
first_fits (o ∷ os) h = h.0

oid_written : {A : Type 0} (b : Bool) (xs ys : A) → (if b then done xs else unstated).answer ≡ Ok ys → (b ≡ true) × (xs ≡ ys)
oid_written true xs ys e = (refl, answer_is xs ys e)
oid_written false xs ys e = absurd cc

pub type_written : (w : Ty) (o : Option ℕ) (ys after : List Token) (p : Option Ty) (os : List Oid) → AreOids os → (typed_oid w o).answer ≡ Ok ys →
    (written_oid o os < 2 ^ 32) × (write p os (ys ++ after) ≡ be4 (written_oid o os) ++ write p (oids_after o os) after)
type_written w (Some o) ys after p os small e =
    let g = oid_written (nat_lt o 4294967296) (bytes (be4 o)) ys e in
    (ltb-true o (2 ^ 32) g.0, rw (← g.1) refl)
type_written w None ys after p os small e = (first_fits os small, rw (← answer_is (hole w ∷ []) ys e) refl)

-- the OIDs after a type are those that its holes leave
pub oids_left : (w : Ty) (o : Option ℕ) (ys : List Token) (os : List Oid) → (typed_oid w o).answer ≡ Ok ys → drop (tokens_holes ys) os ≡ oids_after o os
oids_left w (Some o) ys os e = rw (← (oid_written (nat_lt o 4294967296) (bytes (be4 o)) ys e).1) refl
oids_left w None ys [] e = rw (← answer_is (hole w ∷ []) ys e) refl
oids_left w None ys (o ∷ os) e = rw (← answer_is (hole w ∷ []) ys e) refl

-- ---- frames

-- a frame is that of an image
pub frame_parts : (e : Encoding) (f : List Token) → (frame e).answer ≡ Ok f → (i : Image) × (e.image.answer ≡ Ok i) × ((frame_of i).answer ≡ Ok f)
unfolding frame
frame_parts e f is = taken e.image frame_of f (tested (nat_lt max_length e.size_hint) (ValueSize e.size_hint) (allocates true >> (e.image >>= frame_of)) f is).1

-- which is narrow enough
pub image_parts : (ts f : List Token) → (frame_of (image_of ts)).answer ≡ Ok f → (tokens_width ts ≤ max_length) × (bytes (be4 (tokens_width ts)) ++ ts ≡ f)
image_parts ts f is =
    let g = tested (nat_lt max_length (tokens_width ts)) (ValueSize (tokens_width ts)) (done (bytes (be4 (tokens_width ts)) ++ ts)) f is in
    (ltb-false max_length (tokens_width ts) g.0, answer_is _ f g.1)

module _ {A M : Type 0} (encoding : A → Encoding) (parse : Given → Outcome M) (kept : A → M) (fits : A → Ty → List Oid → Type 0) (law : ReadsBack encoding (reading_of parse) kept fits) where
  image_back : (x : A) (i : Image) (f after : List Token) (u : Ty) (p : Option Ty) (os : List Oid) → (encoding x).image.answer ≡ Ok i → (frame_of i).answer ≡ Ok f → SlotsFit f → AreOids os → fits x u (take (image_holes i) os) →
      (part : Part) × IsFrame (write p os (f ++ after)) part (write p (drop (image_holes i) os) after) × Reads parse (given u Binary part) (kept x)
  image_back x null_image f after u p os is e whole small fit =
      let f_is : bytes (be4 null_length) ≡ f = answer_is _ _ e in
      (None, rw (← f_is) refl, answer_of (parse (given u Binary None)).answer (kept x) (law x null_image u p (take 0 os) (ap ok_of is) tt tt fit))
  image_back x (image_of ts) f after u p os is e whole small fit =
      let g = image_parts ts f e in
      let f_is : bytes (be4 (tokens_width ts)) ++ ts ≡ f = g.1 in
      let mine : List Oid = take (tokens_holes ts) os in
      let rest : List ℕ = write p (drop (tokens_holes ts) os) after in
      let ts_fit : SlotsFit ts = SlotsFit-back (bytes (be4 (tokens_width ts))) ts (subst SlotsFit (sym f_is) whole) in
      let len : length (write p mine ts) ≡ tokens_width ts = length-write p mine ts ts_fit in
      let parts : write p os (f ++ after) ≡ be4 (tokens_width ts) ++ (write p mine ts ++ rest)
      = rw (← f_is) (ap (λ (xs : List ℕ). be4 (tokens_width ts) ++ xs) (write-append p os ts after)) in (
        Some (write p mine ts),
        (omega (arith, len, g.0), parts ∙ ap (λ (n : ℕ). to_be_bytes w32 n ++ (write p mine ts ++ rest)) (sym len)),
        answer_of (parse (given u Binary (Some (write p mine ts)))).answer (kept x) (law x (image_of ts) u p mine (ap ok_of is) ts_fit (AreOids-take (tokens_holes ts) os small) fit),
      )

  -- the frame of one value, with anything after it
  pub frame_back : (x : A) (f after : List Token) (u : Ty) (p : Option Ty) (os : List Oid) → (frame (encoding x)).answer ≡ Ok f → SlotsFit f → AreOids os → fits x u (take (holes_of (encoding x)) os) →
      (part : Part) × IsFrame (write p os (f ++ after)) part (write p (drop (holes_of (encoding x)) os) after) × Reads parse (given u Binary part) (kept x)
  frame_back x f after u p os e whole small fit =
      let a = frame_parts (encoding x) f e in
      let holes : image_holes a.0 ≡ holes_of (encoding x) = sym (ap (λ r. holes_in (ok_of r)) a.1) in
      subst (λ (n : ℕ). (part : Part) × IsFrame (write p os (f ++ after)) part (write p (drop n os) after) × Reads parse (given u Binary part) (kept x)) holes
      (image_back x a.0 f after u p os a.1 a.2 whole small (subst (λ (n : ℕ). fits x u (take n os)) (sym holes) fit))

  -- the frames of values, one after another
  pub frames_back : (xs : List A) (fs : List Token) (u : Ty) (p : Option Ty) (os : List Oid) → (frames (map encoding xs)).answer ≡ Ok fs → SlotsFit fs → AreOids os → FitEach encoding fits u xs os →
      BeginWithFrames parse u (write p os fs) (map kept xs)
  unfolding frames
  frames_back [] fs u p os e whole small fit = tt
  frames_back (x ∷ xs) fs u p os e whole small fit =
      let a = taken (frame (encoding x)) (λ first. frames (map encoding xs) >>= λ others. done (first ++ others)) fs e in
      let b = taken (frames (map encoding xs)) (λ others. done (a.0 ++ others)) fs a.2 in
      let whole_is : a.0 ++ b.0 ≡ fs = answer_is _ _ b.2 in
      let both : SlotsFit (a.0 ++ b.0) = subst SlotsFit (sym whole_is) whole in
      let left : List Oid = drop (holes_of (encoding x)) os in
      let one = frame_back x a.0 b.0 u p os a.1 (SlotsFit-front a.0 b.0 both) small fit.0 in
      let rest = frames_back xs b.0 u p left b.1 (SlotsFit-back a.0 b.0 both) (AreOids-drop (holes_of (encoding x)) os small) fit.1 in
      subst (λ (ts : List Token). BeginWithFrames parse u (write p os ts) (map kept (x ∷ xs))) whole_is (one.0, write p left b.0, one.1, one.2, rest)
