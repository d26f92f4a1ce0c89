-- The parts of arguments after any list of calls, and that they are read back.
use Rattle.std.proofs.Common.{◌≡◌, ℕ, zero, suc, List, [], ◌∷◌, ◌++◌, length, take, drop, Option, Some, None, Result, Ok, refl, sym, ◌∙◌, ap, subst, arith}
use Rattle.std.specs.List.{slice_get}
use Rattle.std.proofs.lemmas.List.{length-map}
use Rattle.std.proofs.lemmas.Option.{same_Some}
use Rattle.pgv_types.specs.Ty.{Ty}
use Rattle.pgv_types.specs.declared.oid.Oid.{Oid}
use Rattle.pgv_buf.specs.Proper.{Proper, Proper-front, Proper-back, first_type, rest_of}
use Rattle.pgv_buf.specs.Tokens.{Token, byte, hole, slot, bytes, be4, tokens_width, tokens_holes, Cell, blank, plain, shown}
use Rattle.pgv_value.specs.FrameBinary.{Part}
use Rattle.pgv_value.specs.Reading.{Reading}
use Rattle.pgv_wire.specs.Arguments.{Argument, Framed, framed, all_cells, filled_arguments}
use Rattle.pgv_value.specs.Outcome.{ok_of}
use Rattle.pgv_value.specs.declared.error.CodecError.{CodecError}
use Rattle.pgv_codec.specs.Writing.{write}
use Rattle.pgv_codec.specs.Back.{AreOids, SlotsFit, ImageFits, ReadsBack}
use Rattle.pgv_codec.specs.PartBackLemmas.{frame_parts, SlotsFit-back, AreOids-take, AreOids-drop}
use Rattle.pgv_wire.specs.Given.{LastGiven, zeros, given_by, given_none, given_in, parts_given, ArgumentReadsBack}
use Rattle.pgv_wire.specs.History.{Call, last_filling, after_calls, added_in, blanks}
use Rattle.pgv_wire.specs.MainSentence.{ComeBackIn, MainSentence}
use Rattle.pgv_codec.specs.Encoding.{Encoding, Image, null_image, image_of, frame_of}
use Rattle.pgv_wire.specs.ArgumentParts.{AreImages, part_in, parts_in}
use Rattle.pgv_codec.specs.Writing.{written_part}
use Rattle.pgv_wire.proofs.Framed.{framed-left}
use Rattle.pgv_wire.proofs.Histories.{left_told, only_added, history_told}
use Rattle.pgv_wire.proofs.PartsRead.{frames_read, as_many, part_filled, one_image}
use Rattle.pgv_wire.proofs.Split.{cut}

-- ---- the parts

-- what is not filled yet is written with zeros and defaults
shown-blank : (n : ℕ) (ts : List Token) → shown (blank ts) ≡ write None (zeros n) ts
shown-blank n [] = refl
shown-blank n (byte x ∷ ts) = ap (λ (r : List ℕ). x ∷ r) (shown-blank n ts)
shown-blank zero (hole t ∷ ts) = ap (λ (r : List ℕ). be4 0 ++ r) (shown-blank zero ts)
shown-blank (suc n) (hole t ∷ ts) = ap (λ (r : List ℕ). be4 0 ++ r) (shown-blank n ts)
shown-blank n (slot d cs ∷ ts) = ap (λ (r : List ℕ). d ++ r) (shown-blank n ts)

part_blank : (i : Image) (f : List Token) → (frame_of i).answer ≡ Ok f → part_in i (blank f) ≡ written_part i None (zeros (tokens_holes f))
part_blank null_image f e = refl
part_blank (image_of ts) f e =
    let k = cut ts f e in
    ap (λ (r : List Token). let q : Part = Some (drop 4 (shown (blank r))) in q) k.1 ∙ ap (λ (r : List ℕ). let q : Part = Some r in q) (shown-blank (tokens_holes f) ts)

parts_since : (fs : List Framed) (is : List Image) → AreImages is fs → parts_in is (blanks fs) ≡ parts_given is (given_none fs)
parts_since [] [] h = refl
parts_since [] (i ∷ is) h = absurd h
parts_since (f ∷ fs) [] h = absurd h
parts_since (f ∷ fs) (i ∷ is) h =
    ap (λ (p : Part). p ∷ parts_in is (blanks fs)) (part_blank i f.1 h.0) ∙ ap (λ (r : List Part). written_part i None (zeros (tokens_holes f.1)) ∷ r) (parts_since fs is h.1)

parts_left : (fs since : List Framed) (is : List Image) (ps : List Ty) (os : List Oid) → AreImages is (fs ++ since) → parts_in is (filled_arguments fs ps os ++ blanks since) ≡ parts_given is (given_by fs ps os ++ given_none since)
parts_left [] since is ps os h = parts_since since is h
parts_left (f ∷ fs) since [] ps os h = absurd h
parts_left (f ∷ fs) since (i ∷ is) ps os h =
    let n = tokens_holes f.1 in
    ap (λ (p : Part). p ∷ parts_in is (filled_arguments fs (rest_of ps) (drop n os) ++ blanks since)) (part_filled i f.1 (first_type ps) (take n os) h.0)
    ∙ ap (λ (r : List Part). written_part i (Some (first_type ps)) (take n os) ∷ r) (parts_left fs since is (rest_of ps) (drop n os) h.1)

pub parts_told : (calls : List Call) (is : List Image) → AreImages is (added_in calls) → parts_in is (after_calls [] calls) ≡ parts_given is (given_in (last_filling calls))
parts_told calls is h =
    let left = left_told calls in
    let fs_are : added_in calls ≡ (last_filling calls).filled ++ (last_filling calls).since = sym (only_added calls) ∙ framed-left (after_calls [] calls) (last_filling calls) left in
    ap (λ (args : List Argument). parts_in is args) left
    ∙ parts_left (last_filling calls).filled (last_filling calls).since is (last_filling calls).types (last_filling calls).oids (subst (λ (fs : List Framed). AreImages is fs) fs_are h)

-- ---- one argument

part_at : (is : List Image) (gs : List LastGiven) (k : ℕ) (i : Image) (g : LastGiven) → slice_get is k ≡ Some i → slice_get gs k ≡ Some g → slice_get (parts_given is gs) k ≡ Some (written_part i g.parameter g.oids)
part_at [] gs k i g e f = absurd cc
part_at (j ∷ is) [] k i g e f = absurd cc
part_at (j ∷ is) (x ∷ gs) zero i g e f = rw (same_Some j i e, same_Some x g f) refl
part_at (j ∷ is) (x ∷ gs) (suc k) i g e f = part_at is gs k i g e f

image_at : (is : List Image) (fs : List Framed) (k : ℕ) (a : Framed) (j : Image) → AreImages is fs → slice_get fs k ≡ Some a → (frame_of j).answer ≡ Ok a.1 → slice_get is k ≡ Some j
image_at [] [] k a j h e f = absurd cc
image_at [] (x ∷ fs) k a j h e f = absurd h
image_at (i ∷ is) [] k a j h e f = absurd h
image_at (i ∷ is) (x ∷ fs) zero a j h e f =
    let there : (frame_of i).answer ≡ Ok a.1 = h.0 ∙ ap (λ (r : Framed). let o : Result (List Token) (Option CodecError) = Ok r.1 in o) (same_Some x a e) in
    ap (λ (r : Image). let o : Option Image = Some r in o) (one_image i j a.1 there f)
image_at (i ∷ is) (x ∷ fs) (suc k) a j h e f = image_at is fs k a j h.1 e f

-- slots of proper cells fit
slots_fit : (c : List Cell) → Proper c → SlotsFit (plain c)
slots_fit [] h = tt
slots_fit ((byte x, s) ∷ c) h = slots_fit c h.1
slots_fit ((hole t, s) ∷ c) h = slots_fit c h.1
slots_fit ((slot d cs, s) ∷ c) h = (h.0.1, slots_fit c h.1)

slots_fit_at : (args : List Argument) (k : ℕ) (a : Framed) → Proper (all_cells args) → slice_get (framed args) k ≡ Some a → SlotsFit a.1
slots_fit_at [] k a h e = absurd cc
slots_fit_at (x ∷ args) zero a h e = subst (λ (f : Framed). SlotsFit f.1) (same_Some (x.0, plain x.1) a e) (slots_fit x.1 (Proper-front x.1 (all_cells args) h))
slots_fit_at (x ∷ args) (suc k) a h e = slots_fit_at args k a (Proper-back x.1 (all_cells args) h) e

image_fits : (i : Image) (f : List Token) → (frame_of i).answer ≡ Ok f → SlotsFit f → ImageFits i
image_fits null_image f e h = tt
image_fits (image_of ts) f e h =
    let k = cut ts f e in
    SlotsFit-back (bytes (be4 (tokens_width ts))) ts (subst SlotsFit k.1 h)

zeros_fit : (n : ℕ) → AreOids (zeros n)
zeros_fit zero = tt
zeros_fit (suc n) = (omega arith, zeros_fit n)

since_fit : (fs : List Framed) (k : ℕ) (g : LastGiven) → slice_get (given_none fs) k ≡ Some g → AreOids g.oids
since_fit [] k g e = absurd cc
since_fit (f ∷ fs) zero g e = subst (λ (x : LastGiven). AreOids x.oids) (same_Some _ g e) (zeros_fit (tokens_holes f.1))
since_fit (f ∷ fs) (suc k) g e = since_fit fs k g e

oids_fit : (fs since : List Framed) (ps : List Ty) (os : List Oid) (k : ℕ) (g : LastGiven) → AreOids os → slice_get (given_by fs ps os ++ given_none since) k ≡ Some g → AreOids g.oids
oids_fit [] since ps os k g h e = since_fit since k g e
oids_fit (f ∷ fs) since ps os zero g h e = subst (λ (x : LastGiven). AreOids x.oids) (same_Some _ g e) (AreOids-take (tokens_holes f.1) os h)
oids_fit (f ∷ fs) since ps os (suc k) g h e = oids_fit fs since (rest_of ps) (drop (tokens_holes f.1) os) k g (AreOids-drop (tokens_holes f.1) os h) e

module _ {A M : Type 0} (encoding : A → Encoding) (reading : Reading M) (kept : A → M) (fits : A → Ty → List Oid → Type 0) (law : ReadsBack encoding reading kept fits) where
  come_back : (calls : List Call) (is : List Image) → AreImages is (added_in calls) → Proper (all_cells (after_calls [] calls)) → AreOids (last_filling calls).oids →
      ComeBackIn encoding reading kept fits calls (parts_in is (after_calls [] calls))
  come_back calls is frames proper small place a g v t there framed_as given fit =
      let f = frame_parts (encoding v) a.1 framed_as in
      let j_there = image_at is (added_in calls) place a f.0 frames there f.2 in
      let a_there : slice_get (framed (after_calls [] calls)) place ≡ Some a = ap (λ (fs : List Framed). slice_get fs place) (only_added calls) ∙ there in
      let whole = image_fits f.0 a.1 f.2 (slots_fit_at (after_calls [] calls) place a proper a_there) in
      let own = oids_fit (last_filling calls).filled (last_filling calls).since (last_filling calls).types (last_filling calls).oids place g small given in (
        written_part f.0 g.parameter g.oids,
        ap (λ (ps : List Part). slice_get ps place) (parts_told calls is frames) ∙ part_at is (given_in (last_filling calls)) place f.0 g j_there given,
        law v f.0 t g.parameter g.oids (ap ok_of f.1) whole own fit,
      )

  pub main_sentence : MainSentence encoding reading kept fits
  unfolding MainSentence
  main_sentence calls is frames proper small =
      let framed_too : AreImages is (framed (after_calls [] calls)) = subst (λ (fs : List Framed). AreImages is fs) (sym (only_added calls)) frames in
      record {
        written = history_told calls;
        parts = parts_in is (after_calls [] calls);
        read = frames_read (after_calls [] calls) is framed_too proper;
        as_many = as_many (after_calls [] calls) is framed_too ∙ (sym (length-map (after_calls [] calls) _) ∙ ap length (only_added calls));
        come_back = come_back calls is frames proper small;
      }

  pub argument_back : ArgumentReadsBack encoding reading kept fits
  unfolding ArgumentReadsBack MainSentence
  argument_back calls is place a g v t frames proper small there framed_as given fit =
      let all = main_sentence calls is frames proper small in
      let back = all.come_back place a g v t there framed_as given fit in
      (all.parts, back.0, all.read, back.1, back.2)
