-- The frames of arguments, read one after another.
use Rattle.std.proofs.Common.{◌≡◌, ℕ, ◌+◌, suc, arith, List, [], ◌∷◌, ◌++◌, length, take, drop, Some, None, Ok, refl, sym, ◌∙◌, ap, length-drop}
use Rattle.std.proofs.lemmas.List.{take-append-drop, nil_from_length}
use Rattle.std.specs.Int.{w32, to_be_bytes}
use Rattle.pgv_types.specs.Ty.{Ty}
use Rattle.pgv_types.specs.declared.oid.Oid.{Oid}
use Rattle.pgv_buf.specs.Proper.{Proper, Proper-front, Proper-back, first_type, shown-append, length_shown, rest_of}
use Rattle.pgv_buf.specs.Tokens.{Token, byte, hole, slot, bytes, be4, tokens_width, tokens_holes, tokens_slots, Cell, plain, shown}
use Rattle.pgv_value.specs.FrameBinary.{Part, front}
use Rattle.pgv_value.proofs.Fronts.{frame_in_front}
use Rattle.pgv_value.proofs.Outcomes.{answer_is}
use Rattle.pgv_wire.specs.Arguments.{Argument, Framed, framed, all_cells, filled_frame, filled_arguments}
use Rattle.pgv_codec.specs.Writing.{write}
use Rattle.pgv_codec.specs.Encoding.{Image, null_image, image_of, frame_of}
use Rattle.pgv_wire.specs.ArgumentParts.{ReadAs, AreImages, OfImages, AllRead, part_in, parts_in, written_parts}
use Rattle.pgv_codec.specs.Writing.{written_part, image_holes}
use Rattle.pgv_wire.proofs.ArgumentLists.{shown-frame}
use Rattle.pgv_wire.proofs.Split.{cut}

-- proper cells show the bytes that they begin with
shown_front : (xs : List ℕ) (ts : List Token) (c : List Cell) → Proper c → plain c ≡ bytes xs ++ ts → take (length xs) (shown c) ≡ xs
shown_front [] ts c p e = refl
shown_front (x ∷ xs) ts [] p e = absurd cc
shown_front (x ∷ xs) ts ((byte y, s) ∷ c) p e =
    let head : y ≡ x = cc in
    let tail : plain c ≡ bytes xs ++ ts = cc in
    rw p.0 (ap (λ (n : ℕ). n ∷ take (length xs) (shown c)) head ∙ ap (λ (r : List ℕ). x ∷ r) (shown_front xs ts c p.1 tail))
shown_front (x ∷ xs) ts ((hole t, s) ∷ c) p e = absurd cc
shown_front (x ∷ xs) ts ((slot d cs, s) ∷ c) p e = absurd cc

-- so they are the length and the others
headed : (n : ℕ) (ts : List Token) (c : List Cell) → Proper c → plain c ≡ bytes (be4 n) ++ ts → (shown c ≡ be4 n ++ drop 4 (shown c)) × (length (drop 4 (shown c)) ≡ tokens_width ts)
headed n ts c p e =
    let wide : length (shown c) ≡ 4 + tokens_width ts = omega (arith, length_shown c p, ap tokens_width e) in (
      sym (take-append-drop 4 (shown c)) ∙ ap (λ (r : List ℕ). r ++ drop 4 (shown c)) (shown_front (be4 n) ts c p e),
      omega (arith, wide, length-drop 4 (shown c)),
    )

-- one frame is found in front
frame_found : (i : Image) (c : List Cell) (rest : List ℕ) → (frame_of i).answer ≡ Ok (plain c) → Proper c → front (shown c ++ rest) ≡ Some (part_in i c, rest)
frame_found null_image c rest e p =
    let h = headed 4294967295 [] c p (sym (answer_is (bytes (be4 4294967295)) (plain c) e)) in
    let none : drop 4 (shown c) ≡ [] = nil_from_length (drop 4 (shown c)) h.1 in
    frame_in_front (shown c ++ rest) None rest (ap (λ (r : List ℕ). r ++ rest) (h.0 ∙ ap (λ (r : List ℕ). be4 4294967295 ++ r) none))
frame_found (image_of ts) c rest e p =
    let k = cut ts (plain c) e in
    let h = headed (tokens_width ts) ts c p k.1 in
    frame_in_front (shown c ++ rest) (Some (drop 4 (shown c))) rest (
      omega (arith, h.1, k.0),
      ap (λ (r : List ℕ). r ++ rest) h.0 ∙ ap (λ n. to_be_bytes w32 n ++ (drop 4 (shown c) ++ rest)) (sym h.1),
    )

pub frames_read : (args : List Argument) (is : List Image) → AreImages is (framed args) → Proper (all_cells args) → ReadAs (shown (all_cells args)) (parts_in is args) []
frames_read [] [] h p = refl
frames_read [] (i ∷ is) h p = absurd h
frames_read (a ∷ args) [] h p = absurd h
frames_read (a ∷ args) (i ∷ is) h p = (
  shown (all_cells args),
  ap front (shown-append a.1 (all_cells args)) ∙ frame_found i a.1 (shown (all_cells args)) h.0 (Proper-front a.1 (all_cells args) p),
  frames_read args is h.1 (Proper-back a.1 (all_cells args) p),
)

pub as_many : (args : List Argument) (is : List Image) → AreImages is (framed args) → length (parts_in is args) ≡ length args
as_many [] [] h = refl
as_many [] (i ∷ is) h = absurd h
as_many (a ∷ args) [] h = absurd h
as_many (a ∷ args) (i ∷ is) h = ap suc (as_many args is h.1)

-- arguments whose images are known to exist are all read
pub all_read : (args : List Argument) → OfImages args → Proper (all_cells args) → AllRead args
all_read args h p = (h.0, h.1, frames_read args h.0 h.1 p, as_many args h.0 h.1)

-- ---- a frame is that of one image

-- null's frame is no other image's
not_null : (us : List Token) → bytes (be4 4294967295) ≡ bytes (be4 (tokens_width us)) ++ us → ⊥
not_null [] e = absurd cc
not_null (u ∷ us) e = absurd cc

pub one_image : (i j : Image) (f : List Token) → (frame_of i).answer ≡ Ok f → (frame_of j).answer ≡ Ok f → i ≡ j
one_image null_image null_image f d e = refl
one_image null_image (image_of us) f d e =
    let null : bytes (be4 4294967295) ≡ f = answer_is (bytes (be4 4294967295)) f d in
    absurd (not_null us (null ∙ (cut us f e).1))
one_image (image_of ts) null_image f d e =
    let null : bytes (be4 4294967295) ≡ f = answer_is (bytes (be4 4294967295)) f e in
    absurd (not_null ts (null ∙ (cut ts f d).1))
one_image (image_of ts) (image_of us) f d e =
    let both : bytes (be4 (tokens_width ts)) ++ ts ≡ bytes (be4 (tokens_width us)) ++ us = sym (cut ts f d).1 ∙ (cut us f e).1 in
    let same : ts ≡ us = cc in
    ap image_of same

pub same_images : (is js : List Image) (fs : List Framed) → AreImages is fs → AreImages js fs → is ≡ js
same_images [] [] [] h k = refl
same_images [] [] (f ∷ fs) h k = absurd h
same_images [] (j ∷ js) [] h k = absurd k
same_images [] (j ∷ js) (f ∷ fs) h k = absurd h
same_images (i ∷ is) [] [] h k = absurd h
same_images (i ∷ is) [] (f ∷ fs) h k = absurd k
same_images (i ∷ is) (j ∷ js) [] h k = absurd h
same_images (i ∷ is) (j ∷ js) (f ∷ fs) h k = ap (λ n. n ∷ is) (one_image i j f.1 h.0 k.0) ∙ ap (λ (r : List Image). j ∷ r) (same_images is js fs h.1 k.1)

-- ---- after a filling

pub part_filled : (i : Image) (f : List Token) (p : Ty) (os : List Oid) → (frame_of i).answer ≡ Ok f → part_in i (filled_frame p os f) ≡ written_part i (Some p) os
part_filled null_image f p os e = refl
part_filled (image_of ts) f p os e =
    let k = cut ts f e in
    ap (λ (r : List ℕ). let q : Part = Some (drop 4 r) in q) (shown-frame (tokens_slots f) p os f refl ∙ ap (λ (r : List Token). write (Some p) os r) k.1)

holes_are : (i : Image) (f : List Token) → (frame_of i).answer ≡ Ok f → tokens_holes f ≡ image_holes i
holes_are null_image f e = ap tokens_holes (sym (answer_is (bytes (be4 4294967295)) f e))
holes_are (image_of ts) f e = ap tokens_holes (cut ts f e).1

pub parts_filled : (fs : List Framed) (is : List Image) (ps : List Ty) (os : List Oid) → AreImages is fs → parts_in is (filled_arguments fs ps os) ≡ written_parts is ps os
parts_filled [] [] ps os h = refl
parts_filled [] (i ∷ is) ps os h = absurd h
parts_filled (f ∷ fs) [] ps os h = absurd h
parts_filled (f ∷ fs) (i ∷ is) ps os h =
    let n = tokens_holes f.1 in
    ap (λ (p : Part). p ∷ parts_in is (filled_arguments fs (rest_of ps) (drop n os))) (part_filled i f.1 (first_type ps) (take n os) h.0)
    ∙ (ap (λ (r : List Part). written_part i (Some (first_type ps)) (take n os) ∷ r) (parts_filled fs is (rest_of ps) (drop n os) h.1)
    ∙ ap (λ (m : ℕ). written_part i (Some (first_type ps)) (take m os) ∷ written_parts is (rest_of ps) (drop m os)) (holes_are i f.1 h.0))
