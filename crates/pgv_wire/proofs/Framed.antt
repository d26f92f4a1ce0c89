-- What additions and fillings keep of arguments: their frames without what these show, that each is the frame of an
-- image, and that each shows what some types and OIDs write, or is not filled yet.
use Rattle.std.proofs.Common.{◌≡◌, ℕ, List, [], ◌∷◌, ◌++◌, length, drop, take, replicate, Ok, refl, sym, ◌∙◌, ap, subst, append_assoc, append-nil}
use Rattle.std.proofs.lemmas.List.{length-map, map-append}
use Rattle.pgv_types.specs.Ty.{Ty}
use Rattle.pgv_types.specs.declared.oid.Oid.{Oid}
use Rattle.pgv_buf.specs.Tokens.{Token, byte, hole, slot, tokens_holes, tokens_slots, blank, plain, hole_count}
use Rattle.pgv_buf.specs.Blank.{plain-append, plain-blank}
use Rattle.pgv_buf.specs.Fill.{filled_cells}
use Rattle.pgv_buf.specs.Proper.{first_type, rest_of}
use Rattle.pgv_wire.specs.Arguments.{Argument, Framed, framed, all_cells, filled_arguments}
use Rattle.pgv_wire.specs.History.{blanks, LastFilling, with_added, with_filled, left_by, joined_frames, LeftBySome}
use Rattle.pgv_codec.specs.Encoding.{Encoding, Image, frame_of, frame}
use Rattle.pgv_codec.specs.PartBackLemmas.{frame_parts}
use Rattle.pgv_wire.specs.ArgumentParts.{AreImages, OfImages}

plain-filled : (ps : List Ty) (os : List Oid) (f : List Token) → plain (filled_cells ps os f) ≡ f
plain-filled ps os [] = refl
plain-filled ps os (byte x ∷ f) = ap (λ r. byte x ∷ r) (plain-filled ps os f)
plain-filled ps os (hole t ∷ f) = ap (λ r. hole t ∷ r) (plain-filled ps (rest_of os) f)
plain-filled ps os (slot d cs ∷ f) = ap (λ r. slot d cs ∷ r) (plain-filled (rest_of ps) os f)

pub framed-filled : (fs : List Framed) (ps : List Ty) (os : List Oid) → framed (filled_arguments fs ps os) ≡ fs
framed-filled [] ps os = refl
framed-filled (f ∷ fs) ps os =
    let n : ℕ = tokens_holes f.1 in
    ap (λ (t : List Token). (f.0, t) ∷ framed (filled_arguments fs (rest_of ps) (drop n os))) (plain-filled (replicate (tokens_slots f.1) (first_type ps)) (take n os) f.1)
    ∙ ap (λ (r : List Framed). (f.0, f.1) ∷ r) (framed-filled fs (rest_of ps) (drop n os))

pub framed-blanks : (fs : List Framed) → framed (blanks fs) ≡ fs
framed-blanks [] = refl
framed-blanks (f ∷ fs) = ap (λ (t : List Token). (f.0, t) ∷ framed (blanks fs)) (plain-blank f.1) ∙ ap (λ (r : List Framed). (f.0, f.1) ∷ r) (framed-blanks fs)

framed-stands : (a s : List Framed) (ps : List Ty) (os : List Oid) → framed (filled_arguments a ps os ++ blanks s) ≡ a ++ s
framed-stands a s ps os =
    map-append (λ (x : Argument). (x.0, plain x.1)) (filled_arguments a ps os) (blanks s)
    ∙ (ap (λ r. r ++ framed (blanks s)) (framed-filled a ps os) ∙ ap (λ r. a ++ r) (framed-blanks s))

pub joined-plain : (args : List Argument) → plain (all_cells args) ≡ joined_frames (framed args)
joined-plain [] = refl
joined-plain (a ∷ args) = plain-append a.1 (all_cells args) ∙ ap (λ (r : List Token). plain a.1 ++ r) (joined-plain args)

-- ---- what a filling and later additions leave

pub left-added : (args : List Argument) (h : LastFilling) (f : Framed) → args ≡ left_by h → args ++ (f.0, blank f.1) ∷ [] ≡ left_by (with_added h f)
left-added args h f e =
    let a : List Argument = filled_arguments h.filled h.types h.oids in
    ap (λ (r : List Argument). r ++ (f.0, blank f.1) ∷ []) e ∙ (append_assoc a (blanks h.since) ((f.0, blank f.1) ∷ []) ∙ ap (λ r. a ++ r) (sym (map-append (λ (x : Framed). (x.0, blank x.1)) h.since (f ∷ []))))

pub framed-left : (args : List Argument) (h : LastFilling) → args ≡ left_by h → framed args ≡ h.filled ++ h.since
framed-left args h e = ap framed e ∙ framed-stands h.filled h.since h.types h.oids

pub left-filled : (args : List Argument) (h : LastFilling) (ps : List Ty) (os : List Oid) → args ≡ left_by h → filled_arguments (framed args) ps os ≡ left_by (with_filled h ps os)
left-filled args h ps os e = ap (λ f. filled_arguments f ps os) (framed-left args h e) ∙ sym (append-nil (filled_arguments (h.filled ++ h.since) ps os))

-- one more after the others
pub left_more : (args : List Argument) (f : Framed) → LeftBySome args → LeftBySome (args ++ (f.0, blank f.1) ∷ [])
left_more args f l = (
  with_added l.0 f,
  record {
    arguments_are = left-added args l.0 f l.1.arguments_are;
    as_many_types = l.1.as_many_types;
    as_many_oids = l.1.as_many_oids;
  },
)

-- all filled
pub left_filled : (args : List Argument) (ps : List Ty) (os : List Oid) → length ps ≡ length args → length os ≡ hole_count (all_cells args) → LeftBySome args → LeftBySome (filled_arguments (framed args) ps os)
left_filled args ps os n m l =
    let fs : framed args ≡ l.0.filled ++ l.0.since = framed-left args l.0 l.1.arguments_are in (
      with_filled l.0 ps os,
      record {
        arguments_are = left-filled args l.0 ps os l.1.arguments_are;
        as_many_types = n ∙ (sym (length-map args (λ (x : Argument). (x.0, plain x.1))) ∙ ap length fs);
        as_many_oids = m ∙ ap tokens_holes (joined-plain args ∙ ap joined_frames fs);
      },
    )

-- ---- each is the frame of an image

-- a token list is the frame of an image
abbrev pub OfImage : List Token → Type 0
OfImage f = (i : Image) × ((frame_of i).answer ≡ Ok f)

-- the frame of a value is that of its image
pub of_image : (e : Encoding) (f : List Token) → (frame e).answer ≡ Ok f → OfImage f
of_image e f is = let p = frame_parts e f is in (p.0, p.2)

-- one more after the others
are-more : (is : List Image) (fs : List Framed) (i : Image) (f : Framed) → AreImages is fs → (frame_of i).answer ≡ Ok f.1 → AreImages (is ++ i ∷ []) (fs ++ f ∷ [])
are-more [] [] i f h e = (e, tt)
are-more [] (g ∷ fs) i f h e = absurd h
are-more (j ∷ is) [] i f h e = absurd h
are-more (j ∷ is) (g ∷ fs) i f h e = (h.0, are-more is fs i f h.1 e)

pub images_more : (args : List Argument) (f : Framed) → OfImages args → OfImage f.1 → OfImages (args ++ (f.0, blank f.1) ∷ [])
images_more args f h k = (
  h.0 ++ k.0 ∷ [],
  subst (λ (fs : List Framed). AreImages (h.0 ++ k.0 ∷ []) fs) (sym (map-append (λ (x : Argument). (x.0, plain x.1)) args ((f.0, blank f.1) ∷ []) ∙ ap (λ (r : List Framed). framed args ++ r) (framed-blanks (f ∷ []))))
      (are-more h.0 (framed args) k.0 f h.1 k.1),
)

-- a filling changes none
pub images_filled : (args : List Argument) (ps : List Ty) (os : List Oid) → OfImages args → OfImages (filled_arguments (framed args) ps os)
images_filled args ps os h = (h.0, subst (λ (fs : List Framed). AreImages h.0 fs) (sym (framed-filled (framed args) ps os)) h.1)
