-- Frames of images one after another are separated by their lengths.
use Rattle.std.proofs.Common.{◌≡◌, ℕ, ◌+◌, ◌-◌, ◌≤◌, ◌<◌, ◌^◌, nat_le, nat_eq, true, false, arith, List, [], ◌∷◌, ◌++◌, Ok, refl, sym, ◌∙◌, ap, subst}
use Rattle.std.specs.Prelude.{⊤}
use Rattle.std.proofs.lemmas.Bool.{le-leb, ne_eqb}
use Rattle.std.proofs.lemmas.Nat.{from_be_bytes-to_be_bytes_4}
use Rattle.pgv_buf.specs.Tokens.{Token, byte, hole, slot, bytes, be4, token_width, tokens_width, Cell, plain, width}
use Rattle.pgv_buf.specs.Blank.{plain-append}
use Rattle.pgv_wire.specs.Arguments.{Argument, framed, all_cells, types_in}
use Rattle.pgv_codec.specs.Encoding.{Image, null_image, image_of, frame_of}
use Rattle.pgv_codec.specs.PartBackLemmas.{image_parts}
use Rattle.pgv_value.proofs.Outcomes.{answer_is}
use Rattle.pgv_wire.specs.ArgumentParts.{AreImages}
use Rattle.pgv_wire.specs.Split.{as_wide, after_wide, bytes_by_length, frame_width, split}

-- ---- how a frame begins

-- the image's width is small enough, and its frame is its width and its tokens
pub cut : (ts us : List Token) → (frame_of (image_of ts)).answer ≡ Ok us → (tokens_width ts ≤ 2147483647) × (us ≡ bytes (be4 (tokens_width ts)) ++ ts)
cut ts us e = let g = image_parts ts us e in (g.0, sym g.1)

-- tokens that begin with a length, which says how wide they are
record Headed (c : List Token) : Type 0 where
  number : ℕ
  tokens : List Token
  whole : c ≡ bytes (be4 number) ++ tokens
  fits : number < 2 ^ 32
  wide : bytes_by_length number ≡ 4 + tokens_width tokens

headed : (i : Image) (c : List Token) → (frame_of i).answer ≡ Ok c → Headed c
headed null_image c e = record { number = 4294967295; tokens = []; whole = sym (answer_is (bytes (be4 4294967295)) c e); fits = omega arith; wide = refl }
headed (image_of ts) c e =
    let k = cut ts c e in
    let other : nat_eq (tokens_width ts) 4294967295 ≡ false = ne_eqb (tokens_width ts) 4294967295 (λ same. omega (arith, k.0, same)) in
    record { number = tokens_width ts; tokens = ts; whole = k.1; fits = omega (arith, k.0); wide = rw other refl }

four : (n : ℕ) (c : List Token) → 4 + tokens_width c ≡ tokens_width (bytes (be4 n) ++ c)
four n c = omega arith

width_found : (c d : List Token) → Headed c → frame_width (c ++ d) ≡ tokens_width c
width_found c d h =
    ap (λ (r : List Token). frame_width (r ++ d)) h.whole
    ∙ (ap bytes_by_length (from_be_bytes-to_be_bytes_4 h.number h.fits) ∙ (h.wide ∙ (four h.number h.tokens ∙ sym (ap tokens_width h.whole))))

-- ---- telling apart

-- nothing, or a byte in front
abbrev Begins : List Token → Type 0
Begins [] = ⊤
Begins (byte x ∷ ts) = ⊤
Begins (hole t ∷ ts) = ⊥
Begins (slot d cs ∷ ts) = ⊥

begins : (args : List Argument) (is : List Image) → AreImages is (framed args) → Begins (plain (all_cells args))
begins [] is h = tt
begins (a ∷ args) [] h = absurd h
begins (a ∷ args) (i ∷ is) h =
    let k = headed i (plain a.1) h.0 in
    subst Begins (sym (plain-append a.1 (all_cells args))) (subst (λ (r : List Token). Begins (r ++ plain (all_cells args))) (sym k.whole) tt)

first_is : (a c : List Cell) (w : ℕ) → w ≡ width a → Begins (plain c) → as_wide w (a ++ c) ≡ a
first_is [] [] w e b = refl
first_is [] ((byte x, s) ∷ c) w e b = rw e refl
first_is [] ((hole t, s) ∷ c) w e b = absurd b
first_is [] ((slot d cs, s) ∷ c) w e b = absurd b
first_is (t ∷ a) c w e b =
    let there : nat_le (token_width t.0) w ≡ true = le-leb _ _ (omega (arith, e)) in
    rw there (ap (λ (r : List Cell). t ∷ r) (first_is a c (w - token_width t.0) (omega (arith, e)) b))

others_are : (a c : List Cell) (w : ℕ) → w ≡ width a → Begins (plain c) → after_wide w (a ++ c) ≡ c
others_are [] [] w e b = refl
others_are [] ((byte x, s) ∷ c) w e b = rw e refl
others_are [] ((hole t, s) ∷ c) w e b = absurd b
others_are [] ((slot d cs, s) ∷ c) w e b = absurd b
others_are (t ∷ a) c w e b =
    let there : nat_le (token_width t.0) w ≡ true = le-leb _ _ (omega (arith, e)) in
    rw there (others_are a c (w - token_width t.0) (omega (arith, e)) b)

pub split_back : (args : List Argument) (is : List Image) → AreImages is (framed args) → split (types_in args) (all_cells args) ≡ args
split_back [] is h = refl
split_back (a ∷ args) [] h = absurd h
split_back (a ∷ args) (i ∷ is) h =
    let w : frame_width (plain (a.1 ++ all_cells args)) ≡ width a.1 =
    ap frame_width (plain-append a.1 (all_cells args)) ∙ width_found (plain a.1) (plain (all_cells args)) (headed i (plain a.1) h.0) in
    let b : Begins (plain (all_cells args)) = begins args is h.1 in
    rw (first_is a.1 (all_cells args) _ w b, others_are a.1 (all_cells args) _ w b)
    (ap (λ (r : List Argument). (a.0, a.1) ∷ r) (split_back args is h.1))
