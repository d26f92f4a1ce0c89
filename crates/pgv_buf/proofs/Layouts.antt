-- Cells and how they are kept: only these cells are kept so, and what joining and cutting them leaves.
use Rattle.std.proofs.Common.{◌≡◌, ℕ, ◌+◌, ◌≤◌, ◌<◌, ◌==◌, suc, zero, Bool, true, false, List, [], ◌∷◌, ◌++◌, length, take, refl, sym, ◌∙◌, ap, subst, arith, length-append, append_assoc, add-zero, zero-add}
use Rattle.std.proofs.lemmas.Bool.{eq-eqb}
use Rattle.std.proofs.lemmas.List.{length-map, take_at, drop_at}
use Rattle.pgv_types.specs.Ty.{Ty}
use Rattle.pgv_buf.specs.Tokens.{token_width, tokens_hole_types, tokens_holes, tokens_slots, Token, byte, hole, slot, tokens_width, Cell, plain, shown, width, hole_count, slot_count}
use Rattle.pgv_buf.specs.Blank.{plain-append}
use Rattle.pgv_buf.specs.Proper.{Proper, Proper-append, Proper-front, shown-append, length_of_shown, length_shown, length-hole_types, length-hole_types_of}
use Rattle.pgv_buf.specs.Layout.{is_hole, is_slot, if_so, places, last_from, Kept, slots_of, Layout, layout_of, first_at, parse_cells, cells_of, Represents, Valid}

-- ---- places

places-append : (is : Token → Bool) (i : ℕ) (a c : List Token) → places is i (a ++ c) ≡ places is i a ++ places is (i + tokens_width a) c
places-append is i [] c = rw add-zero
places-append is i (t ∷ a) c =
    let e : (i + token_width t) + tokens_width a ≡ i + tokens_width (t ∷ a) = omega arith in
    ap (λ r. if_so (is t) i ++ r) (places-append is (i + token_width t) a c ∙ ap (λ n. places is (i + token_width t) a ++ places is n c) e)
    ∙ sym (append_assoc (if_so (is t) i) (places is (i + token_width t) a) (places is (i + tokens_width (t ∷ a)) c))

-- the last place is before the end
pub last_before : (is : Token → Bool) (q i : ℕ) (ts : List Token) → q ≤ i → last_from q (places is i ts) ≤ i + tokens_width ts
last_before is q i [] h = omega arith
last_before is q i (t ∷ ts) h =
    elim (is t) as (λ b. last_from q (if_so b i ++ places is (i + token_width t) ts) ≤ i + tokens_width (t ∷ ts)) [
      | true ↦ omega (arith, last_before is i (i + token_width t) ts (omega arith))
      | false ↦ omega (arith, last_before is q (i + token_width t) ts (omega arith))
    ]

-- no piece is at i where the tokens begin later
none_at : (is : Token → Bool) (i j : ℕ) (ts : List Token) → i < j → first_at i (places is j ts) ≡ false
none_at is i j [] h = refl
none_at is i j (t ∷ ts) h =
    elim (is t) as (λ b. first_at i (if_so b j ++ places is (j + token_width t) ts) ≡ false) [
      | true ↦ later i j h
      | false ↦ none_at is i (j + token_width t) ts (omega arith)
    ]
  where
    later : (i j : ℕ) → i < j → (j == i) ≡ false
    later i j h = grind arith

pub length-holes : (i : ℕ) (ts : List Token) → length (places is_hole i ts) ≡ tokens_holes ts
length-holes i [] = refl
length-holes i (byte x ∷ ts) = length-holes (i + 1) ts
length-holes i (hole t ∷ ts) = omega (arith, length-holes (i + 4) ts)
length-holes i (slot d cs ∷ ts) = length-holes (i + length d) ts

pub length-slot_places : (i : ℕ) (ts : List Token) → length (places is_slot i ts) ≡ tokens_slots ts
length-slot_places i [] = refl
length-slot_places i (byte x ∷ ts) = length-slot_places (i + 1) ts
length-slot_places i (hole t ∷ ts) = length-slot_places (i + 4) ts
length-slot_places i (slot d cs ∷ ts) = omega (arith, length-slot_places (i + length d) ts)

-- ---- types and slots

types-append : (a c : List Token) → tokens_hole_types (a ++ c) ≡ tokens_hole_types a ++ tokens_hole_types c
types-append [] c = refl
types-append (byte x ∷ a) c = types-append a c
types-append (hole t ∷ a) c = ap (λ r. t ∷ r) (types-append a c)
types-append (slot d cs ∷ a) c = types-append a c

slots-append : (a c : List Token) → slots_of (a ++ c) ≡ slots_of a ++ slots_of c
slots-append [] c = refl
slots-append (byte x ∷ a) c = slots-append a c
slots-append (hole t ∷ a) c = slots-append a c
slots-append (slot d cs ∷ a) c = ap (λ r. record { standard = d; cases = cs } ∷ r) (slots-append a c)

pub length-slots : (ts : List Token) → length (slots_of ts) ≡ tokens_slots ts
length-slots [] = refl
length-slots (byte x ∷ ts) = length-slots ts
length-slots (hole t ∷ ts) = length-slots ts
length-slots (slot d cs ∷ ts) = omega (arith, length-slots ts)

-- ---- layouts

pub same_layout : {ps ps' qs qs' : List ℕ} {hs hs' : List Ty} {ks ks' : List Kept} → ps ≡ ps' → hs ≡ hs' → qs ≡ qs' → ks ≡ ks' →
    ◌≡◌ {A = Layout} (record { holes = ps; types = hs; slot_places = qs; slots = ks }) (record { holes = ps'; types = hs'; slot_places = qs'; slots = ks' })
same_layout e f g h = cc

-- one layout and then that of tokens that begin at n
abbrev pub with_more : Layout → ℕ → List Token → Layout
with_more l n c = record { holes = l.holes ++ places is_hole n c; types = l.types ++ tokens_hole_types c; slot_places = l.slot_places ++ places is_slot n c; slots = l.slots ++ slots_of c }

pub layout-append : (a c : List Token) → layout_of (a ++ c) ≡ with_more (layout_of a) (tokens_width a) c
layout-append a c =
    same_layout
    (places-append is_hole 0 a c ∙ ap (λ n. places is_hole 0 a ++ places is_hole n c) (zero-add (tokens_width a)))
    (types-append a c)
    (places-append is_slot 0 a c ∙ ap (λ n. places is_slot 0 a ++ places is_slot n c) (zero-add (tokens_width a)))
    (slots-append a c)

-- ---- only these cells are kept so

parsed : (n i : ℕ) (ts : List Cell) → Proper ts → length ts ≤ n → parse_cells n i (shown ts) (places is_hole i (plain ts)) (tokens_hole_types (plain ts)) (places is_slot i (plain ts)) (slots_of (plain ts)) ≡ ts
parsed zero i [] p h = refl
parsed zero i (t ∷ ts) p h = absurd (omega arith)
parsed (suc n) i [] p h = refl
parsed (suc n) i ((byte x, s) ∷ ts) p h =
    rw (p.0, none_at is_slot i (i + 1) (plain ts) (omega arith), none_at is_hole i (i + 1) (plain ts) (omega arith)) (ap (λ (r : List Cell). (byte x, x ∷ []) ∷ r) (parsed n (i + 1) ts p.1 (omega arith)))
parsed (suc n) i ((hole t, s) ∷ ts) p h =
    rw (none_at is_slot i (i + 4) (plain ts) (omega arith), eq-eqb i i refl, take_at s (shown ts) 4 p.0, drop_at s (shown ts) 4 p.0)
    (ap (λ (r : List Cell). (hole t, s) ∷ r) (parsed n (i + 4) ts p.1 (omega arith)))
parsed (suc n) i ((slot d cs, s) ∷ ts) p h =
    rw (eq-eqb i i refl, take_at s (shown ts) (length d) p.0.0, drop_at s (shown ts) (length d) p.0.0)
    (ap (λ (r : List Cell). (slot d cs, s) ∷ r) (parsed n (i + length d) ts p.1 (omega arith)))

steps_fit : (i : ℕ) (ts : List Cell) → Proper ts → length ts ≤ length (shown ts) + length (places is_hole i (plain ts)) + length (places is_slot i (plain ts))
steps_fit i [] p = omega arith
steps_fit i ((byte x, s) ∷ ts) p = omega (arith, steps_fit (i + 1) ts p.1, length-append s (shown ts), length_of_shown (byte x) s p.0)
steps_fit i ((hole t, s) ∷ ts) p = omega (arith, steps_fit (i + 4) ts p.1, length-append s (shown ts))
steps_fit i ((slot d cs, s) ∷ ts) p = omega (arith, steps_fit (i + length d) ts p.1, length-append s (shown ts))

cells_of-kept : (ts : List Cell) → Proper ts → cells_of (shown ts) (layout_of (plain ts)) ≡ ts
unfolding cells_of
cells_of-kept ts p = parsed (length (shown ts) + length (places is_hole 0 (plain ts)) + length (places is_slot 0 (plain ts))) 0 ts p (steps_fit 0 ts p)

pub cells_are : {ts : List Cell} {b : List ℕ} {l : Layout} → Represents ts b l → cells_of b l ≡ ts
cells_are {ts} r = rw (r.bytes_are, r.layout_is) (cells_of-kept ts r.proper)

pub valid : {ts : List Cell} {b : List ℕ} {l : Layout} → Represents ts b l → Valid b l
valid {ts} {b} {l} r = subst (λ us. Represents us b l) (sym (cells_are r)) r

pub held : {b : List ℕ} {l : Layout} (ts : List Cell) → Valid b l → cells_of b l ≡ ts → Represents ts b l
held {b} {l} ts v e = subst (λ us. Represents us b l) e v

-- ---- joining and cutting

pub wide : {ts : List Cell} {b : List ℕ} {l : Layout} → Represents ts b l → length b ≡ width ts
wide {ts} r = ap length r.bytes_are ∙ length_shown ts r.proper

pub joined : {a : List Cell} {b : List ℕ} {l : Layout} → Represents a b l → (c : List Cell) → Proper c → Represents (a ++ c) (b ++ shown c) (with_more l (length b) (plain c))
joined {a} {b} {l} r c q =
    let n : tokens_width (plain a) ≡ length b = sym (wide r) in
    let k : with_more (layout_of (plain a)) (tokens_width (plain a)) (plain c) ≡ layout_of (plain (a ++ c)) =
    sym (ap layout_of (plain-append a c) ∙ layout-append (plain a) (plain c)) in
    record {
      bytes_are = rw (shown-append a c, r.bytes_are);
      layout_is = ap (λ m. with_more m (length b) (plain c)) r.layout_is ∙ (ap (λ m. with_more (layout_of (plain a)) m (plain c)) (sym n) ∙ k);
      proper = Proper-append a c r.proper q;
    }

abbrev pub cut_layout : ℕ → ℕ → Layout → Layout
cut_layout h s l = record { holes = take h l.holes; types = take h l.types; slot_places = take s l.slot_places; slots = take s l.slots }

pub cut : {b : List ℕ} {l : Layout} (a c : List Cell) → Represents (a ++ c) b l → Represents a (take (width a) b) (cut_layout (hole_count a) (slot_count a) l)
cut {b} {l} a c r =
    let e : l ≡ with_more (layout_of (plain a)) (tokens_width (plain a)) (plain c) = r.layout_is ∙ (ap layout_of (plain-append a c) ∙ layout-append (plain a) (plain c)) in
    record {
      bytes_are = rw (r.bytes_are, shown-append a c) (take_at (shown a) (shown c) (width a) (length_shown a (Proper-front a c r.proper)));
      layout_is =
          ap (λ m. cut_layout (hole_count a) (slot_count a) m) e
          ∙ same_layout
          (take_at (places is_hole 0 (plain a)) (places is_hole (tokens_width (plain a)) (plain c)) (hole_count a) (length-holes 0 (plain a)))
          (take_at (tokens_hole_types (plain a)) (tokens_hole_types (plain c)) (hole_count a) (length-hole_types (plain a)))
          (take_at (places is_slot 0 (plain a)) (places is_slot (tokens_width (plain a)) (plain c)) (slot_count a) (length-slot_places 0 (plain a)))
          (take_at (slots_of (plain a)) (slots_of (plain c)) (slot_count a) (length-slots (plain a)));
      proper = Proper-front a c r.proper;
    }

pub ruleset lengths = (length-slots, length-hole_types_of, length-map)
