-- What is written over bytes that stand, for the cells that are kept.
use Rattle.std.proofs.Common.{◌≡◌, ℕ, ◌+◌, ◌≤◌, Bool, true, false, if◌then◌else◌, List, [], ◌∷◌, ◌++◌, length, take, drop, drop_at, map, refl, sym, ◌∙◌, ap, subst, arith, append_assoc, length-append}
use Rattle.std.proofs.Math.Seq.{take-append_seam}
use Rattle.pgv_types.specs.Ty.{Ty}
use Rattle.pgv_types.specs.Relations.{softly}
use Rattle.pgv_types.specs.declared.oid.Oid.{Oid}
use Rattle.pgv_buf.specs.Tokens.{Token, byte, hole, slot, bytes, token_width, tokens_width, tokens_holes, Cell, fixed_bytes, plain, be4, shown, width, hole_count, CasesFit, chosen}
use Rattle.pgv_buf.specs.Blank.{plain-append}
use Rattle.pgv_buf.specs.Proper.{Proper, Proper-front, Proper-back, Proper-append, first_type, shown-append, length_of_shown, length_shown, width-append, rest_of}
use Rattle.pgv_buf.specs.Fill.{filled_cells}
use Rattle.pgv_buf.specs.Layout.{is_hole, is_slot, if_so, places, slots_of, Layout, layout_of, Represents}
use Rattle.pgv_buf.specs.Patches.{put, first_string, put_each, Within, numbers, choices}
use Rattle.pgv_buf.proofs.Layouts.{layout-append, with_more, wide}
use Rattle.pgv_buf.proofs.CellSteps.{shown-bytes, plain-bytes, Proper-bytes, bytes_alone}

pub put_at : (x y z w : List ℕ) → length y ≡ length w → put (length x) w (x ++ y ++ z) ≡ x ++ w ++ z
put_at x y z w e =
    let front : take (length x) (x ++ y ++ z) ≡ x = rw append_assoc (take-append_seam x (y ++ z)) in
    let back : drop (length x + length w) (x ++ y ++ z) ≡ z = drop_at (x ++ y) z (length x + length w) (omega (arith, length-append x y, e)) in
    rw (front, back)

-- ---- writing over the pieces of one sort

-- the widths of the pieces
abbrev widths : (Token → Bool) → List Token → List ℕ
widths is [] = []
widths is (t ∷ ts) = if_so (is t) (token_width t) ++ widths is ts

-- cells whose pieces show these strings
abbrev with_pieces : (Token → Bool) → List (List ℕ) → List Cell → List Cell
with_pieces is ws [] = []
with_pieces is ws (t ∷ ts) = (t.0, if is t.0 then first_string ws else t.1) ∷ with_pieces is (if is t.0 then rest_of ws else ws) ts

-- one cell, a piece or not, after bytes that stand already
one_written :
    (b : Bool) (before s : List ℕ) (is : Token → Bool) (ws : List (List ℕ)) (ts : List Cell) (n : ℕ) → length s ≡ n →
    map length ws ≡ if_so b n ++ widths is (plain ts) →
    ((front : List ℕ) (vs : List (List ℕ)) → map length vs ≡ widths is (plain ts) → put_each (places is (length front) (plain ts)) vs (front ++ shown ts) ≡ front ++ shown (with_pieces is vs ts)) →
    put_each (if_so b (length before) ++ places is (length before + n) (plain ts)) ws (before ++ (s ++ shown ts)) ≡ before ++ ((if b then first_string ws else s) ++ shown (with_pieces is (if b then rest_of ws else ws) ts))
one_written true before s is [] ts n e f rest = cc
one_written true before s is (w ∷ ws) ts n e f rest =
    let k : length w ≡ n = cc in
    let g : map length ws ≡ widths is (plain ts) = cc in
    let others : List ℕ = shown (with_pieces is ws ts) in
    let e1 : put (length before) w (before ++ (s ++ shown ts)) ≡ (before ++ w) ++ shown ts = rw (← append_assoc before s (shown ts)) (put_at before s (shown ts) w (e ∙ sym k)) in
    let h : put_each (places is (length (before ++ w)) (plain ts)) ws ((before ++ w) ++ shown ts) ≡ (before ++ w) ++ others = rest (before ++ w) ws g in
    let h' : put_each (places is (length before + n) (plain ts)) ws ((before ++ w) ++ shown ts) ≡ (before ++ w) ++ others = (rw (length-append before w, k) at h) in
    ap (λ z. put_each (places is (length before + n) (plain ts)) ws z) e1 ∙ (h' ∙ append_assoc before w others)
one_written false before s is ws ts n e f rest =
    let others : List ℕ = shown (with_pieces is ws ts) in
    let h : put_each (places is (length (before ++ s)) (plain ts)) ws ((before ++ s) ++ shown ts) ≡ (before ++ s) ++ others = rest (before ++ s) ws f in
    (rw (length-append before s, e, append_assoc before s (shown ts), append_assoc before s others) at h)

written-shown :
    (is : Token → Bool) (before : List ℕ) (ws : List (List ℕ)) (ts : List Cell) → map length ws ≡ widths is (plain ts) → Proper ts →
    put_each (places is (length before) (plain ts)) ws (before ++ shown ts) ≡ before ++ shown (with_pieces is ws ts)
written-shown is before ws [] f p = refl
written-shown is before ws (t ∷ ts) f p =
    one_written (is t.0) before t.1 is ws ts (token_width t.0) (length_of_shown t.0 t.1 p.0) f (λ front vs g. written-shown is front vs ts g p.1)

pieces_plain : (is : Token → Bool) (ws : List (List ℕ)) (ts : List Cell) → plain (with_pieces is ws ts) ≡ plain ts
pieces_plain is ws [] = refl
pieces_plain is ws (t ∷ ts) = ap (λ r. t.0 ∷ r) (pieces_plain is (if is t.0 then rest_of ws else ws) ts)

-- strings of the widths of the pieces are within the bytes
one_within :
    (b : Bool) (is : Token → Bool) (n i k : ℕ) (ws : List (List ℕ)) (ts : List Token) → map length ws ≡ if_so b k ++ widths is ts → i + k ≤ n →
    ((vs : List (List ℕ)) → map length vs ≡ widths is ts → Within n (places is (i + k) ts) vs) → Within n (if_so b i ++ places is (i + k) ts) ws
one_within true is n i k [] ts f h rest = absurd (cc)
one_within true is n i k (w ∷ ws) ts f h rest =
    let e : length w ≡ k = cc in
    (omega arith, rest ws (cc))
one_within false is n i k ws ts f h rest = rest ws f

within : (is : Token → Bool) (n i : ℕ) (ws : List (List ℕ)) (ts : List Token) → map length ws ≡ widths is ts → i + tokens_width ts ≤ n → Within n (places is i ts) ws
within is n i ws [] f h = tt
within is n i ws (t ∷ ts) f h =
    one_within (is t) is n i (token_width t) ws ts f (omega arith)
    (λ vs g. within is n (i + token_width t) vs ts g (omega arith))

-- ---- holes

numbers_fit : (os : List Oid) (ts : List Token) → length os ≡ tokens_holes ts → map length (numbers os) ≡ widths is_hole ts
numbers_fit [] [] h = refl
numbers_fit (o ∷ os) [] h = absurd (omega arith)
numbers_fit os (byte x ∷ ts) h = numbers_fit os ts h
numbers_fit [] (hole t ∷ ts) h = absurd (omega arith)
numbers_fit (o ∷ os) (hole t ∷ ts) h = ap (λ r. 4 ∷ r) (numbers_fit os ts (omega arith))
numbers_fit os (slot d cs ∷ ts) h = numbers_fit os ts h

holes_proper : (ws : List (List ℕ)) (ts : List Cell) → map length ws ≡ widths is_hole (plain ts) → Proper ts → Proper (with_pieces is_hole ws ts)
holes_proper ws [] f p = tt
holes_proper ws ((byte x, s) ∷ ts) f p = (p.0, holes_proper ws ts f p.1)
holes_proper [] ((hole t, s) ∷ ts) f p = absurd cc
holes_proper (w ∷ ws) ((hole t, s) ∷ ts) f p = (cc, holes_proper ws ts (cc) p.1)
holes_proper ws ((slot d cs, s) ∷ ts) f p = (p.0, holes_proper ws ts f p.1)

pub holes_filled :
    {ts : List Cell} {b : List ℕ} {l : Layout} → Represents ts b l →
    (os : List Oid) → length os ≡ hole_count ts → (b' : List ℕ) → b' ≡ put_each l.holes (numbers os) b → Represents (with_pieces is_hole (numbers os) ts) b' l
holes_filled {ts} {b} {l} r os n b' e =
    let fit = numbers_fit os (plain ts) n in
    record {
      bytes_are = e ∙ rw (r.layout_is, r.bytes_are) (written-shown is_hole [] (numbers os) ts fit r.proper);
      layout_is = r.layout_is ∙ ap layout_of (sym (pieces_plain is_hole (numbers os) ts));
      proper = holes_proper (numbers os) ts fit r.proper;
    }

pub holes_within :
    {ts : List Cell} {b : List ℕ} {l : Layout} → Represents ts b l →
    (os : List Oid) → length os ≡ hole_count ts → Within (length b) l.holes (numbers os)
holes_within {ts} {b} {l} r os n =
    rw r.layout_is (within is_hole (length b) 0 (numbers os) (plain ts) (numbers_fit os (plain ts) n) (omega (arith, wide r)))

-- ---- slots

pub chosen_fits : (p : Ty) (d : List ℕ) (cs : List (Ty × List ℕ)) → CasesFit (length d) cs → length (chosen p d cs) ≡ length d
chosen_fits p d [] h = refl
chosen_fits p d (c ∷ cs) h =
    elim (softly c.0 p) as (λ b. length (if b then c.1 else chosen p d cs) ≡ length d) [ true ↦ h.0 | false ↦ chosen_fits p d cs h.1 ]

choices_fit : (ps : List Ty) (ts : List Cell) → Proper ts → map length (choices ps (slots_of (plain ts))) ≡ widths is_slot (plain ts)
choices_fit ps [] p = refl
choices_fit ps ((byte x, s) ∷ ts) p = choices_fit ps ts p.1
choices_fit ps ((hole t, s) ∷ ts) p = choices_fit ps ts p.1
choices_fit ps ((slot d cs, s) ∷ ts) p =
    ap (λ n. n ∷ map length (choices (rest_of ps) (slots_of (plain ts)))) (chosen_fits (first_type ps) d cs p.0.1)
    ∙ ap (λ r. length d ∷ r) (choices_fit (rest_of ps) ts p.1)

slots_proper : (ws : List (List ℕ)) (ts : List Cell) → map length ws ≡ widths is_slot (plain ts) → Proper ts → Proper (with_pieces is_slot ws ts)
slots_proper ws [] f p = tt
slots_proper ws ((byte x, s) ∷ ts) f p = (p.0, slots_proper ws ts f p.1)
slots_proper ws ((hole t, s) ∷ ts) f p = (p.0, slots_proper ws ts f p.1)
slots_proper [] ((slot d cs, s) ∷ ts) f p = absurd cc
slots_proper (w ∷ ws) ((slot d cs, s) ∷ ts) f p = ((cc, p.0.1), slots_proper ws ts (cc) p.1)

slots_filled :
    {ts : List Cell} {b : List ℕ} {l : Layout} → Represents ts b l →
    (ps : List Ty) (b' : List ℕ) → b' ≡ put_each l.slot_places (choices ps l.slots) b → Represents (with_pieces is_slot (choices ps (slots_of (plain ts))) ts) b' l
slots_filled {ts} {b} {l} r ps b' e =
    let ws = choices ps (slots_of (plain ts)) in
    let fit = choices_fit ps ts r.proper in
    record {
      bytes_are = e ∙ rw (r.layout_is, r.bytes_are) (written-shown is_slot [] ws ts fit r.proper);
      layout_is = r.layout_is ∙ ap layout_of (sym (pieces_plain is_slot ws ts));
      proper = slots_proper ws ts fit r.proper;
    }

pub slots_within : {ts : List Cell} {b : List ℕ} {l : Layout} → Represents ts b l → (ps : List Ty) → Within (length b) l.slot_places (choices ps l.slots)
slots_within {ts} {b} {l} r ps =
    rw r.layout_is (within is_slot (length b) 0 (choices ps (slots_of (plain ts))) (plain ts) (choices_fit ps ts r.proper) (omega (arith, wide r)))

-- ---- all of them

both_shown : (ps : List Ty) (os : List Oid) (ts : List Cell) → Proper ts → length os ≡ hole_count ts →
    with_pieces is_slot (choices ps (slots_of (plain ts))) (with_pieces is_hole (numbers os) ts) ≡ filled_cells ps os (plain ts)
both_shown ps os [] p n = refl
both_shown ps os ((byte x, s) ∷ ts) p n = rw p.0 (ap (λ (r : List Cell). (byte x, x ∷ []) ∷ r) (both_shown ps os ts p.1 n))
both_shown ps [] ((hole t, s) ∷ ts) p n = absurd (omega arith)
both_shown ps (o ∷ os) ((hole t, s) ∷ ts) p n = ap (λ (r : List Cell). (hole t, be4 o.0) ∷ r) (both_shown ps os ts p.1 (omega arith))
both_shown ps os ((slot d cs, s) ∷ ts) p n = ap (λ (r : List Cell). (slot d cs, chosen (first_type ps) d cs) ∷ r) (both_shown (rest_of ps) os ts p.1 n)

pub all_filled :
    {ts : List Cell} {b : List ℕ} {l : Layout} → Represents ts b l →
    (ps : List Ty) (os : List Oid) → length os ≡ hole_count ts → (b' b'' : List ℕ) → b' ≡ put_each l.holes (numbers os) b → b'' ≡ put_each l.slot_places (choices ps l.slots) b' →
    Represents (filled_cells ps os (plain ts)) b'' l
all_filled {ts} {b} {l} r ps os n b' b'' e f =
    let slots : slots_of (plain (with_pieces is_hole (numbers os) ts)) ≡ slots_of (plain ts) = ap slots_of (pieces_plain is_hole (numbers os) ts) in
    subst (λ us. Represents us b'' l)
    (ap (λ ks. with_pieces is_slot (choices ps ks) (with_pieces is_hole (numbers os) ts)) slots ∙ both_shown ps os ts r.proper n)
    (slots_filled (holes_filled r os n b' e) ps b'' f)

-- ---- four bytes in place of four

-- bytes of one number between two lists of cells are kept as well as others
between : (front : List Cell) (xs : List ℕ) (rest : List Cell) → layout_of (plain (front ++ (fixed_bytes xs ++ rest))) ≡ with_more (layout_of (plain front)) (width front + length xs) (plain rest)
between front xs rest =
    let p : plain (front ++ (fixed_bytes xs ++ rest)) ≡ (plain front ++ bytes xs) ++ plain rest =
    plain-append front (fixed_bytes xs ++ rest) ∙ (ap (λ r. plain front ++ r) (plain-append (fixed_bytes xs) rest ∙ ap (λ r. r ++ plain rest) (plain-bytes xs)) ∙ sym (append_assoc (plain front) (bytes xs) (plain rest))) in
    let l : layout_of (plain front ++ bytes xs) ≡ layout_of (plain front) = layout-append (plain front) (bytes xs) ∙ bytes_alone (layout_of (plain front)) (tokens_width (plain front)) xs in
    let n : tokens_width (plain front ++ bytes xs) ≡ width front + length xs = tokens_width-append (plain front) xs in
    ap layout_of p ∙ (layout-append (plain front ++ bytes xs) (plain rest) ∙ (ap (λ k. with_more k (tokens_width (plain front ++ bytes xs)) (plain rest)) l ∙ ap (λ k. with_more (layout_of (plain front)) k (plain rest)) n))
  where
    tokens_width-append : (a : List Token) (xs : List ℕ) → tokens_width (a ++ bytes xs) ≡ tokens_width a + length xs
    tokens_width-append [] [] = refl
    tokens_width-append [] (x ∷ xs) = omega (arith, tokens_width-append [] xs)
    tokens_width-append (t ∷ a) xs = omega (arith, tokens_width-append a xs)

pub replaced :
    {b : List ℕ} {l : Layout} (front : List Cell) (xs ys : List ℕ) (rest : List Cell) →
    Represents (front ++ fixed_bytes xs ++ rest) b l → length xs ≡ length ys →
    (b' : List ℕ) → b' ≡ put (width front) ys b → Represents (front ++ fixed_bytes ys ++ rest) b' l
replaced {b} {l} front xs ys rest r0 e b' f =
    let r : Represents (front ++ (fixed_bytes xs ++ rest)) b l = subst (λ us. Represents us b l) (append_assoc front (fixed_bytes xs) rest) r0 in
    let w : width front ≡ length (shown front) = sym (length_shown front (Proper-front front (fixed_bytes xs ++ rest) r.proper)) in
    let was : b ≡ shown front ++ xs ++ shown rest =
    r.bytes_are ∙ (shown-append front (fixed_bytes xs ++ rest) ∙ (ap (λ z. shown front ++ z) (shown-append (fixed_bytes xs) rest ∙ ap (λ z. z ++ shown rest) (shown-bytes xs)) ∙ sym (append_assoc (shown front) xs (shown rest)))) in
    let is : shown (front ++ (fixed_bytes ys ++ rest)) ≡ shown front ++ ys ++ shown rest =
    shown-append front (fixed_bytes ys ++ rest) ∙ (ap (λ z. shown front ++ z) (shown-append (fixed_bytes ys) rest ∙ ap (λ z. z ++ shown rest) (shown-bytes ys)) ∙ sym (append_assoc (shown front) ys (shown rest))) in
    subst (λ us. Represents us b' l) (sym (append_assoc front (fixed_bytes ys) rest)) (record {
      bytes_are = f ∙ (rw (w, was) (put_at (shown front) xs (shown rest) ys e) ∙ sym is);
      layout_is = r.layout_is ∙ (between front xs rest ∙ (ap (λ n. with_more (layout_of (plain front)) (width front + n) (plain rest)) e ∙ sym (between front ys rest)));
      proper = Proper-append front (fixed_bytes ys ++ rest) (Proper-front front (fixed_bytes xs ++ rest) r.proper) (Proper-append (fixed_bytes ys) rest (Proper-bytes ys) (Proper-back (fixed_bytes xs) rest (Proper-back front (fixed_bytes xs ++ rest) r.proper)));
    })

width-bytes : (xs : List ℕ) → width (fixed_bytes xs) ≡ length xs
width-bytes [] = refl
width-bytes (x ∷ xs) = omega (arith, width-bytes xs)

-- four bytes stand after the front
pub room :
    {b : List ℕ} {l : Layout} (front : List Cell) (xs : List ℕ) (rest : List Cell) →
    Represents (front ++ fixed_bytes xs ++ rest) b l → length xs ≡ 4 → width front + 4 ≤ length b
room front xs rest r e =
    omega (arith, wide r, width-append (front ++ fixed_bytes xs) rest, width-append front (fixed_bytes xs), width-bytes xs)
