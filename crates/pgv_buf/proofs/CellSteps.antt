-- What each call leaves, for the cells that are kept, and a clone.
use Rattle.std.proofs.Common.{◌≡◌, ℕ, Bool, false, ◌+◌, ◌≤◌, List, [], ◌∷◌, ◌++◌, length, take, refl, sym, ◌∙◌, ap, subst, arith, append-nil, length-take, map}
use Rattle.std.specs.List.{AllZip}
use Rattle.std.specs.declared.vec.Vec.{Vec}
use Rattle.std.specs.declared.alloc.Global.{Global}
use Rattle.pgv_types.specs.Ty.{Ty}
use Rattle.pgv_buf.specs.CasesView.{cases_of}
use Rattle.pgv_buf.specs.declared.mark.Mark.{Mark}
use Rattle.pgv_buf.specs.declared.fill.Slot.{Slot}
use Rattle.pgv_buf.specs.TokensView.{kept_of}
use Rattle.pgv_buf.specs.Tokens.{tokens_hole_types, byte, bytes, Token, Cell, fixed_bytes, plain, shown, blank_cell, hole, slot, CasesFit}
use Rattle.pgv_buf.specs.Blank.{plain-blank}
use Rattle.pgv_buf.specs.Marks.{mark_of}
use Rattle.pgv_buf.specs.Proper.{Proper}
use Rattle.pgv_buf.specs.Layout.{is_hole, is_slot, places, last_from, Kept, slots_of, Layout, Represents, Valid, cells_of}
use Rattle.pgv_buf.proofs.Layouts.{joined, cells_are, valid, cut, cut_layout, same_layout, last_before, wide, with_more, length-holes, length-slot_places}

pub none_kept : Represents [] [] (record { holes = []; types = []; slot_places = []; slots = [] })
none_kept = record { bytes_are = refl; layout_is = refl; proper = tt }

pub shown-bytes : (xs : List ℕ) → shown (fixed_bytes xs) ≡ xs
shown-bytes [] = refl
shown-bytes (x ∷ xs) = ap (λ r. x ∷ r) (shown-bytes xs)

pub plain-bytes : (xs : List ℕ) → plain (fixed_bytes xs) ≡ bytes xs
plain-bytes xs = plain-blank (bytes xs)

pub Proper-bytes : (xs : List ℕ) → Proper (fixed_bytes xs)
Proper-bytes [] = tt
Proper-bytes (x ∷ xs) = (refl, Proper-bytes xs)

no_places : (is : Token → Bool) → ((x : ℕ) → is (byte x) ≡ false) → (i : ℕ) (xs : List ℕ) → places is i (bytes xs) ≡ []
no_places is h i [] = refl
no_places is h i (x ∷ xs) = rw (h x) (no_places is h (i + 1) xs)

no_types : (xs : List ℕ) → tokens_hole_types (bytes xs) ≡ []
no_types [] = refl
no_types (x ∷ xs) = no_types xs

no_slots : (xs : List ℕ) → slots_of (bytes xs) ≡ []
no_slots [] = refl
no_slots (x ∷ xs) = no_slots xs

-- bytes are kept nowhere else
pub bytes_alone : (l : Layout) (n : ℕ) (xs : List ℕ) → with_more l n (bytes xs) ≡ l
bytes_alone l n xs =
    same_layout
    (rw (no_places is_hole (λ x. refl) n xs) (append-nil l.holes))
    (rw (no_types xs) (append-nil l.types))
    (rw (no_places is_slot (λ x. refl) n xs) (append-nil l.slot_places))
    (rw (no_slots xs) (append-nil l.slots))

pub bytes_joined : {ts : List Cell} {b : List ℕ} {l : Layout} → Represents ts b l → (xs b' : List ℕ) → b' ≡ b ++ xs → Represents (ts ++ fixed_bytes xs) b' l
bytes_joined {ts} {b} {l} r xs b' e =
    let j = joined r (fixed_bytes xs) (Proper-bytes xs) in
    record {
      bytes_are = e ∙ (ap (λ r. b ++ r) (sym (shown-bytes xs)) ∙ j.bytes_are);
      layout_is = sym (ap (λ c. with_more l (length b) c) (plain-bytes xs) ∙ bytes_alone l (length b) xs) ∙ j.layout_is;
      proper = j.proper;
    }

-- a hole, or a slot, at the end of the bytes is after those before
pub holes_before : {ts : List Cell} {b : List ℕ} {l : Layout} → Represents ts b l → last_from 0 l.holes ≤ length b
holes_before {ts} {b} {l} r =
    let e : last_from 0 l.holes ≡ last_from 0 (places is_hole 0 (plain ts)) = ap (λ (m : Layout). last_from 0 m.holes) r.layout_is in
    omega (arith, e, wide r, last_before is_hole 0 0 (plain ts) (omega arith))

pub slots_before : {ts : List Cell} {b : List ℕ} {l : Layout} → Represents ts b l → last_from 0 l.slot_places ≤ length b
slots_before {ts} {b} {l} r =
    let e : last_from 0 l.slot_places ≡ last_from 0 (places is_slot 0 (plain ts)) = ap (λ (m : Layout). last_from 0 m.slot_places) r.layout_is in
    omega (arith, e, wide r, last_before is_slot 0 0 (plain ts) (omega arith))

pub hole_joined :
    {ts : List Cell} {b : List ℕ} {l : Layout} → Represents ts b l →
    (t : Ty) (b' ps' : List ℕ) (hs' : List Ty) → b' ≡ b ++ 0 ∷ 0 ∷ 0 ∷ 0 ∷ [] → ps' ≡ l.holes ++ length b ∷ [] → hs' ≡ l.types ++ t ∷ [] →
    Represents (ts ++ blank_cell (hole t) ∷ []) b' (record { holes = ps'; types = hs'; slot_places = l.slot_places; slots = l.slots })
hole_joined {ts} {b} {l} r t b' ps' hs' e f g =
    let j = joined r (blank_cell (hole t) ∷ []) (refl, tt) in
    record {
      bytes_are = e ∙ j.bytes_are;
      layout_is = same_layout f g (sym (append-nil l.slot_places)) (sym (append-nil l.slots)) ∙ j.layout_is;
      proper = j.proper;
    }

pub slot_joined :
    {ts : List Cell} {b : List ℕ} {l : Layout} → Represents ts b l →
    (d : List ℕ) (cs : List (Ty × List ℕ)) → CasesFit (length d) cs → (b' qs' : List ℕ) (ks' : List Kept) →
    b' ≡ b ++ d → qs' ≡ l.slot_places ++ length b ∷ [] → ks' ≡ l.slots ++ record { standard = d; cases = cs } ∷ [] →
    Represents (ts ++ blank_cell (slot d cs) ∷ []) b' (record { holes = l.holes; types = l.types; slot_places = qs'; slots = ks' })
slot_joined {ts} {b} {l} r d cs fit b' qs' ks' e f g =
    let j = joined r (blank_cell (slot d cs) ∷ []) ((refl, fit), tt) in
    record {
      bytes_are = e ∙ (ap (λ x. b ++ x) (sym (append-nil d)) ∙ j.bytes_are);
      layout_is = same_layout (sym (append-nil l.holes)) (sym (append-nil l.types)) f g ∙ j.layout_is;
      proper = j.proper;
    }

pub cut_at :
    {b : List ℕ} {l : Layout} (ts : List Cell) → Represents ts b l →
    (m : Mark) (front rest : List Cell) → ts ≡ front ++ rest → m ≡ mark_of front →
    Represents front (take m.bytes b) (cut_layout m.holes m.slots l)
cut_at {b} {l} ts r m front rest e f =
    rw f (cut front rest (subst (λ us. Represents us b l) e r))

pub same_as :
    {ts : List Cell} {b b' : List ℕ} {l l' : Layout} → Represents ts b l → b' ≡ b → l' ≡ l → Represents ts b' l'
same_as r e f = rw (e, f) r

-- the numbers of a mark are there to go back to
pub enough :
    {b : List ℕ} {l : Layout} (ts : List Cell) → Represents ts b l →
    (m : Mark) (front rest : List Cell) → ts ≡ front ++ rest → m ≡ mark_of front → (m.holes ≤ length l.holes) × (m.slots ≤ length l.slot_places)
enough {b} {l} ts r m front rest e f =
    let c : Represents front (take m.bytes b) (cut_layout m.holes m.slots l) = cut_at ts r m front rest e f in
    let h : length (take m.holes l.holes) ≡ m.holes = ap (λ (k : Layout). length k.holes) c.layout_is ∙ (length-holes 0 (plain front) ∙ ap (λ (k : Mark). k.holes) (sym f)) in
    let s : length (take m.slots l.slot_places) ≡ m.slots = ap (λ (k : Layout). length k.slot_places) c.layout_is ∙ (length-slot_places 0 (plain front) ∙ ap (λ (k : Mark). k.slots) (sym f)) in
    (omega (arith, h, length-take m.holes l.holes), omega (arith, s, length-take m.slots l.slot_places))

-- ---- what is kept where nothing is

pub none_valid : (b ps qs : List ℕ) (hs : List Ty) (ss : List Slot) → b ≡ [] → ps ≡ [] → hs ≡ [] → qs ≡ [] → ss ≡ [] →
    Valid b (record { holes = ps; types = hs; slot_places = qs; slots = map kept_of ss })
none_valid b ps qs hs ss e f g h k = rw (e, f, g, h, k) (valid none_kept)

pub none_seen : (b ps qs : List ℕ) (hs : List Ty) (ss : List Slot) → b ≡ [] → ps ≡ [] → hs ≡ [] → qs ≡ [] → ss ≡ [] →
    cells_of b (record { holes = ps; types = hs; slot_places = qs; slots = map kept_of ss }) ≡ []
none_seen b ps qs hs ss e f g h k = rw (e, f, g, h, k) (cells_are none_kept)

-- ---- clones of what is kept

-- the cases of a slot are those of its clone, where the parts of each are
pub cases_same : {IsCase : Ty × Vec ℕ Global → Ty × Vec ℕ Global → Type 0} →
    ((x y : Ty × Vec ℕ Global) → IsCase x y → ◌≡◌ {A = Ty × List ℕ} (y.0, y.1.items) (x.0, x.1.items)) →
    (xs ys : List (Ty × Vec ℕ Global)) → AllZip IsCase xs ys → cases_of ys ≡ cases_of xs
cases_same same [] [] h = refl
cases_same same [] (y ∷ ys) h = absurd h
cases_same same (x ∷ xs) [] h = absurd h
cases_same same (x ∷ xs) (y ∷ ys) h =
    ap (λ (c : Ty × List ℕ). c ∷ cases_of ys) (same x y h.0) ∙ ap (λ (cs : List (Ty × List ℕ)). (x.0, x.1.items) ∷ cs) (cases_same same xs ys h.1)

pub same_kept : (d e : List ℕ) (f g : List (Ty × List ℕ)) → d ≡ e → f ≡ g →
    ◌≡◌ {A = Kept} (record { standard = d; cases = f }) (record { standard = e; cases = g })
same_kept d e f g q r = cc

pub slots_same : (xs ys : List Slot) → AllZip (λ s copy. kept_of copy ≡ kept_of s) xs ys → map kept_of ys ≡ map kept_of xs
slots_same [] [] h = refl
slots_same [] (y ∷ ys) h = absurd h
slots_same (x ∷ xs) [] h = absurd h
slots_same (x ∷ xs) (y ∷ ys) h =
    ap (λ (k : Kept). k ∷ map kept_of ys) h.0 ∙ ap (λ (ks : List Kept). kept_of x ∷ ks) (slots_same xs ys h.1)

pub same_case : {a b : Ty} {xs ys : List ℕ} → a ≡ b → xs ≡ ys → ◌≡◌ {A = Ty × List ℕ} (a, xs) (b, ys)
same_case e f = cc
