-- Lists of arguments: one more, and all filled.
use Rattle.std.proofs.Common.{◌≡◌, ℕ, ◌+◌, suc, zero, List, [], ◌∷◌, ◌++◌, length, take, drop, refl, sym, ◌∙◌, ap, subst, arith, append-nil, replicate, map, sum, Some}
use Rattle.std.proofs.lemmas.Grind.{flat_map-append}
use Rattle.std.proofs.lemmas.List.{map-append}
use Rattle.std.proofs.lemmas.List.Sums.{sum_by-cons}
use Rattle.std.proofs.Math.Numerals.{one-add}
use Rattle.std.proofs.Math.Seq.{take-nil, drop-nil}
use Rattle.pgv_types.specs.Ty.{Ty}
use Rattle.pgv_types.specs.declared.oid.Oid.{Oid}
use Rattle.pgv_buf.specs.Tokens.{Token, byte, hole, slot, tokens_holes, tokens_slots, blank, blank_cell, plain, Cell, be4, shown, hole_count, slot_count, chosen}
use Rattle.pgv_buf.specs.Blank.{plain-append}
use Rattle.pgv_buf.specs.Fill.{first_number, filled_cells, slot_types}
use Rattle.pgv_buf.specs.Proper.{shown-append, first_type, rest_of}
use Rattle.pgv_wire.specs.Arguments.{Argument, Framed, all_cells, types_in, counts_in, framed, early, filled_arguments, filled_frame}
use Rattle.pgv_codec.specs.Writing.{write}
use Rattle.pgv_wire.specs.Counts.{AreCounts}
use Rattle.pgv_wire.specs.KeptView.{Stands, arguments_of}
use Rattle.pgv_wire.specs.History.{last_filling, framed_types}
use Rattle.pgv_wire.proofs.Counts.{types_counted}
use Rattle.pgv_wire.proofs.Framed.{OfImage, framed-filled, images_more, images_filled, left_more, left_filled}
use Rattle.pgv_wire.proofs.Split.{split_back}

pub nothing_stands : Stands [] [] [] []
nothing_stands = record { types_are = refl; counts_are = (0, refl); cells_are = refl; images_are = ([], tt); left_are = (last_filling [], record { arguments_are = refl; as_many_types = refl; as_many_oids = refl }) }

pub arguments_are : {args : List Argument} {hs : List Ty} {ns : List ℕ} {ts : List Cell} → Stands args hs ns ts → arguments_of hs ts ≡ args
unfolding arguments_of
arguments_are {args} s = rw (s.types_are, s.cells_are) (split_back args s.images_are.0 s.images_are.1)

pub stands : {args : List Argument} {hs : List Ty} {ns : List ℕ} {ts : List Cell} → Stands args hs ns ts → Stands (arguments_of hs ts) hs ns ts
stands {args} {hs} {ns} {ts} s = subst (λ bs. Stands bs hs ns ts) (sym (arguments_are s)) s

pub held : {hs : List Ty} {ns : List ℕ} {ts : List Cell} (args : List Argument) → Stands (arguments_of hs ts) hs ns ts → arguments_of hs ts ≡ args → Stands args hs ns ts
held {hs} {ns} {ts} args s e = subst (λ bs. Stands bs hs ns ts) e s

slots-append : (a c : List Token) → tokens_slots (a ++ c) ≡ tokens_slots a + tokens_slots c
slots-append [] c = omega arith
slots-append (byte x ∷ a) c = slots-append a c
slots-append (hole t ∷ a) c = slots-append a c
slots-append (slot d cs ∷ a) c = omega (arith, slots-append a c)

pub slot_count-append : (a c : List Cell) → slot_count (a ++ c) ≡ slot_count a + slot_count c
slot_count-append a c = ap tokens_slots (plain-append a c) ∙ slots-append (plain a) (plain c)

pub one_more :
    {args : List Argument} {hs : List Ty} {ns : List ℕ} {ts : List Cell} → Stands args hs ns ts → (f : Framed) → OfImage f.1 →
    (hs' : List Ty) (ns' : List ℕ) (ts' : List Cell) → hs' ≡ hs ++ f.0 ∷ [] → AreCounts (counts_in args ++ slot_count (blank f.1) ∷ []) ns' → ts' ≡ ts ++ blank f.1 →
    Stands (args ++ (f.0, blank f.1) ∷ []) hs' ns' ts'
one_more {args} s f i hs' ns' ts' d k g = record {
  types_are = d ∙ (ap (λ r. r ++ f.0 ∷ []) s.types_are ∙ sym (map-append (λ (a : Argument). a.0) args ((f.0, blank f.1) ∷ [])));
  counts_are = subst (λ r. AreCounts r ns') (sym (map-append (λ (a : Argument). slot_count a.1) args ((f.0, blank f.1) ∷ []))) k;
  cells_are = g ∙ (ap (λ r. r ++ blank f.1) s.cells_are ∙ sym (flat_map-append (λ (a : Argument). a.1) args ((f.0, blank f.1) ∷ []) ∙ ap (λ r. all_cells args ++ r) (append-nil (blank f.1))));
  images_are = images_more args f s.images_are i;
  left_are = left_more args f s.left_are;
}

-- ---- filling

filled-append :
    (n : ℕ) (p : Ty) (ps : List Ty) (os : List Oid) (a c : List Token) → n ≡ tokens_slots a →
    filled_cells (replicate n p ++ ps) os (a ++ c) ≡ filled_cells (replicate n p) (take (tokens_holes a) os) a ++ filled_cells ps (drop (tokens_holes a) os) c
filled-append n p ps os [] c e = rw e refl
filled-append n p ps os (byte x ∷ a) c e = ap (λ r. blank_cell (byte x) ∷ r) (filled-append n p ps os a c e)
filled-append n p ps [] (hole t ∷ a) c e = rw one-add (ap (λ (r : List Cell). (hole t, be4 0) ∷ r) (filled-append n p ps [] a c e ∙ rw (take-nil (tokens_holes a), drop-nil (tokens_holes a))))
filled-append n p ps (o ∷ os) (hole t ∷ a) c e = rw one-add (ap (λ (r : List Cell). (hole t, be4 o.0) ∷ r) (filled-append n p ps os a c e))
filled-append zero p ps os (slot d cs ∷ a) c e = absurd (omega (arith, e))
filled-append (suc n) p ps os (slot d cs ∷ a) c e = ap (λ (r : List Cell). (slot d cs, chosen p d cs) ∷ r) (filled-append n p ps os a c (omega (arith, e)))

all_cells-filled :
    (args : List Argument) (ps : List Ty) (os : List Oid) → length ps ≡ length args →
    all_cells (filled_arguments (framed args) ps os) ≡ filled_cells (slot_types ps (counts_in args)) os (plain (all_cells args))
all_cells-filled [] ps os e = refl
all_cells-filled (a ∷ args) [] os e = absurd (omega (arith, e))
all_cells-filled (a ∷ args) (p ∷ ps) os e =
    let n : ℕ = hole_count a.1 in
    ap (λ x. filled_frame p (take n os) (plain a.1) ++ x) (all_cells-filled args ps (drop n os) (omega (arith, e)))
    ∙ (sym (filled-append (slot_count a.1) p (slot_types ps (counts_in args)) os (plain a.1) (plain (all_cells args)) refl)
    ∙ ap (λ x. filled_cells (slot_types (p ∷ ps) (counts_in (a ∷ args))) os x) (sym (plain-append a.1 (all_cells args))))

-- what the frames alone say
pub types-framed : (args : List Argument) → types_in args ≡ framed_types (framed args)
types-framed [] = refl
types-framed (a ∷ args) = ap (λ (r : List Ty). a.0 ∷ r) (types-framed args)

counts-framed : (args : List Argument) → counts_in args ≡ map (λ f. tokens_slots f.1) (framed args)
counts-framed [] = refl
counts-framed (a ∷ args) = ap (λ (r : List ℕ). slot_count a.1 ∷ r) (counts-framed args)

pub all_filled :
    {args : List Argument} {hs : List Ty} {ns : List ℕ} {ts : List Cell} → Stands args hs ns ts → (ps : List Ty) (os : List Oid) (ts' : List Cell) → length ps ≡ length args → length os ≡ hole_count (all_cells args) →
    ts' ≡ filled_cells (slot_types ps ns) os (plain ts) → Stands (filled_arguments (framed args) ps os) hs ns ts'
all_filled {args} {hs} {ns} {ts} s ps os ts' n m e =
    let same : framed (filled_arguments (framed args) ps os) ≡ framed args = framed-filled (framed args) ps os in
    let counts : counts_in (filled_arguments (framed args) ps os) ≡ counts_in args =
    counts-framed (filled_arguments (framed args) ps os) ∙ (ap (λ (fs : List Framed). map (λ f. tokens_slots f.1) fs) same ∙ sym (counts-framed args)) in
    record {
      types_are = s.types_are ∙ (types-framed args ∙ (ap framed_types (sym same) ∙ sym (types-framed (filled_arguments (framed args) ps os))));
      counts_are = subst (λ r. AreCounts r ns) (sym counts) s.counts_are;
      cells_are = e ∙ (ap (λ r. filled_cells (slot_types ps ns) os (plain r)) s.cells_are ∙ (ap (λ r. filled_cells r os (plain (all_cells args))) (sym (types_counted ps (counts_in args) ns s.counts_are)) ∙ sym (all_cells-filled args ps os n)));
      images_are = images_filled args ps os s.images_are;
      left_are = left_filled args ps os n m s.left_are;
    }

pub shown-frame : (n : ℕ) (p : Ty) (os : List Oid) (f : List Token) → n ≡ tokens_slots f → shown (filled_cells (replicate n p) os f) ≡ write (Some p) os f
shown-frame n p os [] e = refl
shown-frame n p os (byte x ∷ f) e = ap (λ r. x ∷ r) (shown-frame n p os f e)
shown-frame n p os (hole t ∷ f) e = ap (λ r. be4 (first_number os) ++ r) (shown-frame n p (rest_of os) f e)
shown-frame zero p os (slot d cs ∷ f) e = absurd (omega (arith, e))
shown-frame (suc n) p os (slot d cs ∷ f) e = ap (λ r. chosen p d cs ++ r) (shown-frame n p os f (omega (arith, e)))

-- late equals early
pub late_is_early : (fs : List Framed) (ps : List Ty) (os : List Oid) → shown (all_cells (filled_arguments fs ps os)) ≡ early fs ps os
late_is_early [] ps os = refl
late_is_early (f ∷ fs) ps os =
    let p : Ty = first_type ps in
    let o : List Oid = take (tokens_holes f.1) os in
    let others : List Cell = all_cells (filled_arguments fs (rest_of ps) (drop (tokens_holes f.1) os)) in
    shown-append (filled_frame p o f.1) others
    ∙ (ap (λ x. x ++ shown others) (shown-frame (tokens_slots f.1) p o f.1 refl) ∙ ap (λ x. write (Some p) o f.1 ++ x) (late_is_early fs (rest_of ps) (drop (tokens_holes f.1) os)))

pub sum-counts_in : (args : List Argument) → sum (counts_in args) ≡ slot_count (all_cells args)
sum-counts_in [] = refl
sum-counts_in (a ∷ args) = sum_by-cons (λ n. n) (slot_count a.1) (counts_in args) ∙ (ap (λ n. slot_count a.1 + n) (sum-counts_in args) ∙ sym (slot_count-append a.1 (all_cells args)))
