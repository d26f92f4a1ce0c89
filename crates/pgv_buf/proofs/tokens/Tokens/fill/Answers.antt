use Rattle.std.proofs.Common.{◌≡◌, ℕ, length, map, List, ◌∙◌, ap, sym}
use Rattle.std.proofs.lemmas.List.{length-map}
use Rattle.pgv_types.specs.Ty.{Ty}
use Rattle.pgv_buf.specs.declared.fill.Slot.{Slot}
use Rattle.pgv_buf.specs.Tokens.{plain, hole_count, slot_count}
use Rattle.pgv_buf.specs.TokensView.{kept_of}
use Rattle.pgv_buf.specs.Layout.{Layout, Represents}
use Rattle.pgv_buf.specs.Fill.{filled_cells, slot_types}
use Rattle.pgv_buf.specs.Patches.{put_each, numbers, choices}
use Rattle.pgv_buf.proofs.Layouts.{held, valid, cells_are, length-holes, length-slots, length-slot_places}
use Rattle.pgv_buf.proofs.Gaps.{length-after}
use Rattle.pgv_buf.proofs.Patches.{holes_filled, holes_within, slots_within, all_filled}
use Rattle.pgv_buf.proofs.tokens.Tokens.fill.Goals as goal

pub write_oids-requires : goal.write_oids-requires
write_oids-requires c =
    let r = held c.args.self.now c.self.invariant c.self.view_is in
    let n : length c.gaps.result.now ≡ hole_count c.args.self.now =
    sym (length-after 0 c.gaps.result.now) ∙ (ap length c.gaps.ensures ∙ (ap (λ (l : Layout). length l.holes) r.layout_is ∙ length-holes 0 (plain c.args.self.now))) in
    record {
      many = c.requires.holes ∙ sym n;
      within = rw c.gaps.ensures (holes_within r c.args.oids.now c.requires.holes);
    }

pub write_slots-requires : goal.write_slots-requires
write_slots-requires c =
    let r = held c.args.self.now c.self.invariant c.self.view_is in
    let n : length (map kept_of c.self.inside.slots.items) ≡ slot_count c.args.self.now = ap (λ (l : Layout). length l.slots) r.layout_is ∙ length-slots (plain c.args.self.now) in
    let m : length c.self.inside.slot_places ≡ slot_count c.args.self.now = ap (λ (l : Layout). length l.slot_places) r.layout_is ∙ length-slot_places 0 (plain c.args.self.now) in
    let k : length c.gaps-2.result.now ≡ slot_count c.args.self.now = sym (length-after 0 c.gaps-2.result.now) ∙ (ap length c.gaps-2.ensures ∙ m) in
    rw (c.gaps-2.ensures, c.as_slice.ensures.value) (record {
      arguments = c.requires.arguments;
      slots = c.requires.slots ∙ (sym n ∙ length-map c.self.inside.slots.items kept_of);
      gaps = k ∙ (sym n ∙ length-map c.self.inside.slots.items kept_of);
      within = slots_within (holes_filled r c.args.oids.now c.requires.holes _ (c.write_oids.ensures ∙ ap (λ ps. put_each ps (numbers c.args.oids.now) c.self.inside.bytes.items) c.gaps.ensures)) (slot_types c.args.types.now c.args.counts.now);
    })

-- what was written, over the fields
over_fields : {ps qs : List ℕ} {xs ys : List Slot} (ws : List Ty) (b : List ℕ) {b' : List ℕ} → b' ≡ put_each ps (choices ws (map kept_of xs)) b → ps ≡ qs → xs ≡ ys → b' ≡ put_each qs (choices ws (map kept_of ys)) b
over_fields {ps} {qs} {xs} {ys} ws b e f g = e ∙ (ap (λ (k : List ℕ). put_each k (choices ws (map kept_of xs)) b) f ∙ ap (λ (k : List Slot). put_each qs (choices ws (map kept_of k)) b) g)

all_here : (c : goal.After-write_slots) → Represents (filled_cells (slot_types c.args.types.now c.args.counts.now) c.args.oids.now (plain c.args.self.now)) c.write_slots.new.bytes.items
    (record { holes = c.self.inside.holes; types = c.self.inside.types.items; slot_places = c.self.inside.slot_places; slots = map kept_of c.self.inside.slots.items })
all_here c =
    all_filled (held c.args.self.now c.self.invariant c.self.view_is) (slot_types c.args.types.now c.args.counts.now) c.args.oids.now c.requires.holes _ _
    (c.write_oids.ensures ∙ ap (λ ps. put_each ps (numbers c.args.oids.now) c.self.inside.bytes.items) c.gaps.ensures)
    (over_fields _ _ c.write_slots.ensures c.gaps-2.ensures c.as_slice.ensures.value)

pub invariant_of-self : goal.invariant_of-self
invariant_of-self c = valid (all_here c)

pub returns : goal.returns
returns c = cells_are (all_here c)
