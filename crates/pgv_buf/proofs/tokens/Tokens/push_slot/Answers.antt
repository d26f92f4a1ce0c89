use Rattle.std.proofs.Common.{◌≡◌, List, ℕ, length, [], ◌∷◌, ◌++◌, ◌∙◌, ap, arith, map, refl}
use Rattle.std.proofs.lemmas.List.{map-append}
use Rattle.pgv_types.specs.Ty.{Ty}
use Rattle.pgv_buf.specs.declared.fill.Slot.{Slot}
use Rattle.pgv_buf.specs.Tokens.{blank_cell, slot}
use Rattle.pgv_buf.specs.CasesView.{cases_of}
use Rattle.pgv_buf.specs.TokensView.{kept_of}
use Rattle.pgv_buf.specs.Layout.{Kept, Represents}
use Rattle.pgv_buf.proofs.Layouts.{held, valid, cells_are}
use Rattle.pgv_buf.proofs.CellSteps.{slot_joined, slots_before}
use Rattle.pgv_buf.proofs.tokens.Tokens.push_slot.Goals as goal

pub push-requires : goal.push-requires
push-requires c = omega (arith, c.len-place.ensures, c.self.inside.bytes.ok.0, slots_before (held c.args.self.now c.self.invariant c.self.view_is))

-- the slots that are kept, with one more
kept_more :
    (ks was ks' : List Slot) (s : Slot) (d : List ℕ) (cs : List (Ty × List ℕ)) → ks' ≡ was ++ s ∷ [] → was ≡ ks → s.standard.items ≡ d → cases_of s.cases.items ≡ cs →
    map kept_of ks' ≡ map kept_of ks ++ record { standard = d; cases = cs } ∷ []
kept_more ks was ks' s d cs e f g h =
    let k : kept_of s ≡ (let r : Kept = record { standard = d; cases = cs } in r) = cc in
    ap (λ x. map kept_of x) (e ∙ ap (λ x. x ++ s ∷ []) f) ∙ (map-append kept_of ks (s ∷ []) ∙ ap (λ x. map kept_of ks ++ x ∷ []) k)

joined_here : (c : goal.In_ok-extend_from_slice-2) →
    Represents (c.args.self.now ++ blank_cell (slot c.args.default.now (cases_of c.args.cases.items)) ∷ []) c.extend_from_slice-2.new.self.items
    (record { holes = c.self.inside.holes; types = c.self.inside.types.items; slot_places = c.push.new.self; slots = map kept_of c.push-2.new.self.items })
joined_here c =
    let place : c.len-place.result ≡ length c.self.inside.bytes.items = omega (arith, c.len-place.ensures, c.self.inside.bytes.ok.0) in
    let copy : c.extend_from_slice.new.self.items ≡ c.args.default.now = c.in_ok-extend_from_slice.ensures.items ∙ ap (λ (x : List ℕ). x ++ c.args.default.now) c.new-standard.ensures.items in
    slot_joined (held c.args.self.now c.self.invariant c.self.view_is) c.args.default.now (cases_of c.args.cases.items) c.requires _ _ _
    (c.in_ok-extend_from_slice-2.ensures.items ∙ ap (λ (r : List ℕ). r ++ c.args.default.now) c.reserve.ensures.items)
    (c.in_ok-push.ensures.ok ∙ ap (λ n. c.self.inside.slot_places ++ n ∷ []) place)
    (kept_more c.self.inside.slots.items _ c.push-2.new.self.items _ c.args.default.now (cases_of c.args.cases.items) c.in_ok-push-2.ensures.items c.reserve-2.ensures.items copy refl)

pub invariant_of-self-2 : goal.invariant_of-self-2
invariant_of-self-2 c = valid (joined_here c)

pub returns-clause-ok : goal.returns-clause-ok
returns-clause-ok c = cells_are (joined_here c)
