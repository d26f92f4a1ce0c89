use Rattle.std.proofs.Common.{◌≡◌, length, [], ◌∷◌, ◌++◌, ◌∙◌, ap, arith, map}
use Rattle.pgv_buf.specs.Tokens.{blank_cell, hole}
use Rattle.pgv_buf.specs.TokensView.{kept_of}
use Rattle.pgv_buf.specs.Layout.{Represents}
use Rattle.pgv_buf.proofs.Layouts.{held, valid, cells_are}
use Rattle.pgv_buf.proofs.CellSteps.{hole_joined, holes_before}
use Rattle.pgv_buf.proofs.tokens.Tokens.push_hole.Goals as goal

pub push-requires : goal.push-requires
push-requires c = omega (arith, c.len-place.ensures, c.self.inside.bytes.ok.0, holes_before (held c.args.self.now c.self.invariant c.self.view_is))

joined_here : (c : goal.In_ok-extend_from_slice) →
    Represents (c.args.self.now ++ blank_cell (hole c.args.hole_type) ∷ []) c.extend_from_slice.new.self.items (record { holes = c.push.new.self; types = c.push-2.new.self.items; slot_places = c.self.inside.slot_places; slots = map kept_of c.self.inside.slots.items })
joined_here c =
    let place : c.len-place.result ≡ length c.self.inside.bytes.items = omega (arith, c.len-place.ensures, c.self.inside.bytes.ok.0) in
    hole_joined (held c.args.self.now c.self.invariant c.self.view_is) c.args.hole_type _ _ _
    (c.in_ok-extend_from_slice.ensures.items ∙ ap (λ r. r ++ 0 ∷ 0 ∷ 0 ∷ 0 ∷ []) c.reserve.ensures.items)
    (c.in_ok-push.ensures.ok ∙ ap (λ n. c.self.inside.holes ++ n ∷ []) place)
    (c.in_ok-push-2.ensures.items ∙ ap (λ r. r ++ c.args.hole_type ∷ []) c.reserve-2.ensures.items)

pub invariant_of-self-2 : goal.invariant_of-self-2
invariant_of-self-2 c = valid (joined_here c)

pub returns-clause-ok : goal.returns-clause-ok
returns-clause-ok c = cells_are (joined_here c)
