use Rattle.std.proofs.Common.{◌≡◌, ◌+◌, List, Bool, sym, ◌∙◌, ap, arith, ◌++◌, take, length}
use Rattle.std.proofs.lemmas.List.{take-take}
use Rattle.std.specs.Prelude.{option_to_list}
use Rattle.pgv_more.specs.Bits.{bits_of}
use Rattle.pgv_more.proofs.Kept.{kept_count, closes, shows, popped, some_last}
use Rattle.pgv_more.proofs.bit_vec.BitVec.pop.Goals as goal

pub invariant_of-self : goal.invariant_of-self
invariant_of-self c =
    let room = c.self.invariant.0 in
    let less = c.in_ok-last.ensures in
    closes c.cut.new.bytes.items c.in_ok-last.last (take c.in_ok-last.last (bits_of c.self.inside.bytes.items)) c.cut.ensures (sym (kept_count c.self.inside.bytes.items c.in_ok-last.last (omega (arith, less))))

pub returns-clause-bits : goal.returns-clause-bits
returns-clause-bits c =
    let room = c.self.invariant.0 in
    let less = c.in_ok-last.ensures in
    let last = c.in_ok-last.last in
    let many : length c.args.self.now ≡ last + 1 = omega (arith, less, kept_count c.self.inside.bytes.items c.self.inside.count room, ap length c.self.view_is) in
    let left = shows c.cut.new.bytes.items last (take last (bits_of c.self.inside.bytes.items)) c.cut.ensures (sym (kept_count c.self.inside.bytes.items last (omega (arith, less)))) in
    let front : take last c.args.self.now ≡ take last (bits_of c.self.inside.bytes.items) = ap (take last) (sym c.self.view_is) ∙ take-take last c.self.inside.count (bits_of c.self.inside.bytes.items) (omega (arith, less)) in
    popped c.args.self.now last c.get-bit.result many c.get-bit.ensures ∙ ap (λ (bits : List Bool). bits ++ option_to_list c.get-bit.result) (front ∙ sym left)

pub returns-clause-variant : goal.returns-clause-variant
returns-clause-variant c =
    let room = c.self.invariant.0 in
    let less = c.in_ok-last.ensures in
    some_last c.args.self.now c.in_ok-last.last c.get-bit.result (omega (arith, less, kept_count c.self.inside.bytes.items c.self.inside.count room, ap length c.self.view_is)) c.get-bit.ensures
