use Rattle.std.proofs.Common.{◌≡◌, ◌∙◌, sym, ap, take, length}
use Rattle.pgv_more.specs.Bits.{bits_of, packed}
use Rattle.pgv_more.proofs.Kept.{kept_count, same_by_bytes, other_by_count}
use Rattle.pgv_more.proofs.bit_vec.BitVecPartialEq.eq.Goals as goal

pub returns-then-self-other : goal.returns-then-self-other
returns-then-self-other c =
    let xs = c.self.inside.bytes.items in
    let ys = c.other.inside.bytes.items in
    let n = c.self.inside.count in
    let shown : take n (bits_of ys) ≡ take c.other.inside.count (bits_of ys) = ap (λ m. take m (bits_of ys)) c.if-self-other.true in
    same_by_bytes xs ys n c.args.self.now c.args.other.now c.eq.result c.self.view_is (shown ∙ c.other.view_is) c.self.invariant.1 (c.other.invariant.1 ∙ ap packed (sym shown)) c.eq.ensures

pub returns-else-self-other : goal.returns-else-self-other
returns-else-self-other c =
    other_by_count c.self.inside.count c.other.inside.count c.args.self.now c.args.other.now
    (ap length (sym c.self.view_is) ∙ kept_count c.self.inside.bytes.items c.self.inside.count c.self.invariant.0)
    (ap length (sym c.other.view_is) ∙ kept_count c.other.inside.bytes.items c.other.inside.count c.other.invariant.0) c.if-self-other.false
