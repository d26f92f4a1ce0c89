use Rattle.std.proofs.Common.{◌∙◌, ◌≤◌, ◌*◌, List, ℕ, sym, ap, arith, take, length}
use Rattle.pgv_more.specs.Bits.{bits_of}
use Rattle.pgv_more.proofs.Kept.{kept_count, closes, shows}
use Rattle.pgv_more.proofs.bit_vec.BitVec.from_packed.Goals as goal

pub invariant_of-result : goal.invariant_of-result
invariant_of-result c =
    let same = c.in_ok-bytes.ensures in
    let room : c.args.count ≤ 8 * length c.in_ok-bytes.bytes.items = omega (arith, c.requires, ap length same) in
    closes c.cut.new.bytes.items c.args.count (take c.args.count (bits_of c.in_ok-bytes.bytes.items)) c.cut.ensures (sym (kept_count c.in_ok-bytes.bytes.items c.args.count room))

pub returns : goal.returns
returns c =
    let same = c.in_ok-bytes.ensures in
    let room : c.args.count ≤ 8 * length c.in_ok-bytes.bytes.items = omega (arith, c.requires, ap length same) in
    shows c.cut.new.bytes.items c.args.count (take c.args.count (bits_of c.in_ok-bytes.bytes.items)) c.cut.ensures (sym (kept_count c.in_ok-bytes.bytes.items c.args.count room))
    ∙ ap (λ (bytes : List ℕ). take c.args.count (bits_of bytes)) same
