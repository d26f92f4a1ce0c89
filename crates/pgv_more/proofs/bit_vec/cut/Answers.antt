use Rattle.std.proofs.Common.{◌/◌, ℕ, arith, set, ap, ◌∙◌, take}
use Rattle.pgv_more.proofs.Kept.{whole_left, part_left, small_items}
use Rattle.pgv_more.proofs.bit_vec.cut.Goals as goal

pub returns-then-place-gt0 : goal.returns-then-place-gt0
returns-then-place-gt0 c =
    part_left c.truncate.new.self.items c.args.bytes.now.items c.args.count c.index.result.now c.index.result.now c.first_of_byte.result
    (c.truncate.ensures.items ∙ ap (λ (n : ℕ). take n c.args.bytes.now.items) c.div_ceil.ensures) c.requires
    (small_items (set c.truncate.new.self.items (c.args.count / 8) c.first_of_byte.result) c.type_inv.bytes) c.if-place-gt0.true c.index.ensures c.first_of_byte.ensures

pub returns-else-place-gt0 : goal.returns-else-place-gt0
returns-else-place-gt0 c =
    whole_left c.truncate.new.self.items c.args.bytes.now.items c.args.count
    (c.truncate.ensures.items ∙ ap (λ (n : ℕ). take n c.args.bytes.now.items) c.div_ceil.ensures) c.requires (small_items c.truncate.new.self.items c.type_inv.bytes) (omega arith)
