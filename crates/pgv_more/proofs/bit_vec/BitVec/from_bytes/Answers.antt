use Rattle.std.proofs.Common.{sym, ◌∙◌, ap, arith, subst, length}
use Rattle.pgv_more.specs.Bits.{bits_of}
use Rattle.pgv_more.specs.PackingLemmas.{AreByteNumbers, length-bits_of}
use Rattle.pgv_more.proofs.Kept.{closes, shows, whole_bytes}
use Rattle.pgv_more.proofs.bit_vec.BitVec.from_bytes.Goals as goal

pub invariant_of-result : goal.invariant_of-result
invariant_of-result c =
    let same = c.in_ok-copy_of.ensures in
    let small : AreByteNumbers c.in_ok-copy_of.field-0.items = subst AreByteNumbers (sym same) (λ i. (c.type_inv.bytes i).fits) in
    closes c.in_ok-copy_of.field-0.items c.in-Some.count (bits_of c.in_ok-copy_of.field-0.items) (whole_bytes c.in_ok-copy_of.field-0.items small) (omega (arith, c.in-Some.ensures, ap length same, length-bits_of c.in_ok-copy_of.field-0.items))

pub returns : goal.returns
returns c =
    let same = c.in_ok-copy_of.ensures in
    let small : AreByteNumbers c.in_ok-copy_of.field-0.items = subst AreByteNumbers (sym same) (λ i. (c.type_inv.bytes i).fits) in
    shows c.in_ok-copy_of.field-0.items c.in-Some.count (bits_of c.in_ok-copy_of.field-0.items) (whole_bytes c.in_ok-copy_of.field-0.items small) (omega (arith, c.in-Some.ensures, ap length same, length-bits_of c.in_ok-copy_of.field-0.items)) ∙ ap bits_of same
