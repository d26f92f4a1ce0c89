use Rattle.std.proofs.Common.{◌∙◌, ap, rules}
use Rattle.std.proofs.lemmas.List.{map-id}
use Rattle.pgv_more.specs.Bits.{packed}
use Rattle.pgv_more.proofs.Kept.{closes, shows}
use Rattle.pgv_more.proofs.bit_vec.BitVec.from_bits.Goals as goal

pub invariant_of-result : goal.invariant_of-result
invariant_of-result c = closes _ _ c.args.bits.items (c.in_ok-bytes_of.ensures ∙ ap packed (map-id _ ∙ c.as_slice.ensures.value)) (search rules)

pub returns : goal.returns
returns c = shows _ _ c.args.bits.items (c.in_ok-bytes_of.ensures ∙ ap packed (map-id _ ∙ c.as_slice.ensures.value)) (search rules)
