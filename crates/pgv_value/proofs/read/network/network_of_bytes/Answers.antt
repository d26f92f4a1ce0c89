use Rattle.std.proofs.Common.{get_or, subst}
use Rattle.pgv_scalar_text.specs.NetworkText.{network_of}
use Rattle.pgv_value.specs.NetworkBinary.{network_in_binary}
use Rattle.pgv_value.specs.Parsed.{GivesExactly}
use Rattle.pgv_value.proofs.Numbers.{four_and_octets}
use Rattle.pgv_value.proofs.read.network.network_of_bytes.Goals as goal

pub returns-in-len4-up : goal.returns-in-len4-up
returns-in-len4-up c =
    subst (λ bytes. GivesExactly network_of (network_in_binary bytes) c.network_of_octets.result) (four_and_octets c.args.bytes.now c.in-len4-up.len_at_least) (c.network_of_octets.ensures (get_or c.args.bytes.now 2 0))
