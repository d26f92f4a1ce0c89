use Rattle.std.proofs.Common.{◌≡◌, ◌-◌}
use Rattle.pgv_value.specs.Several.{several}
use Rattle.pgv_value.proofs.Several.{with_front}
use Rattle.pgv_message.specs.Counted.{oid_front}
use Rattle.pgv_message.proofs.parameter_description.oids_in_front.Given as goal

-- what was read and what is left to read are the OIDs
abbrev pub invariant-loop : goal.invariant-loop
invariant-loop l = with_front l.oids.items (several oid_front (l.count - l.counter) l.rest).answer ≡ (several oid_front l.count l.bytes).answer
