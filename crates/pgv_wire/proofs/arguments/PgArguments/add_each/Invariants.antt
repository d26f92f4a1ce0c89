use Rattle.std.proofs.Common.{◌≡◌, ◌≤◌, length, take}
use Rattle.std.specs.Prelude.{vec_len, vec_capacity}
use Rattle.pgv_codec.specs.Encoding.{value_type}
use Rattle.pgv_wire.specs.Arguments.{argument_frame}
use Rattle.pgv_wire.proofs.Eaches.{SoFar}
use Rattle.pgv_wire.proofs.arguments.PgArguments.add_each.Given as goal

-- what the values so far added, and room for the other outcomes
abbrev pub invariant-loop-value : goal.invariant-loop-value
invariant-loop-value g l =
    SoFar (λ x. argument_frame (g.T.Encode.encoding x)) (λ x. value_type g.T.Type.info (g.T.Encode.encoding x)) (take l.value-index l.values) l.outcomes.items l.initial.self l.self
    × (length l.values ≤ vec_capacity l.outcomes) × (vec_len l.outcomes ≡ l.value-index)
