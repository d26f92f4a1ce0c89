use Rattle.std.proofs.Common.{◌≡◌, ◌-◌, map}
use Rattle.pgv_codec.specs.ArrayGrammar.{parse_frames}
use Rattle.pgv_codec.specs.AtOnce.{with_front}
use Rattle.pgv_codec.proofs.types.array.read_in_room.Given as goal

-- what was read and what is left to read are what the bytes hold
abbrev pub invariant-loop : goal.invariant-loop
invariant-loop g l =
    with_front (map g.T.Decode.view l.items.items) (parse_frames g.T.Decode.parse l.element (l.count - l.counter) l.rest).answer
    ≡ (parse_frames g.T.Decode.parse l.element l.count l.bytes).answer
