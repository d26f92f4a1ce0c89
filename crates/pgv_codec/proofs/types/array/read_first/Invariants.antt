use Rattle.std.proofs.Common.{◌≡◌, ◌*◌, length, map, drop}
use Rattle.std.specs.Vec.{vec_len, vec_capacity}
use Rattle.pgv_codec.specs.AtOnce.{AreFirst}
use Rattle.pgv_codec.proofs.types.array.read_first.Given as goal

-- so many elements were read, within the room that there was, and what is left begins after their frames
abbrev pub invariant-loop-place : goal.invariant-loop-place
invariant-loop-place g l =
    (vec_len l.items ≡ l.place)
    × (length l.items.items ≡ l.place)
    × (vec_capacity l.items ≡ vec_capacity l.initial.items)
    × AreFirst g.T.Decode.parse l.count l.bytes (map g.T.Decode.view l.items.items) (drop (l.place * l.frame) l.bytes)
