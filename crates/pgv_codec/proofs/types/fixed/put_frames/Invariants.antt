use Rattle.std.proofs.Common.{◌*◌, take}
use Rattle.pgv_codec.specs.AtOnce.{AreFrames}
use Rattle.pgv_codec.proofs.types.fixed.put_frames.Given as goal

-- the frames so far
abbrev pub invariant-loop-place : goal.invariant-loop-place
invariant-loop-place g l = AreFrames g.T.Fixed.encoding (take l.place l.values) (take (l.place * g.row.F) l.frames)
