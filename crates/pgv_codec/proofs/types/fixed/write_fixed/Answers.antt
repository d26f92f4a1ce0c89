use Rattle.std.proofs.Common.{◌≡◌, take, drop, sym, arith}
use Rattle.std.proofs.Math.Nat.{mul-le-mul_right}
use Rattle.std.proofs.lemmas.List.{length-drop}
use Rattle.pgv_buf.specs.Tokens.{bytes}
use Rattle.pgv_codec.specs.AtOnce.{AreFrames}
use Rattle.pgv_codec.proofs.Lists.{first_before, then_first}
use Rattle.pgv_codec.proofs.types.fixed.write_fixed.Goals as goal

pub loop-written-init : goal.loop-written-init
loop-written-init g c = first_before g.T.Fixed.encoding c.args.values.now c.reserve.new.self

pub whole_as_slice-put_frames : goal.whole_as_slice-put_frames
whole_as_slice-put_frames g c = omega (arith, mul-le-mul_right g.row.F c.requires.group.1, c.requires.few, c.requires.wide, c.requires.room)

pub shared_whole_as_slice-extend_from_slice : goal.shared_whole_as_slice-extend_from_slice
shared_whole_as_slice-extend_from_slice g c = omega (arith, mul-le-mul_right g.row.F c.requires.group.1, c.requires.few, c.requires.wide, c.requires.room)

pub loop-written-preserved : goal.loop-written-preserved
loop-written-preserved g c =
    let encoding = g.T.Fixed.encoding in
    let values = c.args.values.now in
    let n = c.loop-written.written in
    let xs = c.put_frames.new.frames in
    let others = c.split_at.result.1.now in
    let front : take g.row.G others ≡ c.split_at-in-loop-written.result.0.now = sym c.split_at-in-loop-written.ensures.front in
    let back : drop n values ≡ others = sym c.split_at.ensures.back in
    let group : AreFrames encoding (take g.row.G (drop n values)) xs = rw (back, front) c.put_frames.ensures in
    then_first encoding n g.row.G values c.reserve.new.self c.loop-written.out c.extend_from_slice.new.self c.loop-written.invariant
    (omega (arith, length-drop n values, c.loop-written-test.true), (bytes xs, group, c.in_ok-extend_from_slice.ensures.ok))
