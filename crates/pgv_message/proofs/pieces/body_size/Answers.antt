use Rattle.std.proofs.Common.{arith, refl}
use Rattle.pgv_message.proofs.Sizes.{pieces_too_long}
use Rattle.pgv_message.proofs.pieces.body_size.Goals as goal

pub returns-then-length-size : goal.returns-then-length-size
returns-then-length-size c = (
  refl,
  pieces_too_long _ c.args.pieces.now c.loop-piece.piece-index c.loop-piece.size c.piece_size-length.result c.loop-piece-test.true c.piece_size-length.ensures c.loop-piece.invariant.size (omega (arith, c.loop-piece.invariant.fits, c.if-length-size.true)),
)
