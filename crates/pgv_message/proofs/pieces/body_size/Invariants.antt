use Rattle.std.proofs.Common.{◌≡◌, ◌≤◌, length, take}
use Rattle.std.specs.Prelude.{flat_map}
use Rattle.pgv_message.specs.Pieces.{piece_bytes}
use Rattle.pgv_message.specs.MessageWriting.{max_body}
use Rattle.pgv_message.proofs.pieces.body_size.Given as goal

abbrev pub invariant-loop-piece : goal.invariant-loop-piece
invariant-loop-piece l = record {
  size : l.size ≡ length (flat_map piece_bytes (take l.piece-index l.pieces));
  fits : l.size ≤ max_body;
}
