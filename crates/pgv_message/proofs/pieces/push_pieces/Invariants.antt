use Rattle.std.proofs.Common.{◌≡◌, ◌++◌, length, take}
use Rattle.std.specs.Prelude.{flat_map}
use Rattle.pgv_message.specs.Pieces.{piece_bytes}
use Rattle.pgv_message.proofs.pieces.push_pieces.Given as goal

abbrev pub invariant-loop-piece : goal.invariant-loop-piece
invariant-loop-piece l = record {
  items : l.out.items ≡ l.fn.out.items ++ flat_map piece_bytes (take l.piece-index l.pieces);
  mark : l.mark ≡ length l.fn.out.items;
}
