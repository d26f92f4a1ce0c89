use Rattle.std.proofs.Common.{◌≡◌, ◌++◌, length, take}
use Rattle.std.specs.Prelude.{flat_map}
use Rattle.pgv_message.specs.Pieces.{format_bytes}
use Rattle.pgv_message.proofs.pieces.push_formats.Given as goal

abbrev pub invariant-loop-format : goal.invariant-loop-format
invariant-loop-format l = record {
  items : l.out.items ≡ l.fn.out.items ++ flat_map format_bytes (take l.format-index l.formats);
  mark : l.mark ≡ length l.fn.out.items;
}
