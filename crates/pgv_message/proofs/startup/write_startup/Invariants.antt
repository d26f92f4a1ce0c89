use Rattle.std.proofs.Common.{◌≡◌, ◌++◌, take}
use Rattle.std.specs.Prelude.{flat_map}
use Rattle.std.specs.Int.{w32, to_be_bytes}
use Rattle.pgv_message.specs.Pieces.{piece_bytes}
use Rattle.pgv_message.specs.Startup.{setting_bytes, version}
use Rattle.pgv_message.proofs.startup.write_startup.Given as goal

abbrev pub invariant-loop-setting : goal.invariant-loop-setting
invariant-loop-setting l = record {
  pieces : flat_map piece_bytes l.pieces.items ≡ to_be_bytes w32 version ++ flat_map setting_bytes (take l.setting-index l.settings);
  out : l.out ≡ l.fn.out;
}
