use Rattle.std.proofs.Common.{◌≡◌, ◌++◌, length, take}
use Rattle.std.specs.Prelude.{flat_map}
use Rattle.pgv_message.specs.Pieces.{oid_bytes}
use Rattle.pgv_message.proofs.pieces.push_oids.Given as goal

abbrev pub invariant-loop-oid : goal.invariant-loop-oid
invariant-loop-oid l = record {
  items : l.out.items ≡ l.fn.out.items ++ flat_map oid_bytes (take l.oid-index l.oids);
  mark : l.mark ≡ length l.fn.out.items;
}
