use Rattle.std.proofs.Common.{◌≡◌, length, drop}
use Rattle.pgv_buf.specs.Patches.{put_each, Within, numbers}
use Rattle.pgv_buf.specs.Gaps.{places_after}
use Rattle.pgv_buf.proofs.fill.write_oids.Given as goal

abbrev pub invariant-loop-i : goal.invariant-loop-i
invariant-loop-i l = record {
  told : put_each (places_after l.place (drop l.i l.gaps)) (numbers (drop l.i l.oids)) l.bytes.items ≡ put_each (places_after 0 l.gaps) (numbers l.oids) l.fn.bytes.items;
  within : Within (length l.bytes.items) (places_after l.place (drop l.i l.gaps)) (numbers (drop l.i l.oids));
  many : length l.oids ≡ length l.gaps;
}
