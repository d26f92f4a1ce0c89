use Rattle.std.proofs.Common.{◌≡◌, ◌+◌, drop, length, sum}
use Rattle.pgv_buf.specs.Patches.{put_each, Within}
use Rattle.pgv_buf.specs.Gaps.{places_after}
use Rattle.pgv_buf.proofs.WrittenRuns.{run_choices}
use Rattle.pgv_buf.proofs.fill.write_run.Given as goal

abbrev pub invariant-loop-i : goal.invariant-loop-i
invariant-loop-i l = record {
  told : put_each (places_after l.place (drop l.i l.gaps)) (run_choices l.parameter (drop l.i l.slots)) l.bytes.items ≡ put_each (places_after l.before l.gaps) (run_choices l.parameter l.slots) l.fn.bytes.items;
  within : Within (length l.bytes.items) (places_after l.place (drop l.i l.gaps)) (run_choices l.parameter (drop l.i l.slots));
  len : length l.bytes.items ≡ length l.fn.bytes.items;
  last : l.place + sum (drop l.i l.gaps) ≡ l.before + sum l.gaps;
  many : length l.gaps ≡ length l.slots;
}
