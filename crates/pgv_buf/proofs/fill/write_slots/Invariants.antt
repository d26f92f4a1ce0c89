use Rattle.std.proofs.Common.{◌≡◌, ◌+◌, ◌≤◌, drop, length, map, sum}
use Rattle.pgv_buf.specs.TokensView.{kept_of}
use Rattle.pgv_buf.specs.Fill.{slot_types}
use Rattle.pgv_buf.specs.Patches.{put_each, Within, choices}
use Rattle.pgv_buf.specs.Gaps.{places_after}
use Rattle.pgv_buf.proofs.fill.write_slots.Given as goal

abbrev pub invariant-loop-i : goal.invariant-loop-i
invariant-loop-i l = record {
  told : put_each (places_after l.place (drop l.next l.gaps)) (choices (slot_types (drop l.i l.types) (drop l.i l.counts)) (map kept_of (drop l.next l.slots))) l.bytes.items
      ≡ put_each (places_after 0 l.gaps) (choices (slot_types l.types l.counts) (map kept_of l.slots)) l.fn.bytes.items;
  within : Within (length l.bytes.items) (places_after l.place (drop l.next l.gaps)) (choices (slot_types (drop l.i l.types) (drop l.i l.counts)) (map kept_of (drop l.next l.slots)));
  left : l.next + sum (drop l.i l.counts) ≡ length l.slots;
  many : length l.counts ≤ length l.types;
  gaps : length l.gaps ≡ length l.slots;
}
