use Rattle.std.proofs.Common.{◌≡◌, ◌-◌, ◌≤◌, drop, length}
use Rattle.std.specs.Prelude.{vec_len, vec_capacity}
use Rattle.pgv_value.specs.Fronts.{one_part}
use Rattle.pgv_row.specs.Places.{parts_at, AreWithin}
use Rattle.pgv_value.specs.Several.{several}
use Rattle.pgv_value.proofs.Several.{with_front}
use Rattle.pgv_row.proofs.place.note_places.Given as goal

-- what was read and what is left to read are the parts of the row
abbrev pub invariant-loop : goal.invariant-loop
invariant-loop l = record {
  read : with_front (parts_at l.bytes l.places.items) (several one_part (l.width - l.counter) (drop l.next l.bytes)).answer ≡ (several one_part l.width (drop l.at l.bytes)).answer;
  within : AreWithin l.bytes l.places.items;
  many : vec_len l.places ≡ l.counter;
  room : l.width ≤ vec_capacity l.places;
  kept : vec_capacity l.fn.places ≤ vec_capacity l.places;
  next : l.next ≤ length l.bytes;
}
