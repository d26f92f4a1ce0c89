use Rattle.std.proofs.Common.{arith}
use Rattle.std.specs.Prelude.{vec_capacity}
use Rattle.pgv_row.specs.Places.{parts_at}
use Rattle.pgv_row.proofs.DataRows.{row_read, enough_room}
use Rattle.pgv_value.proofs.ReadFronts.{are_bytes}
use Rattle.pgv_row.proofs.place.find_places.Goals as goal

pub returns-clause-read : goal.returns-clause-read
returns-clause-read c =
    let h = are_bytes c.args.bytes.now (λ i. omega (arith, c.type_inv.bytes i)) in
    let places = c.note_row.new.places.items in
    record {
      whole = row_read (λ _. parts_at c.args.bytes.now places) (vec_capacity c.args.places.now) c.args.width c.args.bytes.now c.note_row.result h c.note_row.ensures.read;
      in_room = enough_room (λ _. parts_at c.args.bytes.now places) (vec_capacity c.args.places.now) c.args.width c.args.bytes.now c.note_row.result c.note_row.ensures.read;
    }
