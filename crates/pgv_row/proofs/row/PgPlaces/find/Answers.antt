use Rattle.pgv_row.proofs.Places.{all_tested}
use Rattle.pgv_row.proofs.row.PgPlaces.find.Goals as goal

pub invariant_of-result : goal.invariant_of-result
invariant_of-result c = record { within = rw c.as_slice.ensures.value (all_tested c.args.body.now c.find_places.new.places.items c.in_ok-find_places.ensures.places) }
