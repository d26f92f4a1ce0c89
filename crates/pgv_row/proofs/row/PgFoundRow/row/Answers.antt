use Rattle.pgv_row.specs.RowParts.{body_of}
use Rattle.pgv_row.proofs.Places.{all_within}
use Rattle.pgv_row.proofs.row.PgFoundRow.row.Goals as goal

pub invariant_of-result : goal.invariant_of-result
invariant_of-result c = all_within (body_of c.args.self.bytes) c.args.self.places.now c.args.self.within
