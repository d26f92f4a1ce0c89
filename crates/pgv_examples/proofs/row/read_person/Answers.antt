use mir.Val.{SFits}
use Rattle.std.proofs.Common.{◌≡◌, rules}
use Rattle.std.specs.Int.{w32, cast_signed, cast_unsigned}
use Rattle.std.proofs.lemmas.Int.{to_z-of_z}
use Rattle.pgv_examples.proofs.row.read_person.Goals as goal

pub returns : goal.returns
returns c =
    let read = c.in_ok-id.ensures.ok in
    let more = c.in_ok-name.ensures.ok in
    let fits : SFits w32 c.in_ok-id.id = search rules in
    let same : cast_signed w32 (cast_unsigned w32 c.in_ok-id.id) ≡ c.in_ok-id.id = to_z-of_z w32 c.in_ok-id.id fits in
    (read.0, _, more.0, _, read.1, more.1, rw same read.2, more.2)
