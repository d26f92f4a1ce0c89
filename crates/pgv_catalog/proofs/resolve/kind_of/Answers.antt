use Rattle.std.proofs.Common.{ap}
use Rattle.std.specs.Prelude.{option_map}
use Rattle.pgv_types.specs.Ty.{composite}
use Rattle.pgv_catalog.specs.Rows.{typed_fields}
use Rattle.pgv_catalog.proofs.MadeTypes.{Found, fields_are}
use Rattle.pgv_catalog.proofs.resolve.kind_of.Goals as goal

pub returns-in-Some-4 : goal.returns-in-Some-4
returns-in-Some-4 c =
    let found = rw c.in-Some-4.is at c.in_ok-fields-in-Composite.ensures in
    rw (c.in-Composite.is, fields_are c.in-Some-4.fields.items) (ap (λ (o : Found). option_map (λ fields. composite (typed_fields fields)) o) found)
