use Rattle.std.proofs.Common.{◌≡◌, ap, sym, ◌∙◌}
use Rattle.pgv_types.specs.LentParts.{kind_lent}
use Rattle.pgv_types.specs.Shown.{kind_of, fields_of}
use Rattle.pgv_types.specs.Ty.{composite}
use Rattle.pgv_codec.proofs.FieldTypes.{composite_type}
use Rattle.pgv_codec.proofs.nest.record.field_type_under.Goals as goal

pub returns-in-Composite : goal.returns-in-Composite
returns-in-Composite c =
    let custom = c.in-Custom.custom.value in
    let kind : kind_of custom.kind ≡ composite (fields_of c.in-Composite.fields.now) = rw (← c.deref.ensures) (sym c.kind.ensures ∙ ap kind_lent c.in-Composite.is) in
    let same = composite_type custom.oid.0 (kind_of custom.kind) c.in-Composite.fields.now c.args.place c.args.oid.0 kind in
    rw (← c.base.view_is, c.in-Custom.is, same) c.composite_field.ensures
