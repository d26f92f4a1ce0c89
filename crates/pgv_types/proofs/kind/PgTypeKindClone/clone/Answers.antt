use Rattle.std.proofs.Common.{ap, sym, ◌∙◌}
use Rattle.pgv_types.specs.Ty.{composite}
use Rattle.pgv_types.specs.Shown.{kind_of}
use Rattle.pgv_types.proofs.FieldCopies.{fields_copied}
use Rattle.pgv_types.proofs.kind.PgTypeKindClone.clone.Goals as goal

pub returns-in_ok-clone-in-Composite : goal.returns-in_ok-clone-in-Composite
returns-in_ok-clone-in-Composite c =
    record {
      cases =
          ap composite (fields_copied c.in-Composite.fields.items c.in_ok-clone-in-Composite.field-0.items c.in_ok-clone-in-Composite.ensures.cases.0)
          ∙ ap kind_of (sym c.in-Composite.is);
    }
