use Rattle.std.proofs.Common.{◌≡◌, ◌∙◌, None, ap, sym, refl}
use Rattle.std.specs.Option.{option_and_then}
use Rattle.pgv_types.specs.declared.builtin.PgBuiltIn.{PgBuiltIn}
use Rattle.pgv_types.specs.declared.builtin.RowKind.{RowKind}
use Rattle.pgv_types.specs.declared.builtin.RowKind.TheVariants.{Simple, Pseudo, Array, Range}
use Rattle.pgv_types.specs.Table.{TypeEntry}
use Rattle.pgv_types.specs.TableView.{element_in_row}
use Rattle.pgv_types.proofs.builtin.PgBuiltIn.element.Goals as goal

no_element : (k : RowKind) → ((element : PgBuiltIn) → k ≡ Array element → ⊥) → element_in_row k ≡ None
no_element Simple n = refl
no_element Pseudo n = refl
no_element (Array element) n = absurd (n element refl)
no_element (Range element) n = refl

pub returns-in-Array : goal.returns-in-Array
returns-in-Array c = sym (ap (option_and_then (λ (e : TypeEntry). e.element)) c.row.ensures.entry ∙ ap element_in_row c.in-Array.is)

pub returns-in_default : goal.returns-in_default
returns-in_default c = sym (ap (option_and_then (λ (e : TypeEntry). e.element)) c.row.ensures.entry ∙ no_element c.row.result.now.kind c.in_default.not-Array)
