use Rattle.std.proofs.Common.{◌≡◌, ◌<◌, ◌++◌, List, length, map, take, drop, get_or, ap, ◌∙◌, sym, arith, add-one}
use Rattle.std.specs.Prelude.{slice_set}
use Rattle.pgv_row.specs.ColumnView.{Column}
use Rattle.pgv_row.specs.Description.{in_format}
use Rattle.pgv_row.proofs.ColumnFormats.{one_mapped}
use Rattle.pgv_row.proofs.column.PgColumns.set_format.Goals as goal

pub loop-column-preserved : goal.loop-column-preserved
loop-column-preserved c =
    let f = in_format c.args.format in
    let old : List Column = c.args.self.now in
    let i = c.loop-column.column-index in
    let x : Column = c.column-item.result in
    let inv : c.loop-column.column-items ≡ map f (take i old) ++ drop i old = c.loop-column.invariant in
    let is : x ≡ get_or (map f (take i old) ++ drop i old) i x = c.column-item.is ∙ ap (λ (xs : List Column). get_or xs i x) inv in
    let new_is : c.set_format.new.self ≡ f x = c.set_format.ensures ∙ ap f (sym c.column-item.is) in
    let same : c.deref_mut-column-items.result.now ≡ old = c.deref_mut-column-items.ensures.value ∙ c.self.view_is in
    let lt : i < length old = omega (arith, c.loop-column-test.true, ap length same) in
    rw add-one (ap (λ (xs : List Column). slice_set xs i c.set_format.new.self) inv ∙ ap (λ (y : Column). slice_set (map f (take i old) ++ drop i old) i y) new_is ∙ one_mapped f old i x lt is)
