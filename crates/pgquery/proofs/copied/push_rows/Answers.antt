use Rattle.std.proofs.Common.{rules, ◌≡◌, ℕ, List, [], ◌∷◌, ◌++◌, Ok, ap, sym, ◌∙◌, append_assoc, subst}
use Rattle.std.specs.List.{flat_map}
use Rattle.pgv_copy.specs.CopyPieces.{Advances}
use Rattle.pgv_copy.specs.declared.pieces.PgCopyNext.{PgCopyNext}
use Rattle.pgv_copy.specs.declared.pieces.PgCopyNext.TheVariants.{Row}
use Rattle.pgquery.specs.Copying.{copied_line}
use Rattle.pgquery.proofs.CopyAnswers.{one_more_line, one_more_row, row_there}
use Rattle.pgquery.proofs.copied.push_rows.Goals as goal

pub loop-preserved : goal.loop-preserved
loop-preserved c =
    let so_far = c.loop.invariant in
    let is_row : c.in_ok-advance.field-0 ≡ Row = search rules in
    let advances : Advances c.loop.reader (Ok Row) c.advance.new.self = subst (λ (next : PgCopyNext). Advances c.loop.reader (Ok next) c.advance.new.self) is_row c.in_ok-advance.ensures.found in
    let row = row_there c.loop.reader c.advance.new.self advances in (
      so_far.0 ++ row.0 ∷ [],
      one_more_row _ c.loop.reader c.advance.new.self so_far.0 row.0 so_far.1 advances row.1,
      c.in_ok-push_row.ensures row.0 row.1 ∙ ap (λ (xs : List ℕ). xs ++ copied_line row.0) so_far.2
          ∙ append_assoc c.args.line.now.items (flat_map copied_line so_far.0) (copied_line row.0) ∙ ap (λ (xs : List ℕ). c.args.line.now.items ++ xs) (sym (one_more_line so_far.0 row.0)),
    )
