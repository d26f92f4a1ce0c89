use Rattle.std.proofs.Common.{◌++◌, ◌∷◌, [], ap, sym, ◌∙◌}
use Rattle.std.proofs.lemmas.Bool.{ne_eqb}
use Rattle.pgquery.specs.Incoming.{Incoming}
use Rattle.pgquery.specs.Statement.{described}
use Rattle.pgquery.proofs.AnsweredRows.{description_more, ready_describes_nothing}
use Rattle.pgquery.proofs.Talking.{none_more, silent, talks_on, up_to_ready}
use Rattle.pgquery.proofs.statement.description.Goals as goal

pub loop-init : goal.loop-init
loop-init g c = ([], tt, silent g.R.Read.remaining g.W.Write.contents c.args.connection.now, sym c.in_ok-from_slice.ensures.items)

pub loop-preserved : goal.loop-preserved
loop-preserved g c =
    let so_far = c.loop.invariant in
    let came = c.in_ok-tag.ensures in
    let m : Incoming = record { tag = c.in_ok-tag.tag; body = came.0 } in
    let last = c.in_ok-last.ensures m.tag m.body came.1 in (
      so_far.0 ++ m ∷ [],
      none_more so_far.0 m so_far.1 (ne_eqb _ _ c.if-tag-eq90.false),
      talks_on g.R.Read.remaining g.W.Write.contents c.args.connection.now c.loop.connection c.answer.new.self [] [] so_far.0 (m ∷ []) so_far.2 came.2,
      description_more (0 ∷ 0 ∷ []) so_far.0 m ∙ ap (λ body. described body m) so_far.3
          ∙ ap (λ body. described c.loop.described.rows.items (record { tag = m.tag; body = body })) (sym last.1) ∙ sym c.in_ok-note.ensures,
    )

pub returns-then-tag-eq90 : goal.returns-then-tag-eq90
returns-then-tag-eq90 g c =
    let so_far = c.loop.invariant in
    let came = c.in_ok-tag.ensures in
    let m : Incoming = record { tag = c.in_ok-tag.tag; body = came.0 } in (
      so_far.0 ++ m ∷ [],
      up_to_ready so_far.0 m so_far.1 c.if-tag-eq90.true,
      talks_on g.R.Read.remaining g.W.Write.contents c.args.connection.now c.loop.connection c.answer.new.self [] [] so_far.0 (m ∷ []) so_far.2 came.2,
      description_more (0 ∷ 0 ∷ []) so_far.0 m ∙ ap (λ body. described body m) so_far.3 ∙ ready_describes_nothing _ m c.if-tag-eq90.true,
    )
