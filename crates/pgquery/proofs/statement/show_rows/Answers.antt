use Rattle.std.proofs.Common.{rules, ◌++◌, ◌∷◌, [], refl}
use Rattle.std.specs.Io.KnownBytes.{Appends}
use Rattle.std.proofs.KnownBytes.{Appends-nil, Appends-trans}
use Rattle.std.proofs.lemmas.Bool.{ne_eqb}
use Rattle.pgquery.specs.Incoming.{Incoming}
use Rattle.pgquery.proofs.AnsweredRows.{ready_shows_nothing, shows_more}
use Rattle.pgquery.proofs.Talking.{none_more, silent, talks_on, up_to_ready}
use Rattle.pgquery.proofs.statement.show_rows.Goals as goal

pub loop-init : goal.loop-init
loop-init g c = ([], [], tt, silent g.R.Read.remaining g.W.Write.contents c.args.connection.now, Appends-nil _, refl)

pub loop-preserved : goal.loop-preserved
loop-preserved g c =
    let so_far = c.loop.invariant in
    let came = c.in_ok-tag.ensures in
    let m : Incoming = record { tag = c.in_ok-tag.tag; body = came.0 } in
    let last = c.in_ok-answer.ensures m.tag m.body came.1 in
    let written : Appends (g.S.Write.contents c.loop.lines) (g.S.Write.contents c.write_all.new.self) c.set_line.new.line.items = search rules in
    let line = rw (last.0, last.1) at c.in_ok-set_line.ensures in (
      so_far.0 ++ m ∷ [],
      so_far.1 ++ c.set_line.new.line.items,
      none_more so_far.0 m so_far.2 (ne_eqb _ _ c.if-tag-eq90.false),
      talks_on g.R.Read.remaining g.W.Write.contents c.args.connection.now c.loop.connection c.answer.new.self [] [] so_far.0 (m ∷ []) so_far.3 came.2,
      Appends-trans _ _ _ so_far.1 c.set_line.new.line.items so_far.4 written,
      shows_more c.args.shown c.args.columns.now so_far.0 m so_far.1 c.set_line.new.line.items so_far.5 line,
    )

pub returns-then-tag-eq90 : goal.returns-then-tag-eq90
returns-then-tag-eq90 g c =
    let so_far = c.loop.invariant in
    let came = c.in_ok-tag.ensures in
    let m : Incoming = record { tag = c.in_ok-tag.tag; body = came.0 } in (
      so_far.1,
      so_far.4,
      (
        so_far.0 ++ m ∷ [],
        up_to_ready so_far.0 m so_far.2 c.if-tag-eq90.true,
        talks_on g.R.Read.remaining g.W.Write.contents c.args.connection.now c.loop.connection c.answer.new.self [] [] so_far.0 (m ∷ []) so_far.3 came.2,
        ready_shows_nothing c.args.shown c.args.columns.now so_far.0 m so_far.1 so_far.5 c.if-tag-eq90.true,
      ),
    )
