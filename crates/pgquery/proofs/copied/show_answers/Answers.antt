use Rattle.std.proofs.Common.{rules, ◌≡◌, ℕ, List, ◌++◌, ◌∷◌, [], ap, ◌∙◌, subst, refl}
use Rattle.std.specs.Io.KnownBytes.{Appends}
use Rattle.std.proofs.KnownBytes.{Appends-nil, Appends-trans}
use Rattle.std.proofs.lemmas.Bool.{ne_eqb}
use Rattle.pgv_copy.specs.CopyPieces.{nothing_came}
use Rattle.pgquery.specs.Incoming.{Incoming}
use Rattle.pgquery.proofs.CopyAnswers.{one_more_answer, ready_copies_nothing}
use Rattle.pgquery.proofs.Talking.{none_more, silent, talks_on, up_to_ready}
use Rattle.pgquery.proofs.copied.show_answers.Goals as goal

pub loop-init : goal.loop-init
loop-init g c = ([], [], tt, silent g.R.Read.remaining g.W.Write.contents c.args.connection.now, Appends-nil _, (c.in_ok-reader.ensures, refl))

pub loop-preserved : goal.loop-preserved
loop-preserved g c =
    let so_far = c.loop.invariant in
    let came = c.in_ok-tag.ensures in
    let m : Incoming = record { tag = c.in_ok-tag.tag; body = came.0 } in
    let last = c.in_ok-last.ensures m.tag m.body came.1 in
    let shown = rw (last.0, last.1) at c.in_ok-push_answer.ensures in
    let line : c.push_answer.new.line.items ≡ shown.0 = shown.2 ∙ ap (λ (xs : List ℕ). xs ++ shown.0) c.clear.ensures.items in
    let written : Appends (g.S.Write.contents c.loop.lines) (g.S.Write.contents c.write_all.new.self) c.push_answer.new.line.items = search rules in (
      so_far.0 ++ m ∷ [],
      so_far.1 ++ shown.0,
      none_more so_far.0 m so_far.2 (ne_eqb _ _ c.if-tag-eq90.false),
      talks_on g.R.Read.remaining g.W.Write.contents c.args.connection.now c.loop.connection c.next.new.self [] [] so_far.0 (m ∷ []) so_far.3 came.2,
      Appends-trans _ _ _ so_far.1 shown.0 so_far.4 (subst (Appends (g.S.Write.contents c.loop.lines) (g.S.Write.contents c.write_all.new.self)) line written),
      one_more_answer (nothing_came []) c.loop.reader c.push_answer.new.reader so_far.0 m so_far.1 shown.0 so_far.5 shown.1,
    )

pub returns-then-tag-eq90 : goal.returns-then-tag-eq90
returns-then-tag-eq90 g c =
    let so_far = c.loop.invariant in
    let came = c.in_ok-tag.ensures in
    let m : Incoming = record { tag = c.in_ok-tag.tag; body = came.0 } in (
      so_far.1,
      so_far.4,
      record {
        answers = so_far.0 ++ m ∷ [];
        after = c.loop.reader;
        ready = up_to_ready so_far.0 m so_far.2 c.if-tag-eq90.true;
        talks = talks_on g.R.Read.remaining g.W.Write.contents c.args.connection.now c.loop.connection c.next.new.self [] [] so_far.0 (m ∷ []) so_far.3 came.2;
        copies = ready_copies_nothing (nothing_came []) c.loop.reader so_far.0 m so_far.1 so_far.5 c.if-tag-eq90.true;
      },
    )
