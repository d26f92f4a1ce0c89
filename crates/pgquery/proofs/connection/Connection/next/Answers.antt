use Rattle.std.proofs.Common.{refl, sym, ◌∙◌, [], ◌∷◌}
use Rattle.pgquery.specs.Incoming.{Incoming}
use Rattle.pgquery.proofs.Talking.{answers, passes, silent, talks_on}
use Rattle.pgquery.proofs.connection.Connection.next.Goals as goal

pub loop-init : goal.loop-init
loop-init g c = silent g.R.Read.remaining g.W.Write.contents c.args.self.now

pub loop-preserved : goal.loop-preserved
loop-preserved g c =
    let came = c.in_ok-tag.ensures in
    let m : Incoming = record { tag = c.in_ok-tag.tag; body = came.0 } in
    let after = record c.loop.self { inbox = c.receive.new.self } in
    talks_on g.R.Read.remaining g.W.Write.contents c.args.self.now c.loop.self after [] [] [] [] c.loop.invariant
    (passes g.R.Read.remaining g.W.Write.contents c.loop.self after m came.2 refl (sym c.is_passed_over.ensures ∙ c.if-not-is_passed_over.false))

pub returns-then-not-is_passed_over : goal.returns-then-not-is_passed_over
returns-then-not-is_passed_over g c =
    let came = c.in_ok-tag.ensures in
    let m : Incoming = record { tag = c.in_ok-tag.tag; body = came.0 } in
    let after = record c.loop.self { inbox = c.receive.new.self } in (
      came.0,
      came.1,
      talks_on g.R.Read.remaining g.W.Write.contents c.args.self.now c.loop.self after [] [] [] (m ∷ []) c.loop.invariant
          (answers g.R.Read.remaining g.W.Write.contents c.loop.self after m came.2 refl (sym c.is_passed_over.ensures ∙ c.if-not-is_passed_over.true)),
    )
