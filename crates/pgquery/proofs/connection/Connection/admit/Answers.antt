use Rattle.std.proofs.Common.{◌++◌, ◌∷◌, []}
use Rattle.pgquery.specs.Incoming.{Incoming}
use Rattle.pgquery.proofs.Talking.{talks_on}
use Rattle.pgquery.proofs.connection.Connection.admit.Goals as goal

pub loop-preserved : goal.loop-preserved
loop-preserved g c =
    let so_far = c.loop.invariant in
    let came = c.in_ok-tag.ensures in
    let m : Incoming = record { tag = c.in_ok-tag.tag; body = came.0 } in
    (so_far.0 ++ m ∷ [], talks_on g.R.Read.remaining g.W.Write.contents c.args.self.now c.loop.self c.next.new.self [] [] so_far.0 (m ∷ []) so_far.1 came.2)

pub returns-in-90 : goal.returns-in-90
returns-in-90 g c =
    let so_far = c.loop.invariant in
    let came = c.in_ok-tag.ensures in
    let m : Incoming = record { tag = c.in_ok-tag.tag; body = came.0 } in
    (so_far.0 ++ m ∷ [], talks_on g.R.Read.remaining g.W.Write.contents c.args.self.now c.loop.self c.next.new.self [] [] so_far.0 (m ∷ []) so_far.1 came.2)
