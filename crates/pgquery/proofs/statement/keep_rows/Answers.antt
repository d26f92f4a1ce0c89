use Rattle.std.proofs.Common.{[]}
use Rattle.pgquery.proofs.Talking.{converses_on, on_ok}
use Rattle.pgquery.proofs.statement.keep_rows.Goals as goal

pub returns : goal.returns
returns g c =
    let begun = c.args.connection.now in
    let prepared = c.prepare.new.connection in
    let executed = c.execute.new.connection in
    let p = c.in_ok-described.ensures in
    let e = c.in_ok-execute.ensures in
    let both = converses_on g.R.Read.remaining g.W.Write.contents begun prepared executed (p.sent, p.answers, p.talks) (e.0, [], e.2) in
    on_ok c.keep_answers.result (converses_on g.R.Read.remaining g.W.Write.contents begun executed c.keep_answers.new.connection both) c.keep_answers.ensures
