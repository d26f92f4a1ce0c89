use Rattle.std.proofs.Common.{rules, ◌≡◌, Ok}
use Rattle.pgquery.specs.Statement.{preparing}
use Rattle.pgquery.proofs.Talking.{after_sending, if_ok}
use Rattle.pgquery.proofs.statement.prepare.Goals as goal

pub returns : goal.returns
returns g c =
    let sent = c.write_sync.new.out.items in
    let is_sent : preparing c.args.sql.now ≡ Ok sent = search rules in
    if_ok c.description.result
    (λ d k. record {
      sent = sent;
      answers = k.0;
      is_sent = is_sent;
      ready = k.1;
      talks = after_sending g.R.Read.remaining g.W.Write.contents c.args.connection.now c.send.new.self c.description.new.connection sent k.0 (rw c.as_slice.ensures.value at c.in_ok-send.ensures) k.2;
      is_described = k.3;
    }) c.description.ensures
