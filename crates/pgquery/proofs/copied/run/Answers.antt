use Rattle.std.proofs.Common.{rules, ◌≡◌, Ok}
use Rattle.pgv_message.specs.Messages.{query}
use Rattle.pgquery.proofs.Talking.{on_ok}
use Rattle.pgquery.proofs.copied.run.Goals as goal

pub returns : goal.returns
returns g c =
    let sent = c.write_query.new.out.items in
    let is_sent : query c.args.sql.now ≡ Ok sent = search rules in
    on_ok c.show_answers.result (λ k. (k.0, k.1, (c.send.new.self, (sent, is_sent, rw c.as_slice.ensures.value at c.in_ok-send.ensures), k.2))) c.show_answers.ensures
