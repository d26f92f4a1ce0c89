use Rattle.std.proofs.Common.{rules, ◌≡◌, ℕ, ◌-◌, drop, length, ap, sym, ◌∙◌}
use Rattle.pgv_message.specs.Received.{Message, message_at_front, message_view, found}
use Rattle.pgquery.proofs.MessageFronts.{comes, rest_place}
use Rattle.pgquery.proofs.inbox.Inbox.receive.Goals as goal

pub returns-in-Some : goal.returns-in-Some
returns-in-Some g c =
    let inbox = c.loop.self in
    let m : Message = message_view c.in-Some.message in
    let is : message_at_front (drop inbox.start inbox.came.items) ≡ found m.tag m.body m.rest = search rules in
    let end : c.saturating_sub-self.result ≡ length inbox.came.items - length m.rest = search rules in
    let last : message_at_front (drop inbox.start inbox.came.items) ≡ found m.tag m.body (drop c.saturating_sub-self.result inbox.came.items) =
    is ∙ ap (found m.tag m.body) (sym (rest_place inbox.came.items inbox.start m is) ∙ ap (λ (n : ℕ). drop n inbox.came.items) (sym end)) in
    (m.body, last, comes _ _ _ _ m.tag m.body c.loop.invariant last)
