use Rattle.std.proofs.Common.{◌≡◌}
use Rattle.pgquery.proofs.connection.Connection.note.Given as goal

abbrev pub invariant-loop-request : goal.invariant-loop-request
invariant-loop-request g l = (l.self.inbox ≡ l.fn.self.inbox) × (l.self.writer ≡ l.fn.self.writer)
