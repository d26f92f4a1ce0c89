use Rattle.std.specs.Io.KnownBytes.{Keeps}
use Rattle.pgquery.specs.Incoming.{unread, unread_from}
use Rattle.pgquery.proofs.inbox.Inbox.receive.Given as goal

-- nothing was taken yet
abbrev pub invariant-loop : goal.invariant-loop
invariant-loop g l = Keeps (unread g.R.Read.remaining l.fn.self) (unread_from g.R.Read.remaining l.self.start l.self)
