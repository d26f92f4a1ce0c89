use Rattle.std.proofs.Common.{◌≡◌, length}
use Rattle.pgv_message.specs.Exchange.{until_sync}
use Rattle.pgv_message.proofs.exchange.skip_to_sync.Given as goal

abbrev pub invariant-loop-first : goal.invariant-loop-first
invariant-loop-first l = until_sync l.waiting.items ≡ until_sync l.fn.waiting.items

abbrev pub decreases-loop-first : goal.decreases-loop-first
decreases-loop-first l = length l.waiting.items
