use Rattle.pgv_wire.proofs.Counts.{none_more}
use Rattle.pgv_wire.proofs.arguments.note_slots.Goals as goal

pub returns-then-slots-eq0-clause-ok : goal.returns-then-slots-eq0-clause-ok
returns-then-slots-eq0-clause-ok c = λ all kept same. rw c.if-slots-eq0.true (none_more all c.args.counts.now.items kept)
