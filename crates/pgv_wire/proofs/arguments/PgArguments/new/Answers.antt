use Rattle.pgv_wire.proofs.ArgumentLists.{stands, arguments_are, nothing_stands}
use Rattle.pgv_wire.proofs.arguments.PgArguments.new.Goals as goal

pub invariant_of-result : goal.invariant_of-result
invariant_of-result c = rw (c.new.ensures, c.new-2.ensures.items, c.new-3.ensures.items) (stands nothing_stands)

pub returns : goal.returns
returns c = rw (c.new.ensures, c.new-2.ensures.items) (arguments_are nothing_stands)
