use Rattle.std.proofs.Common.{◌≡◌, length}
use Rattle.pgv_types.specs.Left.{left, name_letters_left}
use Rattle.pgv_types.proofs.name.IdentifierCharsIterator.next.Given as goal

abbrev pub invariant-loop-ch : goal.invariant-loop-ch
invariant-loop-ch l = left l.self ≡ left l.fn.self

abbrev pub decreases-loop-ch : goal.decreases-loop-ch
decreases-loop-ch l = length (name_letters_left l.self.letters)
