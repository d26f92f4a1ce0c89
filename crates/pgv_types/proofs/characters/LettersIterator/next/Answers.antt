use Rattle.pgv_types.proofs.Letter.{still_text, char_taken, progress}
use Rattle.pgv_types.specs.Left.{letters_left}
use Rattle.pgv_types.proofs.characters.LettersIterator.next.Goals as goal

pub invariant_of-self : goal.invariant_of-self
invariant_of-self c = record { is_text = still_text c.args.self.now.rest c.next.new.self c.next.result c.args.self.now.is_text c.next.ensures.steps.0 }

pub returns-clause-steps : goal.returns-clause-steps
returns-clause-steps c = char_taken c.args.self.now.rest c.next.new.self c.next.result c.args.self.now.is_text c.next.ensures.steps.0

pub returns-clause-goes : goal.returns-clause-goes
returns-clause-goes c = progress (λ c. c) letters_left c.args.self.now _ c.next.result (char_taken c.args.self.now.rest c.next.new.self c.next.result c.args.self.now.is_text c.next.ensures.steps.0)
