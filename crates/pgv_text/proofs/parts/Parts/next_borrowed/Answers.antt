use Rattle.std.proofs.Common.{refl}
use Rattle.std.proofs.lemmas.Result.{MatchResult-from_err}
use Rattle.pgv_text.proofs.NextParts.{fewer_left, first_is_copied, none_left, part_taken, some_left, unread_left}
use Rattle.pgv_text.proofs.parts.Parts.next_borrowed.Goals as goal

pub returns-then-self-eq0-clause-taken : goal.returns-then-self-eq0-clause-taken
returns-then-self-eq0-clause-taken c =
    let p = c.args.self.now in
    (none_left p.form p.rest.now p.count p.counted c.if-self-eq0.true, refl)

pub returns-then-self-eq0-clause-brackets : goal.returns-then-self-eq0-clause-brackets
returns-then-self-eq0-clause-brackets c = record { lower = refl; upper = refl; of_empty = refl }

pub returns-in_err-part-clause-taken : goal.returns-in_err-part-clause-taken
returns-in_err-part-clause-taken c =
    let p = c.args.self.now in
    let some = some_left p.form p.rest.now p.count p.counted c.if-self-eq0.false in
    MatchResult-from_err c.from_residual.result _ _ c.from_residual.ensures.0 (λ e. ((some, refl), first_is_copied p.form p.rest.now c.in_err-part.ensures some))

pub returns-in_err-part-clause-brackets : goal.returns-in_err-part-clause-brackets
returns-in_err-part-clause-brackets c = record { lower = refl; upper = refl; of_empty = refl }

-- a part is there
pub returns-in_default-clause-taken : goal.returns-in_default-clause-taken
returns-in_default-clause-taken c =
    let p = c.args.self.now in
    absurd (some_left p.form p.rest.now p.count p.counted c.if-self-eq0.false (unread_left p.form p.rest.now (rw c.in_default.is at c.in_ok-part.ensures)))

pub returns-in_default-clause-brackets : goal.returns-in_default-clause-brackets
returns-in_default-clause-brackets c = record { lower = refl; upper = refl; of_empty = refl }

pub invariant_of-self : goal.invariant_of-self
invariant_of-self c =
    let p = c.args.self.now in
    let found = rw c.in-Some.is at c.in_ok-part.ensures in
    let first = part_taken p.form p.rest.now _ c.in-Some.part c.in-Some.stop found (some_left p.form p.rest.now p.count p.counted c.if-self-eq0.false) in
    record { counted = fewer_left _ _ _ p.count p.counted first.0 }

pub returns-clause-taken : goal.returns-clause-taken
returns-clause-taken c =
    let p = c.args.self.now in
    let found = rw c.in-Some.is at c.in_ok-part.ensures in
    part_taken p.form p.rest.now _ c.in-Some.part c.in-Some.stop found (some_left p.form p.rest.now p.count p.counted c.if-self-eq0.false)

pub returns-clause-brackets : goal.returns-clause-brackets
returns-clause-brackets c = record { lower = refl; upper = refl; of_empty = refl }
