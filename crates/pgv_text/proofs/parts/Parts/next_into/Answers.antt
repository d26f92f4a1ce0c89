use Rattle.std.proofs.Common.{◌≡◌, ◌∙◌, ◌∷◌, [], false, not, cond, None, Some, ap, refl, string_bytes, sym}
use Rattle.std.proofs.lemmas.Bool.{false≢true}
use Rattle.pgv_text.specs.PartsLeftView.{values_left}
use Rattle.pgv_text.proofs.NextParts.{fewer_left, none_left, some_left, unquoted_taken, unread_left, value_put}
use Rattle.pgv_text.proofs.parts.Parts.next_into.Goals.{then-not-present, else-not-present}
use Rattle.pgv_text.proofs.parts.Parts.next_into.Goals as goal

pub returns-then-self-eq0-clause-taken : goal.returns-then-self-eq0-clause-taken
returns-then-self-eq0-clause-taken c =
    let p = c.args.self.now in
    ((none_left p.form p.rest.now p.count p.counted c.if-self-eq0.true, refl), c.clear.ensures.bytes)

pub returns-then-self-eq0-clause-brackets : goal.returns-then-self-eq0-clause-brackets
returns-then-self-eq0-clause-brackets c = record { lower = refl; upper = refl; of_empty = refl }

pub returns-in-Err-clause-taken : goal.returns-in-Err-clause-taken
returns-in-Err-clause-taken c =
    let p = c.args.self.now in
    ((some_left p.form p.rest.now p.count p.counted c.if-self-eq0.false, refl), c.clear-in-Err.ensures.bytes)

pub returns-in-Err-clause-brackets : goal.returns-in-Err-clause-brackets
returns-in-Err-clause-brackets c = record { lower = refl; upper = refl; of_empty = refl }

-- a part is there
pub returns-in_default-clause-taken : goal.returns-in_default-clause-taken
returns-in_default-clause-taken c =
    let p = c.args.self.now in
    absurd (some_left p.form p.rest.now p.count p.counted c.if-self-eq0.false (unread_left p.form p.rest.now (rw c.in_default.is at c.in-Ok.ensures)))

pub returns-in_default-clause-brackets : goal.returns-in_default-clause-brackets
returns-in_default-clause-brackets c = record { lower = refl; upper = refl; of_empty = refl }

pub invariant_of-self : goal.invariant_of-self
invariant_of-self c =
    let p = c.args.self.now in
    let found = rw c.in-Some.is at c.in-Ok.ensures in
    let first = unquoted_taken p.form p.rest.now (string_bytes c.unquote.new.out) c.in-Some.stop found (some_left p.form p.rest.now p.count p.counted c.if-self-eq0.false) in
    record { counted = fewer_left _ _ _ p.count p.counted first.0 }

pub returns-clause-taken : goal.returns-clause-taken
returns-clause-taken c =
    let p = c.args.self.now in
    let nothing = c.is_nothing-present.result in
    let bytes = string_bytes c.unquote.new.out in
    let found = rw c.in-Some.is at c.in-Ok.ensures in
    let first = unquoted_taken p.form p.rest.now bytes c.in-Some.stop found (some_left p.form p.rest.now p.count p.counted c.if-self-eq0.false) in
    let text : (nothing ≡ false → string_bytes c.if-not-present.text ≡ bytes) × (not nothing ≡ false → string_bytes c.if-not-present.text ≡ []) =
    elim c.if-not-present.branch [
      | then-not-present w ↦ (λ e. absurd (false≢true (sym e ∙ w.if-not-present.true)), λ e. ap string_bytes w.text-is ∙ w.clear-then-not-present.ensures.bytes)
      | else-not-present w ↦ (λ e. ap string_bytes w.text-is, λ e. absurd (false≢true (sym e ∙ ap not w.if-not-present.false)))
    ] in (
      (
        first.0 ∙ ap (λ v. v ∷ values_left p.form c.in-Some.stop.rest.now)
            (ap (λ b. cond b None (Some bytes)) (sym c.is_nothing-present.ensures) ∙ value_put nothing bytes (string_bytes c.if-not-present.text) text.0),
        first.1,
      ),
      text.1,
    )

pub returns-clause-brackets : goal.returns-clause-brackets
returns-clause-brackets c = record { lower = refl; upper = refl; of_empty = refl }
