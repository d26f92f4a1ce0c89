use Rattle.std.proofs.Common.{◌≡◌, ◌∙◌, ◌∷◌, ◌++◌, [], ap, rules, sym}
use Rattle.pgv_text.specs.Forms.{form_of}
use Rattle.pgv_text.specs.Copies.{as_it_is, in_quotes}
use Rattle.pgv_text.specs.declared.scanner.Cell.TheVariants.{End, Part, Pass}
use Rattle.pgv_text.specs.declared.scanner.Place.TheVariants.{Start, Quoted}
use Rattle.pgv_text.proofs.Copies.{run_ends, run_goes_on, run_quoted, run_unended}
use Rattle.pgv_text.proofs.Stops.{copies_ended, none_in, passed, run_from, stop_shorter}
use Rattle.pgv_text.proofs.parts.one_run.Goals.{in_default-via-in-Pass-Quoted+else-is_empty, in_default-via-in-Pass+in_default, in_default-via-in_default}
use Rattle.pgv_text.proofs.parts.one_run.Goals as goal

pub returns-in_err-first : goal.returns-in_err-first
returns-in_err-first c = rw c.from_residual.ensures (run_unended (form_of c.args.form) c.args.text.now c.in_err-first.ensures.1)

-- it ends at once
pub returns-in-Part : goal.returns-in-Part
returns-in-Part c =
    let form = form_of c.args.form in
    let first = c.in_ok-first.first in
    let stop = c.in_ok-first.ensures in (
      run_ends form stop.first.0 first.byte first.rest.now first.cell stop.first.2 c.args.text.now stop.first.1 c.in-Part.is,
      record {
        part = (stop.onward, c.in-Part.is);
        shorter = stop_shorter c.args.text.now first.run.now first.rest.now first.byte stop.whole;
        copies = copies_ended form Start c.args.text.now first.rest.now first.cell stop.copies c.in-Part.is;
      },
    )

-- in quotes
pub returns-in-Pass-Quoted : goal.returns-in-Pass-Quoted
returns-in-Pass-Quoted c =
    let form = form_of c.args.form in
    let first = c.in_ok-first.first in
    let stop = c.in_ok-first.ensures in
    let quoted : c.in-Pass-Quoted.field-0 ≡ Quoted = rw c.in-Pass-Quoted.is at c.in-Pass-Quoted.field-0-is in
    let passes = c.in-Pass-Quoted.is ∙ ap Pass quoted in
    let none = none_in first.run.now (sym c.is_empty.ensures ∙ c.if-is_empty.true) in
    let same = run_quoted form stop.first.0 first.byte first.rest.now first.cell stop.first.2 c.args.text.now stop.first.1 passes
    (stop.whole ∙ ap (λ r. r ++ first.byte ∷ first.rest.now) none) in
    run_from c.args.form Start Quoted c.args.text.now first.rest.now (as_it_is form c.args.text.now) (in_quotes form first.rest.now) same
    (passed form Start Quoted first.byte c.args.text.now first.run.now first.rest.now first.cell stop.onward passes none)
    (rw passes at stop.copies)
    (stop_shorter c.args.text.now first.run.now first.rest.now first.byte stop.whole)
    c.run_in_quotes.result c.run_in_quotes.ensures

-- anything else
pub returns-in_default : goal.returns-in_default
returns-in_default c =
    let first = c.in_ok-first.first in
    let stop = c.in_ok-first.ensures in
    let goes_on : (first.cell ≡ Part → ⊥) × (first.cell ≡ End → ⊥) × (first.cell ≡ Pass Quoted → first.run.now ≡ [] → ⊥) =
    elim c.in_default.branch [
      | in_default-via-in-Pass-Quoted+else-is_empty w ↦ search rules
      | in_default-via-in-Pass+in_default w ↦ search rules
      | in_default-via-in_default w ↦ search rules
    ] in
    run_goes_on (form_of c.args.form) stop.first.0 first.byte first.rest.now first.cell stop.first.2 c.args.text.now first.run.now stop.first.1 stop.whole stop.stops_there
    goes_on.0 goes_on.1 goes_on.2
