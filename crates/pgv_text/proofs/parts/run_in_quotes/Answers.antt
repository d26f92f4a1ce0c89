use Rattle.std.proofs.Common.{◌≡◌, ◌∙◌, ◌⊎◌, ◌∷◌, ◌++◌, [], ap, arith, rules, sym}
use Rattle.pgv_text.specs.Forms.{form_of}
use Rattle.pgv_text.specs.declared.scanner.Cell.TheVariants.{End, Part, Pass}
use Rattle.pgv_text.specs.declared.scanner.Place.TheVariants.{AfterQuote, Quoted}
use Rattle.pgv_text.proofs.Copies.{ends_at_once, ends_later, never_ends, quotes_close, quotes_escape, quotes_unended}
use Rattle.pgv_text.proofs.Stops.{copies_ended, none_in, run_alone, stop_shorter}
use Rattle.pgv_text.proofs.parts.run_in_quotes.Goals.{in_default-via-in-Pass+in_default, in_default-via-in_default, in_default-cell-via-in-Part+else-is_empty, in_default-cell-via-in_default-cell}
use Rattle.pgv_text.proofs.parts.run_in_quotes.Goals as goal

-- no other quote
pub returns-in_err-inside : goal.returns-in_err-inside
returns-in_err-inside c = rw c.from_residual.ensures (quotes_unended (form_of c.args.form) c.args.text.now c.in_err-inside.ensures.1)

-- a backslash
pub returns-in_default : goal.returns-in_default
returns-in_default c =
    let inside = c.in_ok-inside.inside in
    let stop = c.in_ok-inside.ensures in
    let goes_on : inside.cell ≡ Pass AfterQuote → ⊥ = elim c.in_default.branch [ in_default-via-in-Pass+in_default w ↦ search rules | in_default-via-in_default w ↦ search rules ] in
    quotes_escape (form_of c.args.form) stop.first.0 inside.byte inside.rest.now inside.cell stop.first.2 c.args.text.now stop.first.1 stop.stops_there goes_on

-- nothing that ends the part
pub returns-in_err-end : goal.returns-in_err-end
returns-in_err-end c =
    let form = form_of c.args.form in
    let inside = c.in_ok-inside.inside in
    let stop = c.in_ok-inside.ensures in
    let closed : c.in-Pass-AfterQuote.field-0 ≡ AfterQuote = rw c.in-Pass-AfterQuote.is at c.in-Pass-AfterQuote.field-0-is in
    rw c.from_residual-in_err-end.ensures
    (quotes_close form stop.first.0 inside.byte inside.rest.now inside.cell stop.first.2 c.args.text.now stop.first.1 (c.in-Pass-AfterQuote.is ∙ ap Pass closed)
    ∙ never_ends form inside.rest.now c.in_err-end.ensures.1)

pub returns-in-Part : goal.returns-in-Part
returns-in-Part c =
    let form = form_of c.args.form in
    let inside = c.in_ok-inside.inside in
    let stop = c.in_ok-inside.ensures in
    let end = c.in_ok-end.end in
    let last = c.in_ok-end.ensures in
    let closed : c.in-Pass-AfterQuote.field-0 ≡ AfterQuote = rw c.in-Pass-AfterQuote.is at c.in-Pass-AfterQuote.field-0-is in
    let passes = c.in-Pass-AfterQuote.is ∙ ap Pass closed in
    let none = none_in end.run.now (sym c.is_empty.ensures ∙ c.if-is_empty.true) in (
      quotes_close form stop.first.0 inside.byte inside.rest.now inside.cell stop.first.2 c.args.text.now stop.first.1 passes
          ∙ ends_at_once form last.first.0 end.byte end.rest.now end.cell last.first.2 inside.rest.now (last.whole ∙ ap (λ r. r ++ end.byte ∷ end.rest.now) none) c.in-Part.is,
      record {
        part = (
          run_alone form Quoted AfterQuote inside.byte end.byte c.args.text.now inside.run.now inside.rest.now end.run.now end.rest.now inside.cell end.cell
              stop.onward passes last.onward none,
          c.in-Part.is,
        );
        shorter = omega (arith, stop_shorter c.args.text.now inside.run.now inside.rest.now inside.byte stop.whole, stop_shorter inside.rest.now end.run.now end.rest.now end.byte last.whole);
        copies = (rw passes at stop.copies) ∙ copies_ended form AfterQuote inside.rest.now end.rest.now end.cell last.copies c.in-Part.is;
      },
    )

-- more than the quote
pub returns-in_default-cell : goal.returns-in_default-cell
returns-in_default-cell c =
    let form = form_of c.args.form in
    let inside = c.in_ok-inside.inside in
    let stop = c.in_ok-inside.ensures in
    let end = c.in_ok-end.end in
    let last = c.in_ok-end.ensures in
    let closed : c.in-Pass-AfterQuote.field-0 ≡ AfterQuote = rw c.in-Pass-AfterQuote.is at c.in-Pass-AfterQuote.field-0-is in
    let more : (end.cell ≡ Part) ⊎ (end.cell ≡ End) → end.run.now ≡ [] → ⊥ =
    elim c.in_default-cell.branch [ in_default-cell-via-in-Part+else-is_empty w ↦ search rules | in_default-cell-via-in_default-cell w ↦ search rules ] in
    quotes_close form stop.first.0 inside.byte inside.rest.now inside.cell stop.first.2 c.args.text.now stop.first.1 (c.in-Pass-AfterQuote.is ∙ ap Pass closed)
    ∙ ends_later form last.first.0 end.byte end.rest.now end.cell last.first.2 inside.rest.now end.run.now last.first.1 last.whole more
