use Rattle.std.proofs.Common.{◌≡◌, ◌<◌, ◌≤◌, ◌++◌, ◌∙◌, List, ℕ, length, string_bytes, ap, append-nil, arith, rules, sym}
use Rattle.pgv_text.specs.declared.scanner.Place.{Place}
use Rattle.pgv_text.specs.declared.scanner.Place.TheVariants.{Start}
use Rattle.pgv_text.specs.declared.scanner.Stop.{Stop}
use Rattle.pgv_text.specs.declared.scanner.TextForm.{TextForm}
use Rattle.pgv_text.specs.Copies.{copies_after, copies_by}
use Rattle.pgv_text.specs.Forms.{form_of}
use Rattle.pgv_text.specs.PartFound.{IsNextStop, goes_on}
use Rattle.pgv_text.specs.Scan.{grown, read, read_by}
use Rattle.pgv_text.proofs.Stops.{none_in, stop_shorter, grown_twice}
use Rattle.pgv_text.proofs.parts.unquote.Goals.{then-not-is_empty+in_ok-push_str, else-not-is_empty}
use Rattle.pgv_text.proofs.parts.unquote.Goals as goal

-- with the run before the next stop
further : (form : TextForm) (p : Place) (text left before longer : List ℕ) (s : Stop) → read (form_of form) Start text ≡ grown before (read (form_of form) p left) →
    IsNextStop form p left s → longer ≡ before ++ s.run.now → read (form_of form) Start text ≡ goes_on form longer s
further form p text left before longer s so_far next more =
    let onward = read_by (form_of form) s.byte s.rest.now (λ q. read (form_of form) q s.rest.now) s.cell in
    so_far ∙ (ap (grown before) next.onward ∙ (sym (grown_twice before s.run.now onward) ∙ ap (λ b. grown b onward) (sym more)))

fewer : (form : TextForm) (p : Place) (text left : List ℕ) (s : Stop) → length left ≤ length text → IsNextStop form p left s → length s.rest.now < length text
fewer form p text left s le next = omega (arith, le, stop_shorter left s.run.now s.rest.now s.byte next.whole)

pub loop-stop-preserved : goal.loop-stop-preserved
loop-stop-preserved c =
    let form = form_of c.args.form in
    let stop = c.in-Some.stop in
    let before = string_bytes c.loop-stop.out in
    let longer : string_bytes c.if-not-is_empty.out ≡ before ++ stop.run.now =
    elim c.if-not-is_empty.branch [
      | then-not-is_empty+in_ok-push_str w ↦ ap string_bytes w.out-is ∙ w.in_ok-push_str.ensures.bytes
      | else-not-is_empty w ↦ ap string_bytes w.out-is ∙ sym (append-nil before) ∙ ap (λ r. before ++ r) (sym (none_in stop.run.now (sym c.is_empty.ensures ∙ w.if-not-is_empty.false)))
    ] in (
      search rules,
      further c.args.form c.loop-stop.place c.args.text.now c.loop-stop.left.now before (string_bytes c.if-not-is_empty.out) stop c.loop-stop.invariant.1 c.in-Some.ensures longer
          ∙ ap (λ k. grown (string_bytes c.if-not-is_empty.out) (read_by form stop.byte stop.rest.now (λ q. read form q stop.rest.now) k)) c.in-Pass.is,
      omega (arith, fewer c.args.form c.loop-stop.place c.args.text.now c.loop-stop.left.now stop c.loop-stop.invariant.2 c.in-Some.ensures),
      c.loop-stop.invariant.3 ∙ (c.in-Some.ensures.copies ∙ ap (copies_by form stop.rest.now (λ q. copies_after form q stop.rest.now)) c.in-Pass.is),
    )

pub returns-in_default-cell : goal.returns-in_default-cell
returns-in_default-cell c =
    let stop = c.in-Some.stop in
    let before = string_bytes c.loop-stop.out in
    let longer : string_bytes c.if-not-is_empty.out ≡ before ++ stop.run.now =
    elim c.if-not-is_empty.branch [
      | then-not-is_empty+in_ok-push_str w ↦ ap string_bytes w.out-is ∙ w.in_ok-push_str.ensures.bytes
      | else-not-is_empty w ↦ ap string_bytes w.out-is ∙ sym (append-nil before) ∙ ap (λ r. before ++ r) (sym (none_in stop.run.now (sym c.is_empty.ensures ∙ w.if-not-is_empty.false)))
    ] in
    record {
      end = further c.args.form c.loop-stop.place c.args.text.now c.loop-stop.left.now before (string_bytes c.if-not-is_empty.out) stop c.loop-stop.invariant.1 c.in-Some.ensures longer;
      shorter = fewer c.args.form c.loop-stop.place c.args.text.now c.loop-stop.left.now stop c.loop-stop.invariant.2 c.in-Some.ensures;
      halts_there = search rules;
      copies = c.loop-stop.invariant.3 ∙ c.in-Some.ensures.copies;
    }

pub returns : goal.returns
returns c = c.loop-stop.invariant.1 ∙ ap (grown (string_bytes c.loop-stop.out)) c.in_default.ensures.0
