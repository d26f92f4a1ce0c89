use Rattle.std.proofs.Common.{◌≡◌, ◌+◌, ◌==◌, ◌∙◌, ℕ, false, List, [], ◌∷◌, Option, Some, None, length, ap, refl, arith, rules, sym}
use Rattle.std.proofs.lemmas.Bool.{false≢true}
use Rattle.pgv_text.specs.declared.scanner.Cell.{Cell}
use Rattle.pgv_text.specs.declared.scanner.Cell.TheVariants.{End, Part}
use Rattle.pgv_text.specs.declared.scanner.Place.{Place}
use Rattle.pgv_text.specs.declared.scanner.Place.TheVariants.{Start}
use Rattle.pgv_text.specs.declared.scanner.Stop.{Stop}
use Rattle.pgv_text.specs.declared.scanner.TextForm.{TextForm}
use Rattle.pgv_text.specs.Forms.{form_of}
use Rattle.pgv_text.specs.PartFound.{IsNextStop}
use Rattle.pgv_text.specs.Scan.{Rest, at_end, grown, numbered, read, read_by}
use Rattle.pgv_text.proofs.CountedParts.{one_more}
use Rattle.pgv_text.proofs.Stops.{none_in, stop_shorter}
use Rattle.pgv_text.proofs.parts.part_count.Goals as goal

-- the run before a stop doesn't count
run_uncounted : (n : ℕ) (run : List ℕ) (r : Option Rest) → numbered n (grown run r) ≡ numbered n r
run_uncounted n run None = refl
run_uncounted n run (Some r) = refl

-- from the next stop on, by its cell
counted_on : (form : TextForm) (p : Place) (text left : List ℕ) (n : ℕ) (s : Stop) (k : Cell) → numbered n (read (form_of form) p left) ≡ numbered 1 (read (form_of form) Start text) →
    IsNextStop form p left s → s.cell ≡ k → numbered n (read_by (form_of form) s.byte s.rest.now (λ q. read (form_of form) q s.rest.now) k) ≡ numbered 1 (read (form_of form) Start text)
counted_on form p text left n s k so_far stop is =
    let go = λ (m : Cell). read_by (form_of form) s.byte s.rest.now (λ q. read (form_of form) q s.rest.now) m in
    sym (run_uncounted n s.run.now (go k)) ∙ (ap (λ m. numbered n (grown s.run.now (go m))) (sym is) ∙ (sym (ap (numbered n) stop.onward) ∙ so_far))

at_closing : (n b : ℕ) (rest : List ℕ) → rest ≡ [] → Some (n, b) ≡ numbered n (at_end b rest)
at_closing n b [] e = let none : n ≡ n + 0 = omega arith in ap (λ (m : ℕ). Some (m, b)) none
at_closing n b (c ∷ cs) e = absurd (let more = ap length e in omega (arith, more))

past_closing : (n b : ℕ) (rest : List ℕ) → (length rest == 0) ≡ false → None ≡ numbered n (at_end b rest)
past_closing n b [] e = absurd (false≢true (sym e))
past_closing n b (c ∷ cs) e = refl

pub returns-in-Some : goal.returns-in-Some
returns-in-Some c = rw c.as_bytes.ensures.value at c.in-Some.ensures

pub loop-stop-init : goal.loop-stop-init
loop-stop-init c = (c.utf8.text, refl, omega arith)

pub loop-stop-smaller-in-Pass-1 : goal.loop-stop-smaller-in-Pass-1
loop-stop-smaller-in-Pass-1 c = let s = c.in-Some-next_stop.stop in stop_shorter c.loop-stop.left.now s.run.now s.rest.now s.byte c.in-Some-next_stop.ensures.whole

pub loop-stop-preserved-in-Pass-1 : goal.loop-stop-preserved-in-Pass-1
loop-stop-preserved-in-Pass-1 c =
    let s = c.in-Some-next_stop.stop in (
      search rules,
      counted_on c.args.form c.loop-stop.place c.args.text.now c.loop-stop.left.now c.loop-stop.count s _ c.loop-stop.invariant.1 c.in-Some-next_stop.ensures c.in-Pass.is,
      omega (arith, c.loop-stop.invariant.2, stop_shorter c.loop-stop.left.now s.run.now s.rest.now s.byte c.in-Some-next_stop.ensures.whole),
    )

pub loop-stop-smaller : goal.loop-stop-smaller
loop-stop-smaller c = let s = c.in-Some-next_stop.stop in stop_shorter c.loop-stop.left.now s.run.now s.rest.now s.byte c.in-Some-next_stop.ensures.whole

pub loop-stop-preserved : goal.loop-stop-preserved
loop-stop-preserved c =
    let form = form_of c.args.form in
    let s = c.in-Some-next_stop.stop in (
      search rules,
      one_more form s.rest.now c.loop-stop.count (read form Start s.rest.now)
          ∙ counted_on c.args.form c.loop-stop.place c.args.text.now c.loop-stop.left.now c.loop-stop.count s Part c.loop-stop.invariant.1 c.in-Some-next_stop.ensures c.in-Part.is,
      omega (arith, c.loop-stop.invariant.2, stop_shorter c.loop-stop.left.now s.run.now s.rest.now s.byte c.in-Some-next_stop.ensures.whole),
    )

pub returns-in-End : goal.returns-in-End
returns-in-End c =
    let s = c.in-Some-next_stop.stop in
    at_closing c.loop-stop.count s.byte s.rest.now (none_in s.rest.now (sym c.is_empty.ensures ∙ c.if-is_empty.true))
    ∙ counted_on c.args.form c.loop-stop.place c.args.text.now c.loop-stop.left.now c.loop-stop.count s End c.loop-stop.invariant.1 c.in-Some-next_stop.ensures c.in-End.is

pub returns-in_default-cell : goal.returns-in_default-cell
returns-in_default-cell c =
    let s = c.in-Some-next_stop.stop in
    past_closing c.loop-stop.count s.byte s.rest.now (sym c.is_empty.ensures ∙ c.if-is_empty.false)
    ∙ counted_on c.args.form c.loop-stop.place c.args.text.now c.loop-stop.left.now c.loop-stop.count s End c.loop-stop.invariant.1 c.in-Some-next_stop.ensures c.in-End.is

pub returns : goal.returns
returns c = sym (ap (numbered c.loop-stop.count) c.in_default-next_stop.ensures.0) ∙ c.loop-stop.invariant.1
