use Rattle.std.proofs.Common.{◌≡◌, ℕ, List, Option, Some, None, Result, Ok, Err, IsOk, refl}
use Rattle.std.proofs.lemmas.Result.{err_from_is_err_and}
use Rattle.std.proofs.Output.{displays_on_IsOk_append}
use Rattle.std.specs.Prelude.{codes}
use Rattle.std.specs.Fmt.{DisplaysOnOk, option_append}
use Rattle.std.specs.declared.fmt.Error.{Error}
use Rattle.std.specs.declared.fmt.Formatter.{Formatter}
use Rattle.pgv_range.specs.RangeShown.{end_text, range_text, start_text}
use Rattle.pgv_range.proofs.range.PgRangeDisplay.fmt.Goals as goal

-- what an error has written isn't said
refused : {W : Type 0} (took : W → List ℕ → W → Type 0) (f g : Formatter W) (e : Error) (o : Option (List ℕ)) → DisplaysOnOk took f (Err e) o g
refused took f g e None = tt
refused took f g e (Some bs) = λ _ fine. absurd cc

is_ok : (r : Result (Unit {0}) Error) → r ≡ Ok tt → IsOk r
is_ok r is = rw is refl

pub returns-in_err-write_start-in-Bounds-clause-writes : goal.returns-in_err-write_start-in-Bounds-clause-writes
returns-in_err-write_start-in-Bounds-clause-writes g c =
    let p = err_from_is_err_and c.from_residual.result c.from_residual.ensures.1 in
    rw p.1 (refused g.W.Write.write_str_gives c.args.f.now c.write_start.new.f p.0 (range_text g.T.Display.output c.args.self.now))

pub returns-in_err-write_str-in-Bounds-clause-writes : goal.returns-in_err-write_str-in-Bounds-clause-writes
returns-in_err-write_str-in-Bounds-clause-writes g c =
    let p = err_from_is_err_and c.from_residual-in_err-write_str-in-Bounds.result c.from_residual-in_err-write_str-in-Bounds.ensures.1 in
    rw p.1 (refused g.W.Write.write_str_gives c.args.f.now c.write_str-in-Bounds.new.self p.0 (range_text g.T.Display.output c.args.self.now))

-- the lower bound, a comma and the upper bound, one after the other
pub returns-in_ok-write_str-in-Bounds-clause-writes : goal.returns-in_ok-write_str-in-Bounds-clause-writes
returns-in_ok-write_str-in-Bounds-clause-writes g c =
    let took = g.W.Write.write_str_gives in
    let lower = start_text g.T.Display.output c.in-Bounds.start in
    let comma = Some (codes ",") in
    let upper = end_text g.T.Display.output c.in-Bounds.end in
    let first =
    displays_on_IsOk_append took c.args.f.now c.write_start.new.f c.write_str-in-Bounds.new.self c.write_start.result c.write_str-in-Bounds.result lower comma (λ _. is_ok c.write_start.result c.in_ok-write_start-in-Bounds.was) c.write_start.ensures c.write_str-in-Bounds.ensures.writes in
    rw c.in-Bounds.is
    (displays_on_IsOk_append took c.args.f.now c.write_str-in-Bounds.new.self c.write_end.new.f c.write_str-in-Bounds.result c.write_end.result (option_append lower comma) upper (λ _. is_ok c.write_str-in-Bounds.result c.in_ok-write_str-in-Bounds.was) first c.write_end.ensures)
