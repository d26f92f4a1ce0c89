use Rattle.std.proofs.Common.{rules, arith, ◌≡◌, ◌≢◌, ◌++◌, [], ◌∷◌, List, ℕ, ap, length}
use Rattle.std.specs.Prelude.{IfSome}
use Rattle.std.specs.Io.KnownBytes.{Appends}
use Rattle.std.specs.Io.BufRead.{take_through, DropsThrough}
use Rattle.pgv_session.specs.Lines.{text_before}
use Rattle.pgv_session.specs.Session.{AnswersLine}
use Rattle.pgv_runner.proofs.SoFar.{kept, so_far, whole}
use Rattle.pgv_runner.proofs.runner.answer_lines.Goals as goal

pub returns-in-Ok-eq0-clause-session : goal.returns-in-Ok-eq0-clause-session
returns-in-Ok-eq0-clause-session g c =
    whole _ _ _ _ c.loop.arguments (kept _ _ _ _ _ c.loop.arguments c.loop.invariant c.in_ok-show_answers.ensures) (c.in-Ok-eq0.ensures.end (search rules))

pub loop-preserved : goal.loop-preserved
loop-preserved g c =
    let line = c.read_until.new.buf.items in
    let read : IfSome (g.R.Read.remaining c.loop.reader) (λ xs. line ≡ take_through 10 xs) = rw c.clear.ensures.items at c.in-Ok.ensures.bytes in
    let rest : DropsThrough (g.R.Read.remaining c.loop.reader) (g.R.Read.remaining c.read_until.new.self) 10 = c.in-Ok.ensures.rest in
    let told : (text : List ℕ) × AnswersLine (text_before 10 line) c.loop.arguments text c.respond.new.arguments × Appends (g.W.Write.contents c.show_answers.new.writer) (g.W.Write.contents c.respond.new.writer) (text ++ 10 ∷ []) =
    rw c.as_slice.ensures.value at c.in_ok-respond.ensures in
    let some : line ≢ [] = λ e.
    let none : length line ≡ 0 = ap length e in
    absurd (omega (arith, none, c.in-Ok.ensures.ok, c.clear.ensures.len, c.read_until.new.buf.ok.0, c.in-Ok.field-0-test)) in
    so_far _ _ _ _ _ _ c.loop.arguments c.respond.new.arguments line told.0 (kept _ _ _ _ _ c.loop.arguments c.loop.invariant c.in_ok-show_answers.ensures) some read rest told.1 told.2
