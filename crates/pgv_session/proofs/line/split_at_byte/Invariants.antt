use Rattle.std.proofs.Common.{◌≡◌, ◌++◌, take, drop}
use Rattle.pgv_session.specs.Lines.{text_before, text_after}
use Rattle.pgv_session.proofs.line.split_at_byte.Given as goal

abbrev pub invariant-loop-place : goal.invariant-loop-place
invariant-loop-place l = record {
  text_before : text_before l.mark l.line ≡ take l.place l.line ++ text_before l.mark (drop l.place l.line);
  text_after : text_after l.mark l.line ≡ text_after l.mark (drop l.place l.line);
}
