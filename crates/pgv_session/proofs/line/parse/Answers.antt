use Rattle.std.proofs.Common.{rules}
use Rattle.std.specs.Prelude.{Ok, None}
use Rattle.pgv_session.proofs.LineSpellings.{meant}
use Rattle.pgv_session.proofs.line.parse.Goals as goal

pub returns-then-is_word : goal.returns-then-is_word
returns-then-is_word c = meant c.args.line.now (Ok c.add_line.result) (search rules)

pub returns-then-is_word-2 : goal.returns-then-is_word-2
returns-then-is_word-2 c = meant c.args.line.now (Ok c.null_line.result) (search rules)

pub returns-then-is_word-3 : goal.returns-then-is_word-3
returns-then-is_word-3 c = meant c.args.line.now (Ok c.alone.result) (search rules)

pub returns-then-is_word-4 : goal.returns-then-is_word-4
returns-then-is_word-4 c = meant c.args.line.now c.resolve_line.result (search rules)

pub returns-then-is_word-5 : goal.returns-then-is_word-5
returns-then-is_word-5 c = meant c.args.line.now (Ok c.alone-then-is_word-5.result) (search rules)

pub returns-then-is_word-6 : goal.returns-then-is_word-6
returns-then-is_word-6 c = meant c.args.line.now c.read_line.result (search rules)

pub returns-then-is_word-7 : goal.returns-then-is_word-7
returns-then-is_word-7 c = meant c.args.line.now c.copy_line.result (search rules)

pub returns : goal.returns
returns c = meant c.args.line.now (Ok None) (search rules)
