use Rattle.std.proofs.Common.{rules}
use Rattle.std.specs.Option.{option_copied}
use Rattle.pgv_session.specs.Lines.{oid_named}
use Rattle.pgv_session.proofs.Wording.{named_more, named_none, less_left}
use Rattle.pgv_session.proofs.line.oids.Goals as goal

pub returns-in_default-oid : goal.returns-in_default-oid
returns-in_default-oid c = named_none oid_named c.loop-left.oids.items c.in-Some.text.now c.args.text.now (search rules) (search rules)

pub loop-left-smaller : goal.loop-left-smaller
loop-left-smaller c = less_left c.in-Some.text.now (option_copied c.loop-left.left) (option_copied c.split_word.result.1) (search rules) c.split_word.ensures.1

pub loop-left-preserved : goal.loop-left-preserved
loop-left-preserved c = named_more oid_named c.loop-left.oids.items c.push.new.self.items c.in-Some-oid.oid c.in-Some.text.now c.args.text.now (option_copied c.split_word.result.1) c.in_ok-push.ensures.items c.split_word.ensures.1 (search rules) (search rules)
