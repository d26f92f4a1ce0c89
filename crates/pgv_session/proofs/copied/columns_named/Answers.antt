use Rattle.std.proofs.Common.{rules, ap, ◌∙◌}
use Rattle.std.specs.Option.{option_copied}
use Rattle.std.proofs.lemmas.List.{map-append}
use Rattle.pgv_session.specs.CopiedView.{rows_of}
use Rattle.pgv_session.specs.Types.{row_named, row_of, types}
use Rattle.pgv_session.proofs.Wording.{named_more, named_none, less_left}
use Rattle.pgv_session.proofs.copied.columns_named.Goals as goal

pub returns-in_default-type_name : goal.returns-in_default-type_name
returns-in_default-type_name c = named_none (row_named types) (rows_of c.loop-left.columns.items) c.in-Some.text.now c.args.names.now (search rules) (search rules)

pub loop-left-smaller : goal.loop-left-smaller
loop-left-smaller c = less_left c.in-Some.text.now (option_copied c.loop-left.left) (option_copied c.split_word.result.1) (search rules) c.split_word.ensures.1

pub loop-left-preserved : goal.loop-left-preserved
loop-left-preserved c =
    named_more (row_named types) (rows_of c.loop-left.columns.items) (rows_of c.push.new.self.items) (row_of c.in-Some-type_name.column) c.in-Some.text.now c.args.names.now (option_copied c.split_word.result.1)
    (ap rows_of c.in_ok-push.ensures.items ∙ map-append row_of _ _) c.split_word.ensures.1 (search rules) (search rules)
