use Rattle.std.proofs.Common.{ap, sym, subst, ◌∙◌}
use Rattle.std.proofs.lemmas.List.{append-nil}
use Rattle.std.specs.Str.{chars}
use Rattle.pgv_types.specs.Names.{AreSignificant}
use Rattle.pgv_types.specs.Agree.{significant}
use Rattle.pgv_types.proofs.Walks.{walk_gives}
use Rattle.pgv_types.proofs.name.identifier_chars.Goals as goal

pub returns-clause-meaning : goal.returns-clause-meaning
returns-clause-meaning c =
    subst (AreSignificant (chars c.args.name.now)) (sym (c.new.ensures ∙ ap significant (append-nil c.args.name.now))) (walk_gives (chars c.args.name.now))
