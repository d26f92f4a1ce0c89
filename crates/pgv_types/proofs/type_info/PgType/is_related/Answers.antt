use Rattle.std.proofs.Common.{sym, ◌∙◌}
use Rattle.pgv_types.specs.Shown.{type_of}
use Rattle.pgv_types.proofs.Lawful.{by_rest}
use Rattle.pgv_types.proofs.Related.{by_bases, when_open}
use Rattle.pgv_types.proofs.type_info.PgType.is_related.Goals as goal

pub returns-in-Some : goal.returns-in-Some
returns-in-Some c =
    by_bases c.args.soft (type_of c.args.self.now) (type_of c.args.other.now) c.in-Some.same (sym c.same_base.ensures ∙ c.in-Some.is)

pub returns-then-is_open : goal.returns-then-is_open
returns-then-is_open c =
    when_open c.args.soft (type_of c.args.self.now) (type_of c.args.other.now) (sym c.same_base.ensures ∙ c.in_default.is) (sym c.is_open.ensures ∙ c.if-is_open.true)

pub returns : goal.returns
returns c =
    c.rest_related.ensures
    ∙ by_rest c.args.soft (type_of c.args.self.now) (type_of c.args.other.now) (sym c.same_base.ensures ∙ c.in_default.is) (sym c.is_open.ensures ∙ c.if-is_open.false)
