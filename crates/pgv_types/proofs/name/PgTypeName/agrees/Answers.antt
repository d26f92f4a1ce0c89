use Rattle.std.proofs.Common.{◌∙◌, ◌⊎◌, inl, inr, ap, sym}
use Rattle.std.proofs.lemmas.Bool.{false≢true}
use Rattle.pgv_types.specs.Agree.{BeginsUnicode, significant}
use Rattle.pgv_types.specs.Left.{left}
use Rattle.pgv_types.specs.Names.{all_alike}
use Rattle.pgv_types.specs.Whole.{whole_name}
use Rattle.pgv_types.proofs.Tells.{agree_plain, agree_same, agree_unicode}
use Rattle.pgv_types.proofs.name.PgTypeName.agrees.Goals.{then-begins_unicode-via-then-begins_unicode, then-begins_unicode-via-else-begins_unicode+then-begins_unicode-2}
use Rattle.pgv_types.proofs.name.PgTypeName.agrees.Goals as goal

pub returns-then-is_same : goal.returns-then-is_same
returns-then-is_same c = sym (agree_same (whole_name c.args.self.now) (whole_name c.args.other.now) (sym c.is_same.ensures ∙ c.if-is_same.true))

pub returns-then-begins_unicode : goal.returns-then-begins_unicode
returns-then-begins_unicode c =
    let begins : BeginsUnicode (whole_name c.args.self.now) ⊎ BeginsUnicode (whole_name c.args.other.now) =
    elim c.then-begins_unicode.branch [
      | then-begins_unicode-via-then-begins_unicode w ↦ inl (c.begins_unicode.ensures.0 w.if-begins_unicode.true)
      | then-begins_unicode-via-else-begins_unicode+then-begins_unicode-2 w ↦ inr (w.begins_unicode-else-begins_unicode.ensures.0 w.if-begins_unicode-2.true)
    ] in
    c.is_same-then-begins_unicode.ensures ∙ sym (agree_unicode (whole_name c.args.self.now) (whole_name c.args.other.now) begins)

pub returns : goal.returns
returns c =
    let a = whole_name c.args.self.now in
    let b = whole_name c.args.other.now in
    c.are_alike.ensures
    ∙ (ap (λ xs. all_alike xs (left c.new-2.result)) c.new.ensures
    ∙ (ap (all_alike (significant a)) c.new-2.ensures
    ∙ sym (agree_plain a b (λ u. false≢true (sym c.if-begins_unicode.false ∙ c.begins_unicode.ensures.1 u))
    (λ u. false≢true (sym c.if-begins_unicode-2.false ∙ c.begins_unicode-else-begins_unicode.ensures.1 u)))))
