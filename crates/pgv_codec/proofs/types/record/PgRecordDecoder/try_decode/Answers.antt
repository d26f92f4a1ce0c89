use Rattle.std.proofs.Common.{rules, ◌≡◌, ◌∷◌}
use Rattle.std.specs.Option.{option_copied}
use Rattle.std.proofs.lemmas.Result.{err_from_is_err_and}
use Rattle.pgv_types.specs.Ty.{by_oid}
use Rattle.pgv_text.specs.PartsView.{copies, nest}
use Rattle.pgv_value.specs.ValueView.{given}
use Rattle.pgv_value.specs.Outcome.{Fails}
use Rattle.pgv_value.specs.declared.value.PgValueFormat.TheVariants.{Text}
use Rattle.pgv_codec.specs.RecordGrammar.{text_fields}
use Rattle.pgv_codec.proofs.PartLoop.{text_unread}
use Rattle.pgv_codec.proofs.types.record.PgRecordDecoder.try_decode.Goals as goal

pub returns-in_err-value-in-Text-clause-exact : goal.returns-in_err-value-in-Text-clause-exact
returns-in_err-value-in-Text-clause-exact g c =
    let fields = c.in-Text.fields in
    let part = option_copied c.in_text.result in
    let later = (nest c.next_borrowed.new.self).values in
    let error = c.in_err-value-in-Text.field-0.0 in
    let split : (nest fields.parts).values ≡ part ∷ later = search rules in
    let left : c.args.self.now ≡ text_fields fields.count (copies fields.parts) (nest fields.parts).values = search rules in
    let unread : Fails error (g.T.Decode.parse (given (by_oid 0) Text part)) = search rules in
    let all = text_unread g.T.Type.accepts g.T.Decode.parse fields.count (copies fields.parts) part later error unread in
    let p = err_from_is_err_and c.from_residual-in_err-value-in-Text.result c.from_residual-in_err-value-in-Text.ensures.1 in
    rw (p.1, p.2, left, split) all
