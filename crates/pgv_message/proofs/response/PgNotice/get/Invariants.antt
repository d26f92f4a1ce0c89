use Rattle.std.proofs.Common.{◌≡◌, drop, map}
use Rattle.pgv_message.specs.Notice.{field_view, fields_of_notice, text_by}
use Rattle.pgv_message.proofs.response.PgNotice.get.Given as goal

abbrev pub invariant-loop-field : goal.invariant-loop-field
invariant-loop-field l = text_by l.code (map field_view (drop l.field-index l.self.fields.items)) ≡ text_by l.code (fields_of_notice l.self)
