use Rattle.std.proofs.Common.{rules}
use Rattle.pgv_codec.specs.FieldLemmas.{record_written}
use Rattle.pgv_codec.proofs.types.field_list.encode_record.Goals as goal

pub returns-clause-encodes : goal.returns-clause-encodes
returns-clause-encodes g c = record_written (g.Fields.WrittenList.fields c.args.fields.now) c.in_ok-record.ensures.begun c.in_ok-write.ensures.exact (search (rules, c.finish.ensures))
