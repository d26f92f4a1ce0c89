-- What a record encoder has written, and where.
use Rattle.std.specs.Prelude.{List}
use Rattle.pgv_buf.specs.Tokens.{Cell}
use Rattle.pgv_codec.specs.declared.types.record.PgRecordEncoder.{PgRecordEncoder}
use Rattle.pgv_codec.specs.Record.{RecordWriting, writing_at}

-- what stood before the record, the number of its fields, and these
abbrev pub written : PgRecordEncoder → RecordWriting
written e = writing_at e.mark e.count e.out.now

-- what the buffer has that it writes to
abbrev pub buffer : PgRecordEncoder → List Cell
buffer e = e.out.now
