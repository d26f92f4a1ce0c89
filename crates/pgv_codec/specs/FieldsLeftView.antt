-- What is left of a record, without where it lies in memory.
use Rattle.std.specs.Prelude.{◌+◌, ◌<◌, ◌^◌, length, ⊤}
use Rattle.pgv_text.specs.PartsView.{copies, nest}
use Rattle.pgv_codec.specs.declared.types.record.FieldsLeft.{FieldsLeft}
use Rattle.pgv_codec.specs.declared.types.record.FieldsLeft.TheVariants.{Binary, Text}
use Rattle.pgv_codec.specs.declared.types.record.TextFields.{TextFields}
use Rattle.pgv_codec.specs.RecordGrammar.{Left, binary_fields, text_fields}

abbrev pub left_in_text : TextFields → Left
left_in_text fields = text_fields fields.count (copies fields.parts) (nest fields.parts).values

abbrev pub left_of : FieldsLeft → Left
left_of (Binary fields) = binary_fields fields.type_info fields.place fields.rest.now
left_of (Text fields) = left_in_text fields

-- in binary the next place is a number that the code has
abbrev pub IsInPlace : FieldsLeft → Type 0
IsInPlace (Binary fields) = fields.place + length fields.rest.now < 2 ^ 64
IsInPlace (Text fields) = ⊤
