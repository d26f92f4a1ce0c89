-- The words that contracts over this codec are made of, all under one path, each with what it is.

-- Types, as contracts see them: finite trees. `builtin 23` is a type by its OID, `named (codes "mood")` by its name,
-- and `array_of (codes "mood")` an array by its element's name.
pub use Rattle.pgv_types.specs.Ty.{Ty, builtin, named, array_of}
-- `softly t u` is what `type_compatible` answers, `exactly t u` what `type_eq` does.
pub use Rattle.pgv_types.specs.Relations.{softly, exactly}
pub use Rattle.pgv_types.specs.declared.oid.Oid.{Oid}
-- Tokens, which values are written as: `byte 97`, `hole t`, `slot default cases`; `bytes` of a list, `be4` of a number.
pub use Rattle.pgv_buf.specs.Tokens.{Token, byte, hole, slot, bytes, be4}
-- `image_of tokens` and `null_image` are images. An `Encoding` is what an encoder says of a value: a size hint, the
-- type that it produces, and an outcome of an image. `plainly image` has neither a hint nor a type, `with_hint n image`
-- a hint, and `unwritten` no image; `writes o` appends the image where o is `Some`. `frame encoding` is the length and
-- the image, or why there is none. `field info encoding` is a field of a record, and `record_image fields` the image of
-- all.
pub use Rattle.pgv_codec.specs.Encoding.{Encoding, Image, null_image, image_of, plainly, with_hint, writes, unwritten, frame, field, record_image, value_type}
-- The images of numbers of a width (`signed_image w32`), of truth values, texts and UUIDs.
pub use Rattle.pgv_codec.specs.ScalarImage.{signed_image, unsigned_image, bool_image, text_image, uuid_image}
-- `blank tokens` are tokens in a buffer that is not filled yet: what a call that appends has put after `out.old`.
-- `shown cells` are the bytes that a buffer shows.
pub use Rattle.pgv_buf.specs.Tokens.{blank, shown}
-- Characters by name, for texts of one's own; of a text itself, `codes ".."` are the bytes.
pub use Rattle.pgv_characters.specs.Characters.{space, comma, colon, hyphen, dot, slash, digit_zero, digit_nine, left_parenthesis, right_parenthesis, left_brace, right_brace}
-- `Part` is what a frame holds: `None` for null, or `Some` bytes. `front bytes` is the frame in front:
-- `Some (part, rest)`, or `None`; `value_front type format bytes` is it as a value: `Ok (value, rest)`, or `Err` why
-- there is none.
pub use Rattle.pgv_value.specs.FrameBinary.{Part, front}
-- `max_length` is the largest length, and `null_length` the one that means null.
pub use Rattle.pgv_value.specs.FrameBinary.{max_length, null_length}
pub use Rattle.pgv_value.specs.Fronts.{value_front}
pub use Rattle.pgv_value.specs.declared.value.PgValueFormat.{PgValueFormat}
pub use Rattle.pgv_value.specs.declared.value.PgValueFormat.TheVariants.{Binary, Text}
-- For `parse` of `Plain` and `Decode`. `Given` is a value of a row: its part, its type and its format. `Parsed M` is
-- what is read without memory: `Ok` of a view, or `Err` why not, and `>>=` goes on where something was read.
-- `without_memory` makes a `parse` of such a grammar. `Outcome M` says too whether memory may be asked for by then:
-- `copied parsed` is a list of which memory is asked for where it isn't empty. A grammar that is read step by step is
-- written with the words of `Steps`. `Gives view outcome result` is what a reader answers, and `Reads parse value view`
-- that it reads this.
pub use Rattle.pgv_value.specs.ValueView.{Given, given}
pub use Rattle.pgv_value.specs.Parsed.{Parsed, ◌>>=◌, GivesExactly}
pub use Rattle.pgv_value.specs.Outcome.{Outcome, Gives, Reads, without_memory, copied, ok_of}
-- `lent parse` is what is read of a value by reference: what is read of its copy.
pub use Rattle.pgv_codec.specs.Lent.{lent}
-- What the elements of an array are read as, and of an array of n: in text under the elements' own type.
pub use Rattle.pgv_codec.specs.ArrayGrammar.{parse_array, parse_sized}
-- `scalar` and `binary_alone` make a grammar of one for each format, or for binary; `in_both_formats` and
-- `in_binary_alone` do so where memory may be asked for. `utf8_part` is a text in either format.
pub use Rattle.pgv_value.specs.ScalarGrammar.{scalar, binary_alone}
pub use Rattle.pgv_value.specs.Formats.{in_both_formats, in_binary_alone}
-- The grammars of truth values, numbers of a width (`parse_int w32`; in binary `int_in_binary w32`), OIDs, UUIDs and
-- texts.
pub use Rattle.pgv_value.specs.ScalarGrammar.{parse_bool, parse_int, int_in_binary, parse_oid, parse_uuid}
pub use Rattle.pgv_value.specs.Text.{utf8_part, parse_text}
-- `reading_of parse`, `error_of parse` and `takes_of parse` are its three parts: the reading, why nothing is read, and
-- whether memory may be asked for.
pub use Rattle.pgv_value.specs.Outcome.{reading_of, error_of, takes_of}
-- `UnexpectedNull` is C13, `WrongLength n` C17, `TextUnsupported` C18, `Syntax` C29, and `Caller n` an error of your
-- own. `code_of error` is the number of any.
pub use Rattle.pgv_value.specs.declared.error.CodecError.{CodecError}
pub use Rattle.pgv_value.specs.Codes.{code_of}
pub use Rattle.pgv_value.specs.declared.error.CodecError.TheVariants.{Caller, Syntax, TextUnsupported, UnexpectedNull, WrongLength}
-- `next_row reader` is what the next call of a `PgCopyReader` gives: a row or the end, and the reader after it;
-- `step reader` is the same but for memory: `Ok (Some row, after)`, `Ok (None, after)` at the end, or `Err` why it is
-- refused. `bytes_left reader` falls with each row. `next_row_in room reader` is the same for a list that has room for
-- some values.
pub use Rattle.pgv_copy.specs.CopyBinary.{next_row, next_row_in, step, bytes_left}
-- `Advances old answer new`: what `advance` of a `PgCopyPieces` answers, and the reader after it, by `next_of`, what
-- the bytes that came begin with. `with_more old piece` is the reader that has taken a piece.
pub use Rattle.pgv_copy.specs.CopyPieces.{Advances, next_of, with_more}
-- Of arguments: their buffer, their types, and type and frame of each. `early (framed a) types oids` are the bytes of
-- these frames, written with types and OIDs from the start. `Adds frame type old new result`: what `add` has put after
-- what was there (`Added`), or why not; `argument_frame encoding` is the frame of an argument.
pub use Rattle.pgv_wire.specs.Arguments.{Added, Adds, Argument, argument_frame, all_cells, types_in, framed, early}
-- `hole_types_of cells` are the types whose OIDs are missing, and `oid_of type` is the OID that a type has.
pub use Rattle.pgv_buf.specs.Tokens.{hole_types_of}
pub use Rattle.pgv_types.specs.Facts.{oid_of}
-- `ReadAs bytes parts rest`: frames one after another, with a rest.
pub use Rattle.pgv_wire.specs.ArgumentParts.{ReadAs}
-- `ArgumentReadsBack encoding reading kept fits`: an argument is read back, whatever else was added and filled.
pub use Rattle.pgv_wire.specs.Given.{ArgumentReadsBack}
-- `ReadsBack encoding reading kept fits` is the law of `ReadBack`; `always` for `fits` is every type. `FieldFits` says
-- where the last field of a composite fits, `FieldsFit` where one and those after it do; `Followed` and `FieldIsPlain`
-- say so in plain words.
pub use Rattle.pgv_codec.specs.Back.{ReadsBack, always, FieldFits, FieldsFit, Followed}
pub use Rattle.pgv_codec.specs.PlainFit.{FieldIsPlain}
-- `written_part i p oids` is the part that an image is written as, and `write p oids tokens` the bytes of tokens.
-- `ImageFits i`: each case of a slot has as many bytes as its default.
pub use Rattle.pgv_codec.specs.Writing.{write, written_part}
pub use Rattle.pgv_codec.specs.Back.{ImageFits}
-- `are_ascii text`: it is of ASCII alone.
pub use Rattle.pgv_ltree.specs.Ascii.{are_ascii}
-- Of an enum: `labelled rows label` is the value that a table of labels gives to a label, and `are_labels rows` says
-- that its labels are UTF-8. `label_written label` is what is written of a label, and `parse_label label_of rows` how
-- one is read.
pub use Rattle.pgv_user_types.specs.EnumLabels.{labelled, are_labels, label_written, parse_label}
-- What a plain type of one's own says of itself: its types, what is written of a value, what is read, and two proofs.
pub use Rattle.pgv_user_types.specs.Plains.{PlainRules}
-- What comes back of a tree.
pub use Rattle.pgv_ltree.specs.TreeBackLemmas.{tree_kept}
-- `capacity room` is how many columns a row in this room may have before it asks for memory.
pub use Rattle.pgv_row.specs.RowParts.{capacity}
-- Why a column of a row was not read: `NotFound index place`, or `Decode index place source`.
pub use Rattle.pgv_row.specs.declared.error.ColumnError.{ColumnError}
pub use Rattle.pgv_row.specs.declared.error.ColumnError.TheVariants.{NotFound, Decode}
-- `AreMade rows before types`: types that rows of a server's catalogue show, each of parts that come before it.
pub use Rattle.pgv_catalog.specs.Rows.{AreMade}
