-- The lemmas that a caller's proofs are made of, all under one path; the words that they speak of are in `Words`.

-- Steps of a proof that a value is read back (`ReadsBack`): what is written has an image (`image_is`), a value that has
-- one has passed the test before it (`guarded`), and bytes are written as they are (`part_is`, `write-bytes`); what has
-- a reading was parsed (`parsed_as`). Then the law for `i32`, `i64` and `String`.
pub use Rattle.pgv_codec.specs.Back.{image_is}
pub use Rattle.pgv_codec.specs.PartBackLemmas.{guarded, write-bytes}
pub use Rattle.pgv_codec.specs.ScalarBackLemmas.{part_is, parsed_as, int4_back, int8_back, text_back}
-- The three steps for a composite.
pub use Rattle.pgv_codec.specs.RecordBackLemmas.{further_back, last_back, record_back}
-- For a record that is written field by field, one `more_fields` for each.
pub use Rattle.pgv_codec.specs.FieldLemmas.{no_fields, more_fields, all_fields}
-- A field that is plain fits.
pub use Rattle.pgv_codec.proofs.PlainFits.{field_fits}
-- The law for `PgLTree`.
pub use Rattle.pgv_ltree.specs.TreeBackLemmas.{tree_back}
-- A text of ASCII alone is UTF-8.
pub use Rattle.pgv_ltree.specs.Ascii.{ascii_is_utf8}
