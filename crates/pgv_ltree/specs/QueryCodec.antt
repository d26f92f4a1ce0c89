-- What queries are written as and read from (PostgreSQL: appendix F, "ltree"; lquery_send, lquery_recv): the version 1
-- in one byte, and then the printed text. In text they are read from their text alone. In binary the text is UTF-8.
-- There is no image if a label in the query is invalid.
use Rattle.std.specs.Prelude.{ℕ, codes, if◌then◌else◌, List, ◌∷◌, Option, Some, None, Result, Ok, Err}
use Rattle.pgv_types.specs.Ty.{Ty, named}
use Rattle.pgv_buf.specs.Tokens.{bytes}
use Rattle.pgv_codec.specs.Encoding.{Image, image_of}
use Rattle.pgv_value.specs.Formats.{in_both_formats}
use Rattle.pgv_value.specs.Outcome.{Outcome, after, in_place, ◌>>=◌}
use Rattle.pgv_value.specs.Parsed.{Parsed}
use Rattle.pgv_value.specs.ValueView.{Given}
use Rattle.pgv_value.specs.declared.error.CodecError.TheVariants.{LQuery}
use Rattle.pgv_value.specs.declared.tree_error.PgLQueryParseError.{PgLQueryParseError}
use Rattle.pgv_value.specs.declared.tree_error.PgLQueryParseError.TheVariants.{InvalidLqueryVersion}
use Rattle.pgv_ltree.specs.TreesCodec.{versioned}
use Rattle.pgv_ltree.specs.Queries.{Level, is_query}
use Rattle.pgv_ltree.specs.QueryPrinted.{printed_query}
use Rattle.pgv_ltree.specs.QueryRead.{begins_with_level, query_read}

-- the type and its arrays, of which only the names are known
abbrev pub lquery : Ty
lquery = named (codes "lquery")

abbrev pub lquery_array : Ty
lquery_array = named (codes "_lquery")

-- what is written; levels that can't be have no image
abbrev pub query_image : List Level → Option Image
query_image levels = if is_query levels then Some (image_of (bytes (1 ∷ printed_query levels))) else None

-- what a text is read as; why it is no query is C37
abbrev pub query_parsed : Result (List Level) PgLQueryParseError → Parsed (List Level)
query_parsed (Ok levels) = Ok levels
query_parsed (Err e) = Err (LQuery e)

-- a query in text; memory is asked for where the text begins with a level, as far as its first variant says
abbrev pub query_in_text : List ℕ → Outcome (List Level)
query_in_text text = after (begins_with_level text) (in_place (query_parsed (query_read text)))

-- in binary another version is C37
abbrev pub query_in_binary : List ℕ → Outcome (List Level)
query_in_binary form = do
  text ← in_place (versioned (LQuery InvalidLqueryVersion) form)
  query_in_text text

-- a query in either format
abbrev pub parse_query : Given → Outcome (List Level)
parse_query = in_both_formats query_in_binary query_in_text
