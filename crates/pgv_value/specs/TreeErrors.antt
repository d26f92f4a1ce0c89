-- What the refusals of label trees and queries become where they are passed on.
use Rattle.pgv_value.specs.declared.error.CodecError.{CodecError}
use Rattle.pgv_value.specs.declared.error.CodecError.TheVariants.{Memory as OutOfMemory, LTree, LQuery}
use Rattle.pgv_value.specs.declared.tree_error.PgLTreeParseError.{PgLTreeParseError}
use Rattle.pgv_value.specs.declared.tree_error.PgLTreeParseError.TheVariants.{Memory as TreeMemory}
use Rattle.pgv_value.specs.declared.tree_error.PgLQueryParseError.{PgLQueryParseError}
use Rattle.pgv_value.specs.declared.tree_error.PgLQueryParseError.TheVariants.{Memory as QueryMemory, LTreeParrseError}

-- a label's refusal, of a query; out of memory stays
abbrev pub query_refusal : PgLTreeParseError → PgLQueryParseError
query_refusal TreeMemory = QueryMemory
query_refusal e = LTreeParrseError e

-- a decoder's: C36 with the tree's refusal, and C1 for out of memory
abbrev pub tree_refused : PgLTreeParseError → CodecError
tree_refused TreeMemory = OutOfMemory
tree_refused e = LTree e

-- C37 with the query's refusal, and C1 for out of memory
abbrev pub query_refused : PgLQueryParseError → CodecError
query_refused QueryMemory = OutOfMemory
query_refused e = LQuery e
