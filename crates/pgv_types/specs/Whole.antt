-- What contracts see of the name of a type: its whole text.
use Rattle.std.specs.Prelude.{ℕ, List, ◌++◌}
use Rattle.pgv_types.specs.declared.name.PgTypeName.{PgTypeName}
use Rattle.pgv_types.specs.Suffix.{suffix_of}

abbrev pub name_text : PgTypeName → List ℕ
name_text n = n.text.now

abbrev pub name_suffix : PgTypeName → List ℕ
name_suffix n = suffix_of n.brackets

abbrev pub whole_name : PgTypeName → List ℕ
whole_name n = name_text n ++ name_suffix n
