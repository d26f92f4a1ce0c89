use Rattle.std.proofs.Common.{◌≡◌, ◌≤◌, drop, length}
use Rattle.std.specs.Prelude.{vec_len, vec_capacity}
use Rattle.pgv_copy.specs.CopyBinary.{fields}
use Rattle.pgv_copy.proofs.FieldLoop.{continued}
use Rattle.pgv_copy.proofs.reader.read_fields.Given as goal

-- what was read and what is left to read are the fields of the row, no bytes came back, and there is room for the row
abbrev pub invariant-loop-type_info : goal.invariant-loop-type_info
invariant-loop-type_info l = record {
  read : continued l.row.items (fields (drop l.type_info-index l.types) l.bytes.now) ≡ fields l.types l.fn.bytes.now;
  within : length l.bytes.now ≤ length l.fn.bytes.now;
  many : vec_len l.row ≡ l.type_info-index;
  enough : length l.types ≤ vec_capacity l.row;
  kept : vec_capacity l.fn.row ≤ vec_capacity l.row;
}
