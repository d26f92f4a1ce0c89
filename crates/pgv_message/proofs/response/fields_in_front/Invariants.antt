use Rattle.std.proofs.Common.{◌≡◌, ◌-◌, ◌+◌, ◌≤◌, length, map}
use Rattle.std.specs.Prelude.{vec_len}
use Rattle.pgv_message.specs.Notice.{field_view, fields_in}
use Rattle.pgv_message.proofs.Notices.{continued}
use Rattle.pgv_message.proofs.response.fields_in_front.Given as goal

-- what was read and what is left to read are the fields
abbrev pub invariant-loop-code : goal.invariant-loop-code
invariant-loop-code l = record {
  read : continued (map field_view l.fields.items) (fields_in (length l.bytes - vec_len l.fields) l.rest) ≡ fields_in (length l.bytes) l.bytes;
  fits : length l.rest + vec_len l.fields ≤ length l.bytes;
}

abbrev pub decreases-loop-code : goal.decreases-loop-code
decreases-loop-code l = length l.rest
