use Rattle.std.proofs.Common.{◌≡◌, drop}
use Rattle.pgv_copy.specs.CopyBinary.{fields}
use Rattle.pgv_copy.specs.CopyPieces.{rest_after}
use Rattle.pgv_copy.proofs.pieces.after_fields.Given as goal

-- what comes after the fields that are left is what comes after all of them
abbrev pub invariant-loop-type_info : goal.invariant-loop-type_info
invariant-loop-type_info l = rest_after (fields (drop l._type_info-index l.types) l.rest) ≡ rest_after (fields l.types l.bytes)
