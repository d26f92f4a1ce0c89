use Rattle.std.proofs.Common.{◌≡◌, ◌++◌, drop}
use Rattle.std.specs.Prelude.{string_bytes}
use Rattle.pgv_session.specs.Session.{names_after, names_shown}
use Rattle.pgv_session.proofs.session.names.Given as goal

abbrev pub invariant-loop-hole_type : goal.invariant-loop-hole_type
invariant-loop-hole_type l = string_bytes l.text ++ names_after (drop l.hole_type-index l.rest) ≡ names_shown l.fn.types
