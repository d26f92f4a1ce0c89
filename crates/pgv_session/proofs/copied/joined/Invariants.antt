use Rattle.std.proofs.Common.{◌≡◌, ◌++◌, drop}
use Rattle.std.specs.Prelude.{map, string_bytes}
use Rattle.pgv_session.specs.Session.{all_with, more_after}
use Rattle.pgv_session.proofs.copied.joined.Given as goal

abbrev pub invariant-loop-text : goal.invariant-loop-text
invariant-loop-text l = string_bytes l.joined ++ more_after l.fn.between (map (λ t. string_bytes t) (drop l.text-index l.rest)) ≡ all_with l.fn.between (map (λ t. string_bytes t) l.fn.texts)
