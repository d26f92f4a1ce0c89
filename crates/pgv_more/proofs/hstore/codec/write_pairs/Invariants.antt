use Rattle.std.proofs.Common.{◌≡◌, ◌++◌, List}
use Rattle.std.specs.Prelude.{map}
use Rattle.pgv_buf.specs.Tokens.{Token, blank}
use Rattle.pgv_more.proofs.HstoreWritten.{Before}
use Rattle.pgv_more.specs.Hstore.{pair_of}
use Rattle.pgv_more.proofs.hstore.codec.write_pairs.Given as goal

-- the pairs so far are written, and the others follow
abbrev pub invariant-loop-key : goal.invariant-loop-key
invariant-loop-key l = (ts : List Token) × (l.out ≡ l.initial.out ++ blank ts) × Before (map pair_of l.hstore.entries) (map pair_of l.key-iterator) ts
