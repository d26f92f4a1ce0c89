use Rattle.std.proofs.Common.{◌≡◌, List, ◌++◌, drop}
use Rattle.pgv_buf.specs.Tokens.{Token, blank}
use Rattle.pgv_codec.proofs.Lists.{still, with_front}
use Rattle.pgv_codec.proofs.types.array.write_each.Given as goal

-- what was written, and that with what is still written it is all
abbrev pub invariant-loop-value : goal.invariant-loop-value
invariant-loop-value g l =
    (ts : List Token) × (l.out ≡ l.initial.out ++ blank ts) × (with_front ts (still g.T.Encode.encoding (drop l.value-index l.values)).answer ≡ (still g.T.Encode.encoding l.values).answer)
