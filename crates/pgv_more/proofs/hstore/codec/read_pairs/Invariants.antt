use Rattle.std.proofs.Common.{[]}
use Rattle.std.specs.Prelude.{map}
use Rattle.pgv_more.proofs.HstoreRead.{IsOf}
use Rattle.pgv_more.specs.Hstore.{pair_of, put_read}
use Rattle.pgv_more.proofs.hstore.codec.read_pairs.Given as goal

-- what is in the map, and the pairs that are still to be put into it, are what all the bytes say
abbrev pub invariant-loop : goal.invariant-loop
invariant-loop l = IsOf (map pair_of l.map.entries) l.count l.counter l.rest (put_read [] l.count l.form)
