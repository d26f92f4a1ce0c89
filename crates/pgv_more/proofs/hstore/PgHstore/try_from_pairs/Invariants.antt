use Rattle.std.proofs.Common.{◌≡◌, []}
use Rattle.std.specs.Prelude.{map}
use Rattle.pgv_more.specs.Hstore.{pair_of, put_all, text_pair_of}
use Rattle.pgv_more.proofs.hstore.PgHstore.try_from_pairs.Given as goal

-- what the iterator gave is in the map
abbrev pub invariant-loop-key : goal.invariant-loop-key
invariant-loop-key g l = map pair_of l.map.entries ≡ put_all [] (map text_pair_of l.yielded)
