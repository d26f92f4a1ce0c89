use Rattle.std.proofs.Common.{◌++◌, refl}
use Rattle.pgv_codec.proofs.Lists.{both}
use Rattle.pgv_more.specs.Hstore.{pair_written}
use Rattle.pgv_more.proofs.hstore.codec.write_pair.Goals as goal

pub returns-clause-exact : goal.returns-clause-exact
unfolding pair_written
returns-clause-exact c =
    let key = c.in_ok-write_text.ensures.exact in
    let value = c.in_ok-write_value.ensures.exact in
    (key.0 ++ value.0, rw (key.1, value.1) refl, both c.args.out.now c.write_text.new.out c.write_value.new.out key.0 value.0 key.2 value.2)
